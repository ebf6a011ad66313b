-- What the list of keys says of the answer.
use Rattle.std.proofs.Common.{◌≡◌, ◌⊎◌, ℕ, zero, suc, ◌-◌, ◌<◌, ◌≤◌, Bool, true, false, List, [], ◌∷◌, length, Option, None, Some, refl, sym, ap, subst, inl, inr, arith, cond, Contains, AllPairs}
use Rattle.std.proofs.Math.Dec.{ltb}
use Rattle.std.proofs.lemmas.Bool.Decides.{nat_tests}
use Rattle.board.specs.Board.{PlainBoard}
use Rattle.rules.specs.declared.goal.Goal.{Goal}
use Rattle.rules.specs.Forces.{Forces}
use Rattle.rules.specs.Order.{IsPlyBefore}
use Rattle.rules.specs.Squares.{Ply}
use Rattle.rules.proofs.Forcing.{same_side-self}
use Rattle.problems.specs.declared.answer.Answer.TheVariants.{Mate}
use Rattle.problems.specs.Answer.{Wins, IsAnswer}
use Rattle.problems.proofs.Winning.{forced_by}
use Rattle.problems.specs.declared.key.Key.{Key}
use Rattle.problems.specs.Keys.{Takes, ListsKeys}
use Rattle.wintree.proofs.Listings.{among_first, among_more}
use Rattle.searcher.proofs.Forcing.{fewest_most, some_ply}
use Rattle.answer_laws.specs.Answers.{sooner, soonest, answer_by_soonest, IsNoBetter}
use Rattle.answer_laws.proofs.Listings.{before_later, tail_ordered}
use Rattle.board.proofs.RankText.{on_true as on_own}

-- ---- the first of the keys with the fewest plies

module _ (R : Key → Key → Type 0) where
  -- no key of the list takes fewer plies, and none that takes as many is before it
  pub record IsSoonest (keys : List Key) (key : Key) : Type 0 where
    pub among : Contains keys key
    pub rest : (other : Key) → Contains keys other → (key.plies < other.plies) ⊎ ((key.plies ≡ other.plies) × ((other ≡ key) ⊎ R key other))

  abbrev pub FitsList : List Key → Option Key → Type 0
  FitsList keys None = keys ≡ []
  FitsList keys (Some key) = IsSoonest keys key

  less_of : (i j : ℕ) → ltb i j ≡ true → i < j
  less_of i j e = grind (arith, nat_tests)

  most_of : (i j : ℕ) → ltb i j ≡ false → j ≤ i
  most_of i j e = grind (arith, nat_tests)

  same_or_more : (i j : ℕ) → i ≤ j → (i < j) ⊎ (i ≡ j)
  same_or_more i j le = grind arith

  module _ (key : Key) (keys : List Key) (ordered : AllPairs R (key ∷ keys)) where
    later_is : (later : Key) → later.plies < key.plies → IsSoonest keys later → IsSoonest (key ∷ keys) later
    later_is later less is = record {
      among = (suc is.among.0, omega (arith, is.among.1), is.among.2);
      rest = λ other among. elim (among_more key keys other among) [
        | inl e ↦ inl (subst (λ (k : Key). later.plies < k.plies) e less)
        | inr behind ↦ is.rest other behind
      ];
    }

    first_is : (later : Key) → key.plies ≤ later.plies → IsSoonest keys later → IsSoonest (key ∷ keys) key
    first_is later le is = record {
      among = among_first key keys;
      rest = λ other among. elim (among_more key keys other among) [
        | inl e ↦ inr (ap (λ (k : Key). k.plies) e, inl (sym e))
        | inr behind ↦ elim (same_or_more key.plies other.plies (no_fewer other behind)) [
          | inl more ↦ inl more
          | inr same ↦ inr (same, inr (before_later R key keys other ordered behind))
        ]
      ];
    }
      where
        no_fewer : (other : Key) → Contains keys other → key.plies ≤ other.plies
        no_fewer other behind = elim (is.rest other behind) [ inl more ↦ omega (arith, le, more) | inr same ↦ omega (arith, le, same.0) ]

    alone_is : keys ≡ [] → IsSoonest (key ∷ keys) key
    alone_is none = record {
      among = among_first key keys;
      rest = λ other among. elim (among_more key keys other among) [
        | inl e ↦ inr (ap (λ (k : Key). k.plies) e, inl (sym e))
        | inr behind ↦ absurd (omega (arith, behind.1, ap length none))
      ];
    }

    pick : (later : Key) (r : Bool) → r ≡ ltb later.plies key.plies → IsSoonest keys later → IsSoonest (key ∷ keys) (cond r later key)
    pick later true e is = later_is later (less_of _ _ (sym e)) is
    pick later false e is = first_is later (most_of _ _ (sym e)) is

    one_more : (o : Option Key) → FitsList keys o → IsSoonest (key ∷ keys) (sooner key o)
    one_more None none = alone_is none
    one_more (Some later) is = pick later _ refl is

  pub soonest_is : (keys : List Key) → AllPairs R keys → FitsList keys (soonest keys)
  soonest_is [] ordered = refl
  soonest_is (key ∷ keys) ordered = one_more key keys ordered (soonest keys) (soonest_is keys (tail_ordered R key keys ordered))

-- ---- what is forced has a key

-- what wins within n plies takes some number up to n
some_takes : (goal : Goal) (b : PlainBoard) (m : Ply) (most n : ℕ) → n ≤ most → 0 < n → Wins goal b n m → ((k : ℕ) → k ≤ n → Takes goal b k m → ⊥) → ⊥
some_takes goal b m zero n le some w none = absurd (omega (arith, le, some))
some_takes goal b m (suc most) n le some w none = none n (omega arith) (record {
  some = some;
  wins = w;
  fewer = λ k any less won. some_takes goal b m most k (omega (arith, le, less)) any won (λ j within takes. none j (omega (arith, within, less)) takes);
})

module _ (goal : Goal) (b : PlainBoard) (limit : ℕ) (keys : List Key) (lists : ListsKeys goal b limit keys) where
  abbrev key_of : Ply → ℕ → Key
  key_of m n = record { first = m; plies = n }

  listed : (n : ℕ) (m : Ply) → n ≤ limit → Takes goal b n m → Contains keys (key_of m n)
  listed n m within takes = (lists.exact (key_of m n)).1 (within, takes)

  none_sooner : (n : ℕ) → n ≤ limit → ((key : Key) → Contains keys key → key.plies ≤ n → ⊥) → Forces goal b.mover b n → ⊥
  none_sooner zero within none f = on_own _ _ _ (same_side-self b.mover) f
  none_sooner (suc n) within none f =
      let w = on_own _ _ _ (same_side-self b.mover) f in
      let down : n ≡ suc n - 1 = omega arith in
      some_takes goal b w.0 (suc n) (suc n) (omega arith) (omega arith) (w.1, w.2, subst (Forces goal b.mover w.1) down w.3)
      (λ k le takes. none (key_of w.0 k) (listed k w.0 (omega (arith, le, within)) takes) le)

  forced_by_key : (key : Key) → Contains keys key → Forces goal b.mover b key.plies
  forced_by_key key among = let is = (lists.exact key).0 among in forced_by goal b key.plies key.first is.1.some is.1.wins

  abbrev Before : Key → Key → Type 0
  Before k l = IsPlyBefore b.game k.first l.first

  answer_by : (o : Option Key) → FitsList Before keys o → IsAnswer goal b limit (answer_by_soonest limit o)
  answer_by None none = (refl, λ n within f. none_sooner n within (λ key among le. omega (arith, among.1, ap length none)) f)
  answer_by (Some key) is = (
    known.0,
    record { forced = forced_by_key key is.among; fewer = no_fewer },
    record { wins = known.1.wins; least = least },
  )
    where
      known : (key.plies ≤ limit) × Takes goal b key.plies key.first
      known = (lists.exact key).0 is.among

      no_fewer : (n : ℕ) → n < key.plies → Forces goal b.mover b n → ⊥
      no_fewer n less f = none_sooner n (omega (arith, less, known.0))
          (λ other among le. elim (is.rest other among) [ inl more ↦ omega (arith, less, le, more) | inr same ↦ omega (arith, less, le, same.0) ])
          f

      least : (l : Ply) → Wins goal b key.plies l → (l ≡ key.first) ⊎ IsPlyBefore b.game key.first l
      least l w =
          let takes : Takes goal b key.plies l = record { some = known.1.some; wins = w; fewer = λ n any less won. no_fewer n less (forced_by goal b n l any won) } in
          elim (is.rest (key_of l key.plies) (listed key.plies l known.0 takes)) [
            | inl more ↦ absurd (omega (arith, more))
            | inr same ↦ elim same.1 [ inl e ↦ inl (ap (λ (k : Key). k.first) e) | inr before ↦ inr before ]
          ]

  pub answer_of_keys : IsAnswer goal b limit (answer_by_soonest limit (soonest keys))
  answer_of_keys = answer_by (soonest keys) (soonest_is Before keys lists.ordered)

  -- ---- the answer's first move

  module _ (plies : ℕ) (first : Ply) (answer : IsAnswer goal b limit (Mate plies first)) where
    takes_first : Takes goal b plies first
    takes_first = record {
      some = some_ply goal b.mover b plies (same_side-self b.mover) answer.1.forced;
      wins = answer.2.wins;
      fewer = λ n any less won. answer.1.fewer n less (forced_by goal b n first any won);
    }

    same_or_more_plies : (i j : ℕ) → i ≤ j → (i < j) ⊎ (i ≡ j)
    same_or_more_plies i j le = grind arith

    no_better : (key : Key) → Contains keys key → IsNoBetter b plies first key
    no_better key among = elim (same_or_more_plies plies key.plies (fewest_most goal b plies key.plies answer.1 (forced_by_key key among))) [
      | inl more ↦ inl more
      | inr same ↦ inr (same, answer.2.least key.first (subst (λ n. Wins goal b n key.first) (sym same) ((lists.exact key).0 among).1.wins))
    ]

    pub first_is_key : Contains keys (key_of first plies) × ((key : Key) → Contains keys key → IsNoBetter b plies first key)
    first_is_key = (listed plies first answer.0 takes_first, no_better)
