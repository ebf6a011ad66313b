-- What a test, a search and the words of a line yield, by what is known of them.
use Rattle.std.proofs.Common.{◌≡◌, ◌↔◌, List, Bool, true, false, IsTrue, None, Some, refl, sym, ap, ◌∙◌, subst, ◌<◌, ◌≤◌, ℕ, suc, ◌+◌, [], ◌∷◌, length, get_or, drop, arith, Option, is_some, ◌≢◌, inl, inr, ◌-◌, ◌++◌, take, All, not, nat_lt, if◌then◌else◌, length-append}
use Rattle.verifying.proofs.Common.{false≢true, none-some, same_Some, Claim, YieldsOnly, FindsOnly, drop_all, drop_more, take-append-drop, Ply, Word, TellInTurn, NoneAbout, IsMoveAt, Meets, MeetsReply, MeetReplies, ShowWin, IsYesLine, Resists, TellsFailure, FailsBecause, ReachesNothing, ShowFailures, IsLesserLine, with_claim, Decides-not, nat_tests, get_or-append_seam, PlainBoard, Goal, IsMove, IsLawful, IsPlyBefore, ListsLawful, Forces, one_after, one_list, ClaimsSoFew, HasClaim, forced_within, Stalemated, AreApart, take_at, split3, one_way}
use Rattle.verifying.specs.declared.words.Word.TheVariants.{Place}
use Rattle.verifying.proofs.Failing.{one_move_at}

-- ---- a test

pub yields_none : (Makes : List Claim → Type 0) (claims : List Claim) → ((other : List Claim) → Makes other → ⊥) → YieldsOnly Makes false claims
yields_none Makes claims none other = (λ made. absurd (none other made), λ it. absurd (false≢true it.0))

pub yields_one : (Makes : List Claim → Type 0) (claims : List Claim) → ((other : List Claim) → Makes other ↔ (other ≡ claims)) → YieldsOnly Makes true claims
yields_one Makes claims one other = (λ made. (refl, (one other).0 made), λ it. (one other).1 it.1)

-- what comes to the same
pub yields_like : (Makes Like : List Claim → Type 0) (answer : Bool) (claims : List Claim) → ((other : List Claim) → Like other ↔ Makes other) → YieldsOnly Makes answer claims → YieldsOnly Like answer claims
yields_like Makes Like answer claims same h other = (λ like. (h other).0 ((same other).0 like), λ it. (same other).1 ((h other).1 it))

-- by one thing, which is the only one of its kind
pub yields_by : {X : Type 0} (Is : X → Type 0) (Makes : X → List Claim → Type 0) (x : X) (answer : Bool) (claims : List Claim) → Is x → ((y : X) → Is y → y ≡ x) → YieldsOnly (Makes x) answer claims → YieldsOnly (λ other. (y : X) × Is y × Makes y other) answer claims
yields_by Is Makes x answer claims is one h other =
    (λ made. (h other).0 (subst (λ y. Makes y other) (one made.0 made.1) made.2), λ it. (x, is, (h other).1 it))

-- ---- a search

pub finds_none : {X : Type 0} (Makes : X → List Claim → Type 0) (claims : List Claim) → ((x : X) (other : List Claim) → Makes x other → ⊥) → FindsOnly Makes None claims
finds_none Makes claims none x other = (λ made. absurd (none x other made), λ it. absurd (none-some x it.0))

-- what comes behind the claims that are made, if any are
pub finds_behind : {X : Type 0} (Makes : List Claim → Type 0) (behind : List Claim → X) (x : X) (shows : Bool) (claims : List Claim) → YieldsOnly Makes shows claims → x ≡ behind claims → FindsOnly (λ y other. Makes other × (y ≡ behind other)) (if shows then Some x else None) claims
finds_behind Makes behind x true claims h is y other = (
  λ made. let same = ((h other).0 made.0).1 in (ap Some (is ∙ (ap behind (sym same) ∙ sym made.1)), same),
  λ it. ((h other).1 (refl, it.1), sym (same_Some x y it.0) ∙ (is ∙ ap behind (sym it.1))),
)
finds_behind Makes behind x false claims h is y other = finds_none (λ y other. Makes other × (y ≡ behind other)) claims (λ y other made. false≢true ((h other).0 made.0).0) y other

-- ---- whether something is found

pub any_found : {X : Type 0} (Makes : X → List Claim → Type 0) (found : Option X) (claims : List Claim) → FindsOnly Makes found claims → YieldsOnly (λ other. (x : X) × Makes x other) (is_some found) claims
any_found Makes (Some x) claims h = λ other. (λ made. (refl, ((h made.0 other).0 made.1).1), λ it. (x, (h x other).1 (refl, it.1)))
any_found {X} Makes None claims h = yields_none (λ other. (x : X) × Makes x other) claims (λ other made. none-some made.0 ((h made.0 other).0 made.1).0)

-- whether it is this
pub this_found : {X : Type 0} (Makes : X → List Claim → Type 0) (x y : X) (same : Bool) (claims : List Claim) → FindsOnly Makes (Some x) claims → (IsTrue same ↔ (x ≡ y)) → YieldsOnly (Makes y) same claims
this_found Makes x y same claims h is other = (
  λ made. let it = (h y other).0 made in (is.1 (same_Some x y it.0), it.1),
  λ it. (h y other).1 (ap Some (is.0 it.0), it.1),
)

pub not_found : {X : Type 0} (Makes : X → List Claim → Type 0) (y : X) (claims : List Claim) → FindsOnly Makes None claims → YieldsOnly (Makes y) false claims
not_found Makes y claims h = yields_none (Makes y) claims (λ other made. none-some y ((h y other).0 made).0)

-- ---- words that tell of moves in turn

-- what all words tell is what those from this place on tell, over these claims
abbrev pub IsLeft : (Ply → Word → List Claim → List Claim → Type 0) → List Ply → List Word → List Claim → ℕ → List Claim → Type 0
IsLeft Tells moves words old i claims = (other : List Claim) → TellInTurn Tells moves words old other ↔ TellInTurn Tells (drop i moves) (drop i words) claims other

module _ (Tells : Ply → Word → List Claim → List Claim → Type 0) (moves : List Ply) (words : List Word) (old : List Claim) where
  -- the next word
  module _ (i : ℕ) (m : Ply) (word d : Word) (claims : List Claim) (within : i < length moves) (same : length words ≡ length moves) (is : m ≡ get_or moves i m) (was : word ≡ get_or words i d) (left : IsLeft Tells moves words old i claims) where
    opened : (other : List Claim) → TellInTurn Tells moves words old other ↔ TellInTurn Tells (m ∷ drop (i + 1) moves) (word ∷ drop (i + 1) words) claims other
    opened other =
        let ms : drop i moves ≡ m ∷ drop (i + 1) moves = drop_more moves i m within ∙ ap (λ (x : Ply). x ∷ drop (i + 1) moves) (sym is) in
        let ws : drop i words ≡ word ∷ drop (i + 1) words = drop_more words i d (omega arith) ∙ ap (λ (x : Word). x ∷ drop (i + 1) words) (sym was) in
        subst (λ (l : List Ply). TellInTurn Tells moves words old other ↔ TellInTurn Tells l (word ∷ drop (i + 1) words) claims other) ms
        (subst (λ (l : List Word). TellInTurn Tells moves words old other ↔ TellInTurn Tells (drop i moves) l claims other) ws (left other))

    pub one_less : (next : List Claim) (answer : Bool) → answer ≡ true → YieldsOnly (Tells m word claims) answer next → IsLeft Tells moves words old (i + 1) next
    one_less next answer so here other = (
      λ told. let at = (opened other).0 told in subst (λ (c : List Claim). TellInTurn Tells (drop (i + 1) moves) (drop (i + 1) words) c other) ((here at.0).0 at.1).1 at.2,
      λ rest. (opened other).1 (next, (here next).1 (so, refl), rest),
    )

    pub one_untold : (next : List Claim) (answer : Bool) → answer ≡ false → YieldsOnly (Tells m word claims) answer next → YieldsOnly (TellInTurn Tells moves words old) false next
    one_untold next answer out here = yields_none (TellInTurn Tells moves words old) next (λ other told. let at = (opened other).0 told in false≢true (sym out ∙ ((here at.0).0 at.1).0))

  -- the end
  pub none_left : (i : ℕ) (claims : List Claim) → length moves ≤ i → length words ≡ length moves → IsLeft Tells moves words old i claims → YieldsOnly (TellInTurn Tells moves words old) true claims
  none_left i claims whole same left = yields_one (TellInTurn Tells moves words old) claims (λ other.
      subst (λ (l : List Ply). TellInTurn Tells moves words old other ↔ TellInTurn Tells l [] claims other) (drop_all i moves whole)
      (subst (λ (l : List Word). TellInTurn Tells moves words old other ↔ TellInTurn Tells (drop i moves) l claims other) (drop_all i words (omega arith)) (left other)))

-- one word a move
told_each : (Tells : Ply → Word → List Claim → List Claim → Type 0) (moves : List Ply) (words : List Word) (old new : List Claim) → TellInTurn Tells moves words old new → length words ≡ length moves
told_each Tells [] [] old new told = refl
told_each Tells [] (v ∷ words) old new told = absurd told
told_each Tells (l ∷ moves) [] old new told = absurd told
told_each Tells (l ∷ moves) (v ∷ words) old new (next, first, rest) = ap suc (told_each Tells moves words next new rest)

pub not_each : (Tells : Ply → Word → List Claim → List Claim → Type 0) (moves : List Ply) (words : List Word) (old : List Claim) → (length words ≡ length moves → ⊥) → YieldsOnly (TellInTurn Tells moves words old) false old
not_each Tells moves words old differ = yields_none (TellInTurn Tells moves words old) old (λ other told. differ (told_each Tells moves words old other told))

-- ---- no claims

module _ (goal : Goal) (p : PlainBoard) (n : ℕ) (old : List Claim) where
  pub looked_through : (forced : Bool) → n ≤ 3 → (IsTrue forced ↔ Forces goal p.mover p n) → YieldsOnly (Resists goal p n old) (not forced) old
  looked_through forced small h other = (
    λ resists. elim resists [ inl seen ↦ ((Decides-not forced h).1 (seen.1 n (omega arith)), seen.2) | inr told ↦ absurd (omega (arith, small, told.0)) ],
    λ it. inl (small, (λ k within f. (Decides-not forced h).0 it.0 (forced_within goal p.mover p k n within f)), it.1),
  )

  -- no other claim is about the position
  pub claimed_so_many : (k : ℕ) (many : Bool) → 3 < n → (IsTrue many ↔ (n ≤ k)) → HasClaim old p k → AreApart old → YieldsOnly (Resists goal p n old) many old
  claimed_so_many k many large h claimed apart other = (to, λ it. inr (large, inl ((record { position = p; plies = k }, claimed, refl, h.0 it.0), it.1)))
    where
      to : Resists goal p n old other → IsTrue many × (other ≡ old)
      to (inl (small, nothing, is)) = absurd (omega (arith, small, large))
      to (inr (also, inl ((c, among, about, so_many), is))) =
          let same : c.plies ≡ k = apart p c.plies k (subst (λ (b : PlainBoard). HasClaim old b c.plies) about among) claimed in
          (h.1 (omega (arith, same, so_many)), is)
      to (inr (also, inr (none, is))) = absurd (none (record { position = p; plies = k }) claimed refl)

  pub claimed_anew : (new : List Claim) → 3 < n → NoneAbout old p → new ≡ with_claim old p n → YieldsOnly (Resists goal p n old) true new
  claimed_anew new large none made = yields_one (Resists goal p n old) new (λ other. (
    λ resists. elim resists [
      | inl seen ↦ absurd (omega (arith, seen.0, large))
      | inr told ↦ elim told.1 [ inl there ↦ absurd (none there.0.0 there.0.1 there.0.2) | inr anew ↦ anew.1 ∙ sym made ]
    ],
    λ is. inr (large, inr (none, is ∙ made)),
  ))

module _ (goal : Goal) (q : PlainBoard) (n : ℕ) (old : List Claim) where
  pub not_stalemated : (some : Bool) → (IsTrue some ↔ ((r : Ply) × IsLawful q r)) → some ≡ true → YieldsOnly (TellsFailure goal q n Stalemated old) (not some) old
  not_stalemated some h is = subst (λ t. YieldsOnly (TellsFailure goal q n Stalemated old) (not t) old) (sym is) (yields_none (TellsFailure goal q n Stalemated old) old (λ other tells. let r = h.0 is in tells.0 r.0 r.1))

  pub no_reply_there : (k : ℕ) → ((r : Ply) → IsMoveAt q k r → ⊥) → YieldsOnly (TellsFailure goal q n (Place k) old) false old
  no_reply_there k none = yields_none (TellsFailure goal q n (Place k) old) old (λ other tells. none tells.0 tells.2)

  pub escapes : (k : ℕ) (r : Ply) (p : PlainBoard) (answer : Bool) (new : List Claim) → IsMoveAt q k r → IsMove q r p → YieldsOnly (Resists goal p n old) answer new → YieldsOnly (TellsFailure goal q n (Place k) old) answer new
  escapes k r p answer new at move h other = (to, λ it. (r, p, at, move, (h other).1 it))
    where
      to : TellsFailure goal q n (Place k) old other → IsTrue answer × (other ≡ new)
      to (s, x, at_too, move_too, resists) =
          let one : s ≡ r = one_move_at q k s r at_too at in
          let same : x ≡ p = one_after q r x p (subst (λ (m : Ply). IsMove q m x) one move_too) move in
          (h other).0 (subst (λ (b : PlainBoard). Resists goal b n old other) same resists)

module _ (goal : Goal) (b : PlainBoard) (n : ℕ) (moves : List Ply) (words : List Word) (old : List Claim) where
  -- of one ply nothing is told
  pub one_ply : (nothing : Bool) → n ≡ 1 → words ≡ [] → (IsTrue nothing ↔ All (ReachesNothing goal b) moves) → YieldsOnly (ShowFailures goal b n moves words old) nothing old
  one_ply nothing one empty h other =
      (λ show. elim show [ inl none ↦ (h.1 none.2, none.3) | inr told ↦ absurd (omega (arith, one, told.0)) ], λ it. inl (one, empty, h.0 it.0, it.1))

  pub more_plies : (answer : Bool) (new : List Claim) → n ≢ 1 → 2 ≤ n → YieldsOnly (TellInTurn (FailsBecause goal b n) moves words old) answer new → YieldsOnly (ShowFailures goal b n moves words old) answer new
  more_plies answer new other two h = yields_like (TellInTurn (FailsBecause goal b n) moves words old) (ShowFailures goal b n moves words old) answer new
      (λ claims. (λ show. elim show [ inl one ↦ absurd (other one.0) | inr told ↦ told.1 ], λ told. inr (two, told))) h

pub because : (goal : Goal) (b : PlainBoard) (n : ℕ) (m : Ply) (word : Word) (q : PlainBoard) (answer : Bool) (old new : List Claim) → IsMove b m q → YieldsOnly (TellsFailure goal q (n - 2) word old) answer new → YieldsOnly (FailsBecause goal b n m word old) answer new
because goal b n m word q answer old new move h =
    yields_by (IsMove b m) (λ x other. TellsFailure goal x (n - 2) word old other) q answer new move (λ x also. one_after b m x q also move) h

-- ---- yes claims

-- the only claim about the position
pub one_claim : (claims : List Claim) (p : PlainBoard) (n k : ℕ) (few : Bool) → (IsTrue few ↔ (k ≤ n)) → HasClaim claims p k → AreApart claims → YieldsOnly (λ other. ClaimsSoFew claims p n × (other ≡ claims)) few claims
one_claim claims p n k few h claimed apart other = (to, λ it. ((record { position = p; plies = k }, claimed, refl, h.0 it.0), it.1))
  where
    to : ClaimsSoFew claims p n × (other ≡ claims) → IsTrue few × (other ≡ claims)
    to ((c, among, about, so_few), is) =
        let same : c.plies ≡ k = apart p c.plies k (subst (λ (b : PlainBoard). HasClaim claims b c.plies) about among) claimed in
        (h.1 (omega (arith, same, so_few)), is)

pub met_by : (goal : Goal) (q : PlainBoard) (n : ℕ) (r : Ply) (word : Word) (p : PlainBoard) (answer : Bool) (old new : List Claim) → IsMove q r p → YieldsOnly (Meets goal p n word old) answer new → YieldsOnly (MeetsReply goal q n r word old) answer new
met_by goal q n r word p answer old new move h =
    yields_by (IsMove q r) (λ x other. Meets goal x n word old other) p answer new move (λ x also. one_after q r x p also move) h

pub few_plies : (goal : Goal) (q : PlainBoard) (n : ℕ) (words : List Word) (old : List Claim) → (r : Ply) × IsLawful q r → n < 3 → YieldsOnly (ShowWin goal q n words old) false old
few_plies goal q n words old some few =
    yields_none (ShowWin goal q n words old) old (λ other show. elim show [ inl stuck ↦ stuck.0 some.0 some.1 | inr more ↦ omega (arith, few, more.1) ])

pub each_met : (goal : Goal) (q : PlainBoard) (n : ℕ) → (r : Ply) × IsLawful q r → (replies : List Ply) (words : List Word) (answer : Bool) (old new : List Claim) → ListsLawful q replies → 3 ≤ n
    → YieldsOnly (TellInTurn (MeetsReply goal q (n - 2)) replies words old) answer new → YieldsOnly (ShowWin goal q n words old) answer new
each_met goal q n some replies words answer old new lists enough met =
    yields_like (MeetReplies goal q (n - 2) words old) (ShowWin goal q n words old) answer new
    (λ other. (λ show. elim show [ inl stuck ↦ absurd (stuck.0 some.0 some.1) | inr more ↦ more.2 ], λ meet. inr (some, enough, meet)))
    (yields_by (ListsLawful q) (λ l other. TellInTurn (MeetsReply goal q (n - 2)) l words old other) replies answer new lists (λ l also. one_list q l replies also lists) met)

-- no move stands at the place
pub not_there : (goal : Goal) (c : Claim) (line words : List Word) (old : List Claim) (place : ℕ) → line ≡ Place place ∷ words → ((m : Ply) → IsMoveAt c.position place m → ⊥) → FindsOnly (λ n other. IsYesLine goal c n line old other) None old
not_there goal c line words old place is none = finds_none (λ n other. IsYesLine goal c n line old other) old (λ n other told. untold n told.0 told.1 told.2 told.3)
  where
    untold : (n : Ply) (k : ℕ) (rest : List Word) → line ≡ Place k ∷ rest → IsMoveAt c.position k n → ⊥
    untold n k rest is_too at = let here : place ≡ k = cc in none n (subst (λ (j : ℕ). IsMoveAt c.position j n) (sym here) at)

-- a yes line names one move
module _ (goal : Goal) (c : Claim) (line words : List Word) (old : List Claim) (place : ℕ) (m : Ply) (q : PlainBoard) (is : line ≡ Place place ∷ words) (at : IsMoveAt c.position place m) (move : IsMove c.position m q) where
  one_named : (n : Ply) (other : List Claim) → IsYesLine goal c n line old other → (n ≡ m) × ShowWin goal q c.plies words old other
  one_named n other (k, rest, is_too, at_too, some, x, move_too, win) =
      let here : place ≡ k = cc in
      let same : rest ≡ words = cc in
      let one : n ≡ m = one_move_at c.position place n m (subst (λ (j : ℕ). IsMoveAt c.position j n) (sym here) at_too) at in
      let there : x ≡ q = one_after c.position m x q (subst (λ (l : Ply). IsMove c.position l x) one move_too) move in
      (one, subst (λ (b : PlainBoard). ShowWin goal b c.plies words old other) there (subst (λ (l : List Word). ShowWin goal x c.plies l old other) same win))

  pub wins_with : (answer : Bool) (new : List Claim) → 0 < c.plies → answer ≡ true → YieldsOnly (ShowWin goal q c.plies words old) answer new → FindsOnly (λ n other. IsYesLine goal c n line old other) (Some m) new
  wins_with answer new some so h n other = (
    λ line_is. let one = one_named n other line_is in (ap Some (sym one.0), ((h other).0 one.1).1),
    λ it. subst (λ (l : Ply). IsYesLine goal c l line old other) (same_Some m n it.0) (place, words, is, at, some, q, move, (h other).1 (so, it.1)),
  )

  pub wins_not : (answer : Bool) (new : List Claim) → answer ≡ false → YieldsOnly (ShowWin goal q c.plies words old) answer new → FindsOnly (λ n other. IsYesLine goal c n line old other) None new
  wins_not answer new out h = finds_none (λ n other. IsYesLine goal c n line old other) new (λ n other line_is. false≢true (sym out ∙ ((h other).0 (one_named n other line_is).1).0))

-- ---- the moves in front of one

module _ (b : PlainBoard) (list : List Ply) (lists : ListsLawful b list) (first : Ply) where
  -- a list in order has a move once
  one_place : (i j : ℕ) → i < j → j < length list → get_or list i first ≡ first → get_or list j first ≡ first → ⊥
  one_place i j before within here there =
      let self : IsPlyBefore b.game first first = subst (λ (x : Ply). IsPlyBefore b.game x first) here (subst (λ (x : Ply). IsPlyBefore b.game (get_or list i first) x) there (lists.ordered i j first before within)) in
      one_way _ _ _ _ _ _ self self

  one_front : (lesser others : List Ply) (place : ℕ) → ListsLawful b (lesser ++ first ∷ others) → place < length list → get_or list place first ≡ first → lesser ≡ take place list
  one_front lesser others place also within there =
      let whole : lesser ++ first ∷ others ≡ list = one_list b (lesser ++ first ∷ others) list also lists in
      let seam : get_or list (length lesser) first ≡ first = ap (λ (l : List Ply). get_or l (length lesser) first) (sym whole) ∙ get_or-append_seam lesser first others first in
      let inside : length lesser < length list = omega (arith, ap length whole, length-append lesser (first ∷ others)) in
      let at : place ≡ length lesser = elim (split3 place (length lesser)) as (λ _. place ≡ length lesser) [
        | inl before ↦ absurd (one_place place (length lesser) before inside there seam)
        | inr (inl same) ↦ same
        | inr (inr behind) ↦ absurd (one_place (length lesser) place behind within seam there)
      ] in
      sym (ap (λ n. take n list) at ∙ (ap (λ (l : List Ply). take (length lesser) l) (sym whole) ∙ take_at lesser (first ∷ others) (length lesser) refl))

  pub lesser_fail : (goal : Goal) (n place : ℕ) (words : List Word) (answer : Bool) (old new : List Claim) → place < length list → get_or list place first ≡ first → YieldsOnly (ShowFailures goal b n (take place list) words old) answer new → YieldsOnly (IsLesserLine goal b n first words old) answer new
  lesser_fail goal n place words answer old new within there = yields_like (ShowFailures goal b n (take place list) words old) (IsLesserLine goal b n first words old) answer new (λ other. (to other, λ show. (take place list, drop (place + 1) list, subst (ListsLawful b) cut lists, show)))
    where
      cut : list ≡ take place list ++ first ∷ drop (place + 1) list
      cut = sym (take-append-drop place list) ∙ ap (λ (l : List Ply). take place list ++ l) (drop_more list place first within ∙ ap (λ (x : Ply). x ∷ drop (place + 1) list) there)

      to : (other : List Claim) → IsLesserLine goal b n first words old other → ShowFailures goal b n (take place list) words old other
      to other (lesser, others, also, show) = subst (λ (l : List Ply). ShowFailures goal b n l words old other) (one_front lesser others place also within there) show

  -- the move isn't in the list
  pub none_lesser : (goal : Goal) (n : ℕ) (words : List Word) (old new : List Claim) → ((k : ℕ) → k < length list → get_or list k first ≡ first → ⊥) → YieldsOnly (IsLesserLine goal b n first words old) false new
  none_lesser goal n words old new none = yields_none (IsLesserLine goal b n first words old) new (λ other line.
      let whole : line.0 ++ first ∷ line.1 ≡ list = one_list b (line.0 ++ first ∷ line.1) list line.2 lists in
      none (length line.0) (omega (arith, ap length whole, length-append line.0 (first ∷ line.1)))
      (ap (λ (l : List Ply). get_or l (length line.0) first) (sym whole) ∙ get_or-append_seam line.0 first line.1 first))

-- ---- the claim that no mate is shorter

pub if_less : {X : Type 0} (a b : ℕ) (x y : X) → a < b → (if nat_lt a b then x else y) ≡ x
if_less a b x y less = grind (arith, nat_tests)

pub if_not_less : {X : Type 0} (a b : ℕ) (x y : X) → b ≤ a → (if nat_lt a b then x else y) ≡ y
if_not_less a b x y more = grind (arith, nat_tests)
