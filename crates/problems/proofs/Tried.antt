-- What the moves that were tried tell, by the positions below.
use Rattle.std.specs.Option.{MatchOption}
use Rattle.std.proofs.Common.{Option, Some, None, ◌≡◌, ◌≢◌, ℕ, zero, suc, inl, inr, ◌⊎◌, ◌+◌, ◌-◌, ◌<◌, ◌↔◌, IsTrue, Bool, true, false, not, eqb, List, [], ◌∷◌, take, length, get_or, All, Contains, refl, sym, ap, ◌∙◌, subst, arith}
use mathlib.Core.Bool.{beq}
use Rattle.std.proofs.lemmas.Bool.{false≢true}
use Rattle.std.proofs.lemmas.List.Elements.{All-append, All-contains, Contains-get_or}
use Rattle.std.specs.List.Sorted.{IsPermutation}
use Rattle.std.proofs.lemmas.List.Sorted.{IsPermutation-sym, Contains-permutation}
use Rattle.std.proofs.Math.Seq.{take-suc}
use Rattle.board.specs.declared.game.Side.{Side}
use Rattle.board.specs.Games.{is_same_side}
use Rattle.board.specs.Board.{PlainBoard}
use Rattle.rules.specs.declared.goal.Goal.{Goal}
use Rattle.rules.specs.declared.goal.Goal.TheVariants.{Mate, MateOrStale}
use Rattle.rules.specs.Squares.{Ply}
use Rattle.rules.specs.Moves.{IsMove, IsLawful}
use Rattle.rules.specs.Forces.{IsReached, Forces}
use Rattle.rules.proofs.Keeps.{one_after}
use Rattle.rules.proofs.Forcing.{to_own, to_other, turn-own, turn-other}
use Rattle.problems.specs.declared.question.Question.{Question}
use Rattle.problems.specs.Questions.{IsForced, LeadsTo}
use Rattle.problems.specs.Tried.{ListsAll, is_own, Goes, IsAsSaid, IsPassed, IsCut, TellsOfTried}
use Rattle.board.proofs.RankText.{on_true as on_own, on_false as on_other}

-- ---- an answer below

pub goes_by : (own answer : Bool) (P : Type 0) → (IsTrue answer ↔ P) → answer ≢ own → Goes own P
goes_by true true P h apart = absurd (apart refl)
goes_by true false P h apart = λ p. false≢true (h.1 p)
goes_by false true P h apart = h.0 refl
goes_by false false P h apart = absurd (apart refl)

pub ends_by : (own answer : Bool) (P : Type 0) → (IsTrue answer ↔ P) → answer ≡ own → IsAsSaid own P
ends_by true true P h same = h.0 refl
ends_by true false P h same = absurd (false≢true same)
ends_by false true P h same = absurd (false≢true (sym same))
ends_by false false P h same = λ p. false≢true (h.1 p)

-- ---- the answer

-- where there is a lawful move, the goal is not reached
pub not_reached : (goal : Goal) (b : PlainBoard) (m : Ply) → IsLawful b m → IsReached goal b → ⊥
not_reached Mate b m lawful mated = mated.no_move m lawful
not_reached MateOrStale b m lawful (inl mated) = mated.no_move m lawful
not_reached MateOrStale b m lawful (inr stale) = stale.no_move m lawful

module _ (q : Question) (n : ℕ) where
  ended : (own : Bool) (k : ℕ) → own ≡ is_same_side q.attacker q.position.mover → (m : Ply) (b : PlainBoard) → IsMove q.position m b → IsAsSaid own (Forces q.goal q.attacker b k) → IsTrue own ↔ IsForced q (suc k)
  ended true k turn m b move e = (λ _. to_own _ _ _ (sym turn) (m, b, move, e), λ _. refl)
  ended false k turn m b move e = (
    λ is. absurd (false≢true is),
    λ f. absurd (elim (on_other _ _ _ (sym turn) f) [
      | inl there ↦ not_reached q.goal q.position m (b, move) there
      | inr w ↦ e (w.1 m b move)
    ]),
  )

  -- the answer below ends the search
  pub ended_answer : (own : Bool) → own ≡ is_same_side q.attacker q.position.mover → 0 < n → (m : Ply) (b : PlainBoard) → IsMove q.position m b → IsAsSaid own (Forces q.goal q.attacker b (n - 1)) → IsTrue own ↔ IsForced q n
  ended_answer own turn some m b move e = let up : suc (n - 1) ≡ n = omega arith in subst (λ k. IsTrue own ↔ IsForced q k) up (ended own (n - 1) turn m b move e)

  gone : (own : Bool) (k : ℕ) → own ≡ is_same_side q.attacker q.position.mover → (m : Ply) × IsLawful q.position m → ((m : Ply) → IsLawful q.position m → IsPassed q k own m) → IsTrue (not own) ↔ IsForced q (suc k)
  gone true k turn some all = (
    λ is. absurd (false≢true is),
    λ f. absurd (let w = on_own _ _ _ (sym turn) f in all w.0 (w.1, w.2) w.1 w.2 w.3),
  )
  gone false k turn some all = (
    λ _. to_other _ _ _ (sym turn) (inr (some, λ m b move. all m (b, move) b move)),
    λ _. refl,
  )

  -- no answer below ends it
  pub gone_answer : (own : Bool) → own ≡ is_same_side q.attacker q.position.mover → 0 < n → (m : Ply) × IsLawful q.position m → ((m : Ply) → IsLawful q.position m → IsPassed q (n - 1) own m) → IsTrue (not own) ↔ IsForced q n
  gone_answer own turn plies some all = let up : suc (n - 1) ≡ n = omega arith in subst (λ k. IsTrue (not own) ↔ IsForced q k) up (gone own (n - 1) turn some all)

-- an empty list has no lawful move, and another has one
pub none_listed : (b : PlainBoard) (xs : List Ply) → ListsAll b xs → length xs ≡ 0 → (m : Ply) → IsLawful b m → ⊥
none_listed b xs lists e m lawful = let h = (lists m).1 lawful in absurd (omega (arith, h.1))

pub some_listed : (b : PlainBoard) (xs : List Ply) → ListsAll b xs → 0 < length xs → (m : Ply) × IsLawful b m
some_listed b xs lists lt = first xs lt (λ m. (lists m).0)
  where
    first : (ys : List Ply) → 0 < length ys → ((m : Ply) → Contains ys m → IsLawful b m) → (m : Ply) × IsLawful b m
    first [] lt h = absurd (omega (arith, lt))
    first (y ∷ ys) lt h = (y, h y (zero, omega arith, refl))

pub all_listed : (b : PlainBoard) (xs : List Ply) → ListsAll b xs → All (IsLawful b) xs
all_listed b xs lists k d lt = (lists (get_or xs k d)).0 (Contains-get_or xs k d lt)

-- ---- what the moves say

pub same_or_not : (a b : Bool) → (a ≡ b) ⊎ (a ≢ b)
same_or_not true true = inl refl
same_or_not true false = inr (λ e. false≢true (sym e))
same_or_not false true = inr false≢true
same_or_not false false = inl refl

pub other_of : (a b : Bool) → a ≢ b → not b ≡ a
other_of true true h = absurd (h refl)
other_of true false h = refl
other_of false true h = refl
other_of false false h = absurd (h refl)

pub not_self : (a : Bool) → not a ≢ a
not_self true e = false≢true e
not_self false e = false≢true (sym e)

module _ (q : Question) (n : ℕ) (answer : Bool) (plies : 0 < n) (some : (m : Ply) × IsLawful q.position m) (moves : List Ply) (lists : ListsAll q.position moves) where
  -- what the lawful moves tell is the answer
  pub answer_of : TellsOfTried q n moves answer → IsTrue answer ↔ IsForced q n
  answer_of tells = elim (same_or_not answer (is_own q)) [
    | inl same ↦ let (m, b, move, end) = tells.cut same in ended_answer q n answer same plies m b move end
    | inr apart ↦ subst (λ (r : Bool). IsTrue r ↔ IsForced q n) (other_of answer (is_own q) apart)
        (gone_answer q n (is_own q) refl plies some (λ m lawful. All-contains (IsPassed q (n - 1) (is_own q)) moves m (tells.passed apart) ((lists m).1 lawful)))
  ]

-- ---- one turn of the loop

pub beq_same : (a b : Bool) → beq a b ≡ true → a ≡ b
beq_same true true e = refl
beq_same true false e = absurd (false≢true e)
beq_same false true e = absurd (false≢true e)
beq_same false false e = refl

pub beq_apart : (a b : Bool) → beq a b ≡ false → a ≢ b
beq_apart a b e same = false≢true (sym e ∙ ap (beq a) (sym same) ∙ beq_self a)
  where
    beq_self : (a : Bool) → beq a a ≡ true
    beq_self true = refl
    beq_self false = refl

pub not_empty : (n : ℕ) → false ≡ eqb n 0 → 0 < n
not_empty zero e = absurd (false≢true e)
not_empty (suc n) e = omega arith

-- the answer of now holds for any number of plies, where there is no lawful move
pub now_answer : (goal : Goal) (attacker : Side) (b : PlainBoard) (n : ℕ) (there : Bool) → ((m : Ply) → IsLawful b m → ⊥) → (IsTrue there ↔ Forces goal attacker b 0) → IsTrue there ↔ Forces goal attacker b n
now_answer goal attacker b zero there none h = h
now_answer goal attacker b (suc n) there none h = by_turn (is_same_side attacker b.mover) refl
  where
    by_turn : (r : Bool) → is_same_side attacker b.mover ≡ r → IsTrue there ↔ Forces goal attacker b (suc n)
    by_turn true turn = (λ is. absurd (on_own _ ⊥ (IsReached goal b) turn (h.0 is)), λ f. absurd (let w = on_own _ _ _ turn f in none w.0 (w.1, w.2)))
    by_turn false turn = (
      λ is. to_other _ _ _ turn (inl (on_other _ ⊥ (IsReached goal b) turn (h.0 is))),
      λ f. elim (on_other _ _ _ turn f) [ inl reached ↦ h.1 (to_other _ ⊥ (IsReached goal b) turn reached) | inr w ↦ absurd (none w.0.0 w.0.1) ],
    )

-- ---- the moves that ended nothing

-- after one move more
pub passed_next : (q : Question) (n : ℕ) (own : Bool) (ms : List Ply) (i : ℕ) (m : Ply) (x : PlainBoard) → i < length ms → m ≡ get_or ms i m → IsMove q.position m x → All (IsPassed q n own) (take i ms) → Goes own (Forces q.goal q.attacker x n)
    → All (IsPassed q n own) (take (i + 1) ms)
passed_next q n own ms i m x lt is move before goes =
    let up : suc i ≡ i + 1 = omega arith in
    subst (λ k. All (IsPassed q n own) (take k ms)) up
    (subst (All (IsPassed q n own)) (sym (take-suc ms i m lt)) (All-append (IsPassed q n own) (take i ms) (get_or ms i m ∷ []) before (one (get_or ms i m) (subst (IsPassed q n own) is passed))))
  where
    passed : IsPassed q n own m
    passed b move' = subst (λ (z : PlainBoard). Goes own (Forces q.goal q.attacker z n)) (one_after q.position m x b move move') goes

    one : (y : Ply) → IsPassed q n own y → All (IsPassed q n own) (y ∷ [])
    one y h zero d small = h
    one y h (suc k) d small = absurd (omega arith)

-- ---- lists of moves in another order

pub lists_permuted : (b : PlainBoard) (xs ys : List Ply) → IsPermutation xs ys → ListsAll b xs → ListsAll b ys
lists_permuted b xs ys p lists m = (
  λ h. (lists m).0 (Contains-permutation ys xs m (IsPermutation-sym xs ys p) h),
  λ h. Contains-permutation xs ys m p ((lists m).1 h),
)

-- ---- by the questions below

-- the move passes the turn
pub passes_own : (q other : Question) (m : Ply) → LeadsTo q m other → is_own q ≡ true → is_own other ≡ false
passes_own q other m l own = subst (λ (o : Question). is_own o ≡ false) (sym l.2) (turn-own q.attacker q.position m l.0 l.1 own)

pub passes_other : (q other : Question) (m : Ply) → LeadsTo q m other → is_own q ≡ false → is_own other ≡ true
passes_other q other m l own = subst (λ (o : Question). is_own o ≡ true) (sym l.2) (turn-other q.attacker q.position m l.0 l.1 own)

-- one move more that ended nothing
pub passed_after : (q : Question) (n : ℕ) (own : Bool) (ms : List Ply) (i : ℕ) (m : Ply) (other : Question) → i < length ms → m ≡ get_or ms i m → LeadsTo q m other → All (IsPassed q n own) (take i ms) → Goes own (IsForced other n)
    → All (IsPassed q n own) (take (i + 1) ms)
passed_after q n own ms i m other lt is l before goes =
    passed_next q n own ms i m l.0 lt is l.1 before (subst (λ (o : Question). Goes own (IsForced o n)) l.2 goes)

-- a move that ends it
pub cut_after : (q : Question) (n : ℕ) (own : Bool) (m : Ply) (other : Question) → LeadsTo q m other → IsAsSaid own (IsForced other n) → IsCut q n own
cut_after q n own m other l ends = (m, l.0, l.1, subst (λ (o : Question). IsAsSaid own (IsForced o n)) l.2 ends)

-- the attacker has no move that wins
pub lost : (q : Question) (n : ℕ) → is_own q ≡ true → 0 < n → (moves : List Ply) → ListsAll q.position moves → All (IsPassed q (n - 1) true) moves → IsTrue false ↔ IsForced q n
lost q n turn plies moves lists all = (
  λ is. absurd (false≢true is),
  λ f.
      let up : n ≡ suc (n - 1) = omega (arith, plies) in
      let w = on_own _ _ _ turn (subst (IsForced q) up f) in
      absurd (All-contains (IsPassed q (n - 1) true) moves w.0 all ((lists w.0).1 (w.1, w.2)) w.1 w.2 w.3),
)

-- what holds of all that are listed holds of each lawful move
pub All-listed : (b : PlainBoard) (moves : List Ply) → ListsAll b moves → (P : Ply → Type 0) → All P moves → (m : Ply) → IsLawful b m → P m
All-listed b moves lists P all m lawful = All-contains P moves m all ((lists m).1 lawful)

-- with no lawful move, what is so now is so for any number of plies
pub now_for : (q : Question) (n : ℕ) (answer : Bool) → ((m : Ply) → IsLawful q.position m → ⊥) → (IsTrue answer ↔ IsForced q 0) → IsTrue answer ↔ IsForced q n
now_for q n answer none h = now_answer q.goal q.attacker q.position n answer none h

-- what the moves tell, if they were all tried, is the answer
pub tells_answer : (q : Question) (n : ℕ) (told : Type 0) (found : Option Bool) → 0 < n → (m : Ply) × IsLawful q.position m → (moves : List Ply) → ListsAll q.position moves → MatchOption found told (TellsOfTried q n moves) → MatchOption found told (λ yes. IsTrue yes ↔ IsForced q n)
tells_answer q n told None plies some moves lists h = h
tells_answer q n told (Some answer) plies some moves lists h = answer_of q n answer plies some moves lists h

-- with no ply left
pub now_zero : (q : Question) (n : ℕ) (answer : Bool) → 0 ≡ n → (IsTrue answer ↔ IsForced q 0) → IsTrue answer ↔ IsForced q n
now_zero q n answer none h = subst (λ k. IsTrue answer ↔ IsForced q k) none h
