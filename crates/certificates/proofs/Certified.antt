-- What a certificate shows is the answer.
use Rattle.std.proofs.Common.{◌≡◌, ℕ, zero, suc, ◌+◌, ◌-◌, ◌*◌, ◌<◌, ◌≤◌, ◌⊎◌, inl, inr, refl, sym, subst, arith, List}
use Rattle.board.specs.Board.{PlainBoard}
use Rattle.rules.specs.declared.goal.Goal.{Goal}
use Rattle.rules.specs.Squares.{Ply, square_number}
use Rattle.rules.specs.Moves.{IsLawful}
use Rattle.rules.specs.Order.{promotion_number, IsPlyBefore}
use Rattle.rules.specs.Forces.{Forces}
use Rattle.rules.proofs.Lists.{IsNumbered-lawful, same_ply, split3}
use Rattle.rules.proofs.Forcing.{same_side-self, Forces-even, twice, twice-double}
use Rattle.problems.specs.declared.answer.Answer.{Answer}
use Rattle.problems.specs.declared.answer.Answer.TheVariants.{Mate, NoneWithin}
use Rattle.problems.specs.Answer.{Wins, ForcesNothing, IsAnswer}
use Rattle.problems.proofs.Winning.{forced_by, nothing_at_once}
use Rattle.certificates.specs.declared.claim.Claim.{Claim}
use Rattle.certificates.specs.Claims.{AllHold, AllWon}
use Rattle.certificates.specs.Answers.{IsOdd, HasClaim, ShowsMate, ShowsNone, IsUpTo, Certifies}
use Rattle.certificates.proofs.Claimed.{no_claims, fails_to_win, wins_within}

-- ---- of two lawful moves one is before the other, or they are one

same_numbers : (b : PlainBoard) (l m : Ply) → IsLawful b l → IsLawful b m → square_number b.game l.from ≡ square_number b.game m.from → square_number b.game l.to ≡ square_number b.game m.to → promotion_number l.promotion ≡ promotion_number m.promotion → l ≡ m
same_numbers b l m x y from to promotion = same_ply b l m (IsNumbered-lawful b l x) (IsNumbered-lawful b m y) (omega (arith, from, to, promotion))

one_first : (b : PlainBoard) (l m : Ply) → IsLawful b l → IsLawful b m → IsPlyBefore b.game l m ⊎ ((l ≡ m) ⊎ IsPlyBefore b.game m l)
one_first b l m x y = elim (split3 (square_number b.game l.from) (square_number b.game m.from)) [
  | inl before ↦ inl (inl before)
  | inr (inr after) ↦ inr (inr (inl after))
  | inr (inl from) ↦ elim (split3 (square_number b.game l.to) (square_number b.game m.to)) [
    | inl before ↦ inl (inr (inl (from, before)))
    | inr (inr after) ↦ inr (inr (inr (inl (sym from, after))))
    | inr (inl to) ↦ elim (split3 (promotion_number l.promotion) (promotion_number m.promotion)) [
      | inl before ↦ inl (inr (inr (from, to, before)))
      | inr (inr after) ↦ inr (inr (inr (inr (sym from, sym to, after))))
      | inr (inl promotion) ↦ inr (inl (same_numbers b l m x y from to promotion))
    ]
  ]
]

-- ---- nothing within an odd number of plies is nothing within one ply more

le_or_next : (k n : ℕ) → k ≤ n + 1 → (k ≤ n) ⊎ (k ≡ n + 1)
le_or_next k n h = grind arith

one_more : (goal : Goal) (b : PlainBoard) (n : ℕ) → IsOdd n → ForcesNothing goal b n → ForcesNothing goal b (n + 1)
one_more goal b n (half, odd) nothing k within f = elim (le_or_next k n within) [
  | inl no_more ↦ nothing k no_more f
  | inr next ↦
      let double : twice half ≡ 2 * half = twice-double half in
      let even : k ≡ suc (suc (twice half)) = omega (arith, next, odd, double) in
      nothing (suc (twice half)) (omega (arith, odd, double)) (Forces-even half goal b.mover b (same_side-self b.mover) (subst (Forces goal b.mover b) even f))
]

-- ---- the answer

module _ (goal : Goal) (b : PlainBoard) (yeses noes : List Claim) (won : AllWon goal yeses) (hold : AllHold goal noes) where
  shown_nothing : (n : ℕ) → HasClaim noes b n → ForcesNothing goal b n
  shown_nothing n claimed = no_claims goal noes hold (record { position = b; plies = n }) claimed

  -- nothing is forced within fewer plies than the answer's
  no_fewer : (n : ℕ) → IsOdd n → (n ≡ 1) ⊎ HasClaim noes b (n - 2) → (k : ℕ) → k < n → Forces goal b.mover b k → ⊥
  no_fewer n odd (inl one) k fewer f = nothing_at_once goal b k (omega (arith, fewer, one)) f
  no_fewer n (zero, odd) (inr claimed) k fewer f = nothing_at_once goal b k (omega (arith, fewer, odd)) f
  no_fewer n (suc half, odd) (inr claimed) k fewer f =
      one_more goal b (n - 2) (half, omega (arith, odd)) (shown_nothing (n - 2) claimed) k (omega (arith, fewer, odd)) f

  mate_shown : (n : ℕ) (m : Ply) (limit : ℕ) → ShowsMate goal b yeses noes n m → n ≤ limit → IsAnswer goal b limit (Mate n m)
  mate_shown n m limit shown within =
      let some : 1 ≤ n = shown.wins.0 in
      let wins : Wins goal b n m = wins_within goal yeses won n b n m (omega arith) shown.wins in (
        within,
        record { forced = forced_by goal b n m (omega (arith, some)) wins; fewer = no_fewer n shown.odd shown.no_fewer },
        record { wins = wins; least = least wins },
      )
    where
      least : Wins goal b n m → (l : Ply) → Wins goal b n l → (l ≡ m) ⊎ IsPlyBefore b.game m l
      least wins l w = elim (one_first b l m (w.0, w.1) (wins.0, wins.1)) as (λ _. (l ≡ m) ⊎ IsPlyBefore b.game m l) [
        | inl before ↦ absurd (fails_to_win goal noes hold b n l shown.wins.0 (shown.no_lesser l before) w)
        | inr rest ↦ rest
      ]

  none_shown : (limit : ℕ) → ShowsNone b noes limit → IsAnswer goal b limit (NoneWithin limit)
  none_shown limit shown = (refl, λ k within f. one_more goal b shown.plies shown.odd (shown_nothing shown.plies shown.claimed) k (omega (arith, within, shown.enough)) f)

pub certified : (goal : Goal) (b : PlainBoard) (limit : ℕ) (answer : Answer) → Certifies goal b answer → IsUpTo limit answer → IsAnswer goal b limit answer
certified goal b limit (Mate n m) c within = mate_shown goal b c.yes_claims c.no_claims c.won c.held n m limit c.shown within
certified goal b limit (NoneWithin n) c within = subst (λ l. IsAnswer goal b l (NoneWithin n)) within (none_shown goal b c.yes_claims c.no_claims c.won c.held n c.shown)
