-- What the bytes of a row say of the units of its rank.
use Rattle.std.proofs.Common.{◌≡◌, ◌⊎◌, ℕ, ◌+◌, ◌-◌, ◌<◌, inl, inr, zero, suc, refl, sym, ap, subst, ◌∙◌, arith, List, [], ◌∷◌, ◌++◌, length, get_or, replicate, Option, Some, None, Bool, true, false, ◌||◌, cond, eqb, IsTrue, All, length-append}
use Rattle.std.proofs.Math.ListN.{length-replicate}
use Rattle.std.proofs.lemmas.Bool.{false≢true}
use Rattle.std.proofs.lemmas.Bool.Decides.{nat_tests}
use Rattle.std.proofs.lemmas.List.Elements.{All-nil, All-cons, All-head, All-tail}
use Rattle.board.specs.declared.game.Game.{Game}
use Rattle.board.specs.declared.game.Side.{Side}
use Rattle.board.specs.declared.game.Kind.{Kind}
use Rattle.board.specs.declared.game.Kind.TheVariants.{Pawn}
use Rattle.board.specs.declared.game.Unit.{Unit as Man}
use Rattle.board.specs.Games.{IsPlayed}
use Rattle.board.specs.Fen.{letter_of, StartsNoRun, IsRankText}
use Rattle.board.specs.Fen.IsRankText.{end, unit, run}
use Rattle.board.specs.FenFaults.{is_digit, row_width, HasAdjacentRuns, has_pawn}
use Rattle.board.proofs.RowBytes.{IsPlayedAt, IsNoPawn, width_more, is_digit-from, digit_bounds, letter_no_digit, by_men}

-- ---- bytes

-- a digit above 0, or the letter of a unit that the game plays with
abbrev pub IsRowByte : Game → ℕ → Type 0
IsRowByte g c = ((48 < c) × (c < 58)) ⊎ ((u : Man) × IsPlayed g u.kind × (c ≡ letter_of u.side u.kind))

abbrev empty_square : Option Man
empty_square = None

-- what holds of all holds of what stands after a run
past_run : (P : Option Man → Type 0) (d : ℕ) (rest : List (Option Man)) → All P (replicate d None ++ rest) → All P rest
past_run P zero rest all = all
past_run P (suc d) rest all = past_run P d rest (All-tail P None (replicate d None ++ rest) all)

pub row_bytes : (g : Game) (row : List ℕ) (units : List (Option Man)) → IsRankText row units → All (IsPlayedAt g) units → All (IsRowByte g) row
row_bytes g [] units end played = All-nil _
row_bytes g (c ∷ row) old (unit {units = units} u e r) played =
    All-cons (IsRowByte g) c row (inr (u, All-head (IsPlayedAt g) (Some u) units played, e)) (row_bytes g row units r (All-tail (IsPlayedAt g) (Some u) units played))
row_bytes g (c ∷ row) old (run {units = units} d p q e s r) played =
    All-cons (IsRowByte g) c row (inl (omega (arith, p, e), omega (arith, q, e))) (row_bytes g row units r (past_run (IsPlayedAt g) d units played))

-- ---- width

pub row_wide : (row : List ℕ) (units : List (Option Man)) → IsRankText row units → row_width row ≡ length units
row_wide [] units end = refl
row_wide (c ∷ row) old (unit {units = units} u e r) =
    let no : is_digit c ≡ false = ap is_digit e ∙ letter_no_digit u in
    let one : cond (is_digit c) (c - 48) 1 ≡ 1 = ap (λ b. cond b (c - 48) 1) no in
    omega (arith, width_more c row, one, row_wide row units r)
row_wide (c ∷ row) old (run {units = units} d p q e s r) =
    let yes_is : is_digit c ≡ true = ap is_digit e ∙ is_digit-from d q in
    let many : cond (is_digit c) (c - 48) 1 ≡ c - 48 = ap (λ b. cond b (c - 48) 1) yes_is in
    omega (arith, e, width_more c row, many, row_wide row units r, length-append (replicate d empty_square) units, length-replicate d empty_square)

-- ---- no two digits stand next to each other

-- they don't if the first byte and the next aren't both digits, and behind them there are none
pub apart_more : (c : ℕ) (row : List ℕ) → (0 < length row → is_digit c ≡ true → is_digit (get_or row 0 0) ≡ true → ⊥) → (HasAdjacentRuns row → ⊥) → HasAdjacentRuns (c ∷ row) → ⊥
apart_more c row here rest (zero, lt, a, b) = here (omega (arith, lt)) a b
apart_more c row here rest (suc i, lt, a, b) =
    let e : suc i + 1 ≡ suc (i + 1) = omega arith in
    rest (i, omega (arith, lt), a, subst (λ m. IsTrue (is_digit (get_or (c ∷ row) m 0))) e b)

no_digit_next : (row : List ℕ) → StartsNoRun row → 0 < length row → is_digit (get_or row 0 0) ≡ true → ⊥
no_digit_next [] s some h = omega (arith, some)
no_digit_next (c ∷ row) s some h = let bounds = digit_bounds c h in s (c - 48) (omega (arith, bounds.0, bounds.1)) (omega (arith, bounds.0))

pub row_apart : (row : List ℕ) (units : List (Option Man)) → IsRankText row units → HasAdjacentRuns row → ⊥
row_apart [] units end = λ w. omega (arith, w.1)
row_apart (c ∷ row) old (unit {units = units} u e r) =
    apart_more c row (λ some h next. false≢true (sym (ap is_digit e ∙ letter_no_digit u) ∙ h)) (row_apart row units r)
row_apart (c ∷ row) old (run {units = units} d p q e s r) =
    apart_more c row (λ some h next. no_digit_next row s some next) (row_apart row units r)

-- ---- pawns

abbrev is_pawn_letter : ℕ → Bool
is_pawn_letter c = eqb c 80 || eqb c 112

no_pawn_letter : (s : Side) (k : Kind) → (k ≡ Pawn → ⊥) → is_pawn_letter (letter_of s k) ≡ false
no_pawn_letter s k = by_men (λ s k. (k ≡ Pawn → ⊥) → is_pawn_letter (letter_of s k) ≡ false)
    (λ h. refl) (λ h. refl) (λ h. refl) (λ h. refl) (λ h. refl) (λ h. absurd (h refl)) (λ h. refl) (λ h. refl) (λ h. refl) (λ h. refl) (λ h. refl) (λ h. absurd (h refl)) s k

digit_no_pawn : (d : ℕ) → d < 10 → is_pawn_letter (48 + d) ≡ false
digit_no_pawn d h = grind (arith, nat_tests)

pub neither : (a b : Bool) → a ≡ false → b ≡ false → (a || b) ≡ false
neither true b e f = absurd (false≢true (sym e))
neither false b e f = f

pub row_pawns : (row : List ℕ) (units : List (Option Man)) → IsRankText row units → All IsNoPawn units → has_pawn row ≡ false
row_pawns [] units end none = refl
row_pawns (c ∷ row) old (unit {units = units} u e r) none =
    neither (is_pawn_letter c) (has_pawn row) (ap is_pawn_letter e ∙ no_pawn_letter u.side u.kind (All-head IsNoPawn (Some u) units none)) (row_pawns row units r (All-tail IsNoPawn (Some u) units none))
row_pawns (c ∷ row) old (run {units = units} d p q e s r) none =
    neither (is_pawn_letter c) (has_pawn row) (ap is_pawn_letter e ∙ digit_no_pawn d q) (row_pawns row units r (past_run IsNoPawn d units none))
