-- The first fault of a text, test by test.
use Rattle.std.proofs.Common.{◌≡◌, ◌≢◌, ℕ, ◌+◌, ◌-◌, ◌*◌, ◌<◌, ◌≤◌, inl, inr, ◌↔◌, refl, sym, ap, subst, ◌∙◌, arith, lit<, List, [], ◌∷◌, ◌++◌, length, get_or, Bool, true, false, ◌||◌, cond, eqb, IsTrue, All, MatchBool}
use Rattle.board.proofs.Common.{count_by, position_or_len, ne_eqb, eqb-true, nat_tests, or_parts, cases_Bool, cases_lt, false≢true, All-contains, All-from_get_or, All-head, All-tail, sum_by-cons, split_at_first, Game, Side, White, Black, Man, most_units, IsPlayed, PlainBoard, IsPosition, letter_of, IsFenText, board_part, side_part, rows, first_of, last_of, is_digit, IsShape, IsBoardByte, is_case_of, has_pawn, fen_fault_number, FenFaultHolds, IsFenFault, separator, digit, letter}
use Rattle.std.proofs.lemmas.Bool.{cases_eq}
use Rattle.std.proofs.lemmas.List.{get_or-map}
use Rattle.std.proofs.lemmas.List.FromFn.{get_or-range_with_len}
use Rattle.std.proofs.lemmas.List.Sums.{fails_before_first, passes_at_first}
use Rattle.std.specs.Prelude.{nat_lt}
use Rattle.board.specs.Passed.{Passes}
use Rattle.board.specs.declared.fault.TheConstants.{TESTED}
use Rattle.board.specs.declared.fault.FenFault.{FenFault}
use Rattle.board.specs.declared.fault.FenFault.TheVariants.{Fields, Shape, Letter, Run, Side as SideText, Kings, Units, PawnRank, OtherInCheck}
use Rattle.board.proofs.FenLaw.{law, wide_rows}
use Rattle.board.proofs.FenParts.{same_game}
use Rattle.board.proofs.RowBytes.{letter_above, letter_no_digit, one_unit, weight}

pub letter_byte : (g : Game) (c : ℕ) (u : Man) (r : Bool) → c ≡ letter_of u.side u.kind → (r ≡ true) ↔ IsPlayed g u.kind → MatchBool r (IsBoardByte g c) (IsBoardByte g c → ⊥)
letter_byte g c u true e h = letter u (h.0 refl) e
letter_byte g c u false e h = λ b. no b
  where
    no : IsBoardByte g c → ⊥
    no (separator f) = omega (arith, letter_above u.side u.kind)
    no (digit d) = false≢true (sym (ap is_digit e ∙ letter_no_digit u) ∙ d)
    no (letter v k f) = false≢true (h.1 (subst (λ (x : Man). IsPlayed g x.kind) (one_unit v u (sym f ∙ e)) k))

pub one_shape : (g h : Game) (board : List ℕ) → IsShape g board → IsShape h board → g ≡ h
one_shape g h board s t = same_game g h (ap (λ n. n * n) (sym (wide_rows (rows board) _ _ s).0 ∙ (wide_rows (rows board) _ _ t).0))

pub no_space : (text : List ℕ) → All (λ c. c ≢ 32) text → count_by (λ c. eqb c 32) text ≡ 0
no_space [] none = refl
no_space (c ∷ text) none =
    let e = ap weight (ne_eqb c 32 (All-head (λ x. x ≢ 32) c text none)) in
    omega (arith, e, sum_by-cons (λ x. cond (eqb x 32) 1 0) c text, no_space text (All-tail (λ x. x ≢ 32) c text none))

-- a text with one space is a board and what follows the space
whole : (text : List ℕ) → count_by (λ c. eqb c 32) text ≡ 1 → text ≡ board_part text ++ 32 ∷ side_part text
whole text one = elim (cases_lt (position_or_len (λ c. eqb c 32) text) (length text)) [
  | inl lt ↦
      let at : get_or text (position_or_len (λ c. eqb c 32) text) 0 ≡ 32 = eqb-true _ _ (passes_at_first (λ c. eqb c 32) text 0 lt) in
      split_at_first (λ c. eqb c 32) text 0 lt ∙ ap (λ x. board_part text ++ x ∷ side_part text) at
  | inr ge ↦
      let none = no_space text (All-from_get_or (λ c. c ≢ 32) text 0 (λ k lt e. false≢true (sym (fails_before_first (λ c. eqb c 32) text k 0 (omega arith)) ∙ ap (λ x. eqb x 32) e))) in
      absurd (omega (arith, one, none))
]

-- whether a side has too many units, where White has not
pub many_units : (g : Game) (board : List ℕ) (most white black : ℕ) → IsShape g board → most ≡ most_units g → white ≡ count_by (is_case_of White) board → black ≡ count_by (is_case_of Black) board → white ≤ most
    → IsTrue (nat_lt most black) ↔ ((x : Game) × IsShape x board × ((side : Side) × (most_units x < count_by (is_case_of side) board)))
many_units g board most white black shape m w b few = (
  λ t. (g, shape, (Black, let lt : most < black = grind (arith, nat_tests) in omega (arith, m, b, lt))),
  λ (x, s, (side, lt)). by side (omega (arith, lt, ap most_units (one_shape g x board shape s))),
)
  where
    by : (side : Side) → most_units g < count_by (is_case_of side) board → IsTrue (nat_lt most black)
    by White lt = absurd (omega arith)
    by Black lt = let more : most < black = omega arith in grind (arith, nat_tests)

-- ---- the order of the tests

-- where a fault is tested
tested_at : (e d : FenFault) → fen_fault_number e < 8 → (0 < fen_fault_number e) × (get_or TESTED (fen_fault_number e - 1) d ≡ e)
tested_at Fields d h = (lit< tt, refl)
tested_at Shape d h = (lit< tt, refl)
tested_at Letter d h = (lit< tt, refl)
tested_at Run d h = (lit< tt, refl)
tested_at SideText d h = (lit< tt, refl)
tested_at Kings d h = (lit< tt, refl)
tested_at Units d h = (lit< tt, refl)
tested_at PawnRank d h = absurd (omega arith)
tested_at OtherInCheck d h = absurd (omega arith)

-- which fault is tested there
pub number_at : (i : ℕ) (d : FenFault) → i < 7 → fen_fault_number (get_or TESTED i d) ≡ i + 1
number_at i d h =
    let next : 1 + i ≡ i + 1 = omega arith in
    sym (get_or-map fen_fault_number TESTED i d 0 h) ∙ get_or-range_with_len 1 7 i 0 h ∙ next

passes_not : (text : List ℕ) (e : FenFault) → Passes e text → FenFaultHolds e text → ⊥
passes_not text Fields p h = p h
passes_not text Shape (g, s) h = h g s
passes_not text Letter p (g, s, (k, c, lt, at, foreign)) = foreign (All-contains (IsBoardByte g) (board_part text) c (p g s) (k, lt, at))
passes_not text Run p h = p h
passes_not text SideText (s, e) h = h s e
passes_not text Kings p h = p h
passes_not text Units p h = p h
passes_not text PawnRank p h = p h
passes_not text OtherInCheck p h = h

-- a text that passes the first tests
module _ (text : List ℕ) (n : ℕ) (passed : (k : ℕ) (d : FenFault) → k < n → Passes (get_or TESTED k d) text) where
  passes : (e : FenFault) → fen_fault_number e < 8 → fen_fault_number e ≤ n → Passes e text
  passes e lt le =
      let at = tested_at e e lt in
      subst (λ f. Passes f text) at.1 (passed (fen_fault_number e - 1) e (omega (arith, at.0)))

  -- and not the next
  pub first_fault : (f : FenFault) → fen_fault_number f ≡ n + 1 → n ≤ 7 → FenFaultHolds f text → IsFenFault text f
  first_fault f e le h = record { holds = h; least = λ other lt. passes_not text other (passes other (omega arith) (omega arith)) }

-- a text that passes all tests, and is no position's, has a pawn on an outer rank
module _ (text : List ℕ) (passed : (k : ℕ) (d : FenFault) → k < 7 → Passes (get_or TESTED k d) text) where
  p : (e : FenFault) → fen_fault_number e < 8 → Passes e text
  p e lt = passes text 7 passed e lt (omega arith)

  one : (n : ℕ) → (n ≢ 1 → ⊥) → n ≡ 1
  one n h = elim (cases_eq n 1) [ inl e ↦ e | inr ne ↦ absurd (h ne) ]

  few : (m n : ℕ) → (m < n → ⊥) → n ≤ m
  few m n h = elim (cases_lt m n) [ inl lt ↦ absurd (h lt) | inr ge ↦ ge ]

  no_pawns : has_pawn (first_of (rows (board_part text))) ≡ false → has_pawn (last_of (rows (board_part text))) ≡ false → (b : PlainBoard) × IsPosition b × IsFenText text b
  no_pawns high low =
      let shape = p Shape (lit< tt) in
      let side = p SideText (lit< tt) in
      let w = law shape.0 side.0 (board_part text) shape.1 (p Letter (lit< tt) shape.0 shape.1)
      (λ z. p Run (lit< tt) (inl z)) (λ a. p Run (lit< tt) (inr a))
      (λ s. one _ (λ h. p Kings (lit< tt) (s, h)))
      (λ s. few _ _ (λ h. p Units (lit< tt) (shape.0, shape.1, (s, h)))) high low in
      (w.0, w.1, subst (λ x. IsFenText x w.0) (ap (λ x. board_part text ++ 32 ∷ x) (sym side.1) ∙ sym (whole text (one _ (p Fields (lit< tt))))) w.2)

  pub pawn_fault : ((b : PlainBoard) → IsPosition b → IsFenText text b → ⊥) → IsFenFault text PawnRank
  pawn_fault no_board = first_fault text 7 passed PawnRank refl (omega arith) (elim (cases_Bool pawns) [
    | inl e ↦ e
    | inr e ↦ let w = no_pawns (or_parts _ _ e).0 (or_parts _ _ e).1 in absurd (no_board w.0 w.1 w.2)
  ])
    where
      pawns : Bool
      pawns = has_pawn (first_of (rows (board_part text))) || has_pawn (last_of (rows (board_part text)))
