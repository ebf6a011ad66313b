-- A text with no fault is a position's.
use Rattle.std.proofs.Common.{◌≡◌, ◌≢◌, ℕ, ◌+◌, ◌-◌, ◌*◌, ◌<◌, ◌≤◌, inl, inr, zero, suc, refl, sym, ap, subst, ◌∙◌, arith, List, [], ◌∷◌, ◌++◌, length, get_or, map, replicate, Option, Some, None, Bool, true, false, ◌||◌, cond, eqb, IsTrue, All, Contains, append_assoc, length-append}
use Rattle.board.proofs.Common.{IfSome, onto_first, join_with_byte, count_by, length-replicate, eq-eqb, ne_eqb, or_parts, cases_lt, false≢true, get_or_append_left, get_or-append_right, All-nil, All-cons, All-head, All-tail, All-append, All-from_get_or, All-replicate, All-get_or, Game, Side, King, Pawn, Man, width_of, squares_of, most_units, IsPlayed, PlainBoard, board_of, is_king_of, is_of_side, MayStandOn, IsPosition, letter_of, side_letter, StartsNoRun, IsRankText, IsTextFrom, IsFenText, end, unit, run, first, above, rows, first_of, last_of, is_digit, row_width, IsShape, IsBoardByte, HasAdjacentRuns, is_case_of, has_pawn, separator, digit, letter}
use Rattle.std.proofs.lemmas.List.{get_or-map, get_or-replicate, length-map}
use Rattle.std.proofs.lemmas.List.Splits.{slice_split-cons_yes, slice_split-cons_no, length-slice_split, join_with_byte-slice_split}
use Rattle.board.proofs.FenParts.{few_squares}
use Rattle.board.proofs.RankText.{letter_above}
use Rattle.board.proofs.RowBytes.{IsPlayedAt, IsNoPawn, width_more, is_digit-from, digit_bounds, letter_no_digit, Agrees, count_more, count_append, weight, count_empty, row_count, kings_agree, sides_agree, by_sides}

-- ---- each row is the text of a rank

-- the rows are ranks' texts, with the game's units, as wide as the bytes say, and these are their squares
data AreRanks (g : Game) : List (List ℕ) → List (Option Man) → Type 0 where
  done : AreRanks g [] []
  next : {row : List ℕ} {rest : List (List ℕ)} {units lower : List (Option Man)} → IsRankText row units → length units ≡ row_width row → All (λ x. IfSome x (λ u. IsPlayed g u.kind)) units → AreRanks g rest lower → AreRanks g (row ∷ rest) (lower ++ units)

abbrev empty_square : Option Man
empty_square = None

abbrev Ranks : Game → List (List ℕ) → Type 0
Ranks g parts = (squares : List (Option Man)) × AreRanks g parts squares

-- a byte in front of the first row
onto : (g : Game) (c : ℕ) (us : List (Option Man)) (parts : List (List ℕ)) → 0 < length parts → cond (is_digit c) (c - 48) 1 ≡ length us → All (IsPlayedAt g) us
    → ((row : List ℕ) (units : List (Option Man)) → row ≡ first_of parts → IsRankText row units → IsRankText (c ∷ row) (us ++ units)) → Ranks g parts → Ranks g (onto_first c parts)
onto g c us [] h wide own text r = absurd (omega arith)
onto g c us (row ∷ rest) h wide own text (old, next {units = units} {lower = lower} r l p more) =
    let long : length (us ++ units) ≡ row_width (c ∷ row) = omega (arith, wide, l, width_more c row, length-append us units) in
    (lower ++ (us ++ units), next (text row units refl r) long (All-append (IsPlayedAt g) us units own p) more)

onto_cut : (g : Game) (c : ℕ) (board : List ℕ) → c ≡ 47 → Ranks g (rows board) → Ranks g (rows (c ∷ board))
onto_cut g c board e (squares, r) =
    subst (Ranks g) (sym (slice_split-cons_yes (λ x. eqb x 47) c board (eq-eqb c 47 e))) (squares ++ [], next end refl (All-nil _) r)

row_starts : (c : ℕ) (board : List ℕ) → StartsNoRun (c ∷ board) → StartsNoRun (first_of (rows (c ∷ board)))
row_starts c board s = by_cut (eqb c 47) (rows board)
  where
    by_cut : (b : Bool) (parts : List (List ℕ)) → StartsNoRun (first_of (cond b ([] ∷ parts) (onto_first c parts)))
    by_cut true parts = tt
    by_cut false [] = s
    by_cut false (row ∷ rest) = s

starts : (c : ℕ) (board : List ℕ) → is_digit c ≡ true → (HasAdjacentRuns (c ∷ board) → ⊥) → StartsNoRun (first_of (rows board))
starts c [] d apart = tt
starts c (b ∷ board) d apart = row_starts b board (λ k lt e. apart (0, omega arith, d, ap is_digit e ∙ is_digit-from k lt))

pub some_rows : (board : List ℕ) → 0 < length (rows board)
some_rows board = omega (arith, length-slice_split (λ x. eqb x 47) board)

onto_byte : (g : Game) (c : ℕ) (board : List ℕ) → IsBoardByte g c → c ≢ 48 → (HasAdjacentRuns (c ∷ board) → ⊥) → Ranks g (rows board) → Ranks g (rows (c ∷ board))
onto_byte g c board (separator e) z apart r = onto_cut g c board e r
onto_byte g c board (digit d) z apart r =
    let b = digit_bounds c d in
    subst (Ranks g) (sym (slice_split-cons_no (λ x. eqb x 47) c board (ne_eqb c 47 (λ e. omega arith))))
    (onto g c (replicate (c - 48) None) (rows board) (some_rows board)
    (ap (λ b. cond b (c - 48) 1) d ∙ sym (length-replicate (c - 48) empty_square))
    (All-replicate (IsPlayedAt g) (c - 48) None tt)
    (λ row units e t. run (c - 48) (omega (arith, z)) (omega arith) (omega arith) (subst StartsNoRun (sym e) (starts c board d apart)) t)
    r)
onto_byte g c board (letter u k e) z apart r =
    let b = letter_above u.side u.kind in
    subst (Ranks g) (sym (slice_split-cons_no (λ x. eqb x 47) c board (ne_eqb c 47 (λ f. omega arith))))
    (onto g c (Some u ∷ []) (rows board) (some_rows board) (ap (λ b. cond b (c - 48) 1) (ap is_digit e ∙ letter_no_digit u)) (All-cons (IsPlayedAt g) (Some u) [] k (All-nil _)) (λ row units f t. unit u e t) r)

apart_tail : (c : ℕ) (board : List ℕ) → HasAdjacentRuns board → HasAdjacentRuns (c ∷ board)
apart_tail c board (i, lt, a, b) =
    let e : suc i + 1 ≡ suc (i + 1) = omega arith in
    (suc i, omega arith, a, subst (λ m. IsTrue (is_digit (get_or (c ∷ board) m 0))) (sym e) b)

ranks_of : (g : Game) (board : List ℕ) → All (IsBoardByte g) board → (Contains board 48 → ⊥) → (HasAdjacentRuns board → ⊥) → Ranks g (rows board)
ranks_of g [] own nought apart = ([], next end refl (All-nil _) done)
ranks_of g (c ∷ board) own nought apart =
    onto_byte g c board (All-head (IsBoardByte g) c board own) (λ e. nought (0, omega arith, e)) apart
    (ranks_of g board (All-tail (IsBoardByte g) c board own) (λ w. nought (suc w.0, omega (arith, w.1), w.2)) (λ w. apart (apart_tail c board w)))

-- ---- how wide the rows are

-- as many rows as the width says, each of this width
pub wide_rows : (parts : List (List ℕ)) (n w : ℕ) → map row_width parts ≡ replicate n w → (length parts ≡ n) × All (λ row. row_width row ≡ w) parts
wide_rows parts n w e =
    let many : length parts ≡ n = sym (length-map parts row_width) ∙ ap (length {A = ℕ}) e ∙ length-replicate n w in
    (many, All-from_get_or (λ row. row_width row ≡ w) parts [] (λ k lt. sym (get_or-map row_width parts k [] 0 lt) ∙ ap (λ x. get_or x k 0) e ∙ get_or-replicate n k w 0 (omega (arith, many))))

-- ---- pawns

no_pawns : (row : List ℕ) (units : List (Option Man)) → IsRankText row units → has_pawn row ≡ false → All IsNoPawn units
no_pawns [] units end h = All-nil _
no_pawns (c ∷ row) old (unit {units = units} u e r) h =
    let t = or_parts (eqb c 80 || eqb c 112) (has_pawn row) h in
    All-cons IsNoPawn (Some u) units (λ k. false≢true (sym t.0 ∙ ap (λ x. eqb x 80 || eqb x 112) e ∙ ap (λ x. eqb (letter_of u.side x) 80 || eqb (letter_of u.side x) 112) k ∙ by_sides (λ s. (eqb (letter_of s Pawn) 80 || eqb (letter_of s Pawn) 112) ≡ true) refl refl u.side)) (no_pawns row units r t.1)
no_pawns (c ∷ row) old (run {units = units} d i j e s r) h =
    let t = or_parts (eqb c 80 || eqb c 112) (has_pawn row) h in
    All-append IsNoPawn (replicate d None) units (All-replicate IsNoPawn d None tt) (no_pawns row units r t.1)

-- ---- the squares of ranks of one width

played_of : (g : Game) (parts : List (List ℕ)) (squares : List (Option Man)) → AreRanks g parts squares → All (IsPlayedAt g) squares
played_of g [] squares done = All-nil _
played_of g (row ∷ rest) squares (next {units = units} {lower = lower} r l p more) = All-append (IsPlayedAt g) lower units (played_of g rest lower more) p

-- counting units is counting letters
count_ranks : (g : Game) (p : ℕ → Bool) (q : Option Man → Bool) → Agrees p q → (parts : List (List ℕ)) (squares : List (Option Man)) → AreRanks g parts squares → count_by q squares ≡ count_by p (join_with_byte 47 parts)
count_ranks g p q a [] squares done = refl
count_ranks g p q a (row ∷ []) squares (next {units = units} r l k done) = row_count p q a row units r
count_ranks g p q a (row ∷ second ∷ rest) squares (next {units = units} {lower = lower} r l k more) =
    let below = join_with_byte 47 (second ∷ rest) in
    omega (arith, count_append q lower units, count_append p row (47 ∷ below), count_more p 47 below, ap weight a.separator_no, row_count p q a row units r, count_ranks g p q a (second ∷ rest) lower more)

module _ (g : Game) (w : ℕ) where
  abbrev Wide : List ℕ → Type 0
  Wide row = row_width row ≡ w

  long_of : (parts : List (List ℕ)) (squares : List (Option Man)) → AreRanks g parts squares → All Wide parts → length squares ≡ length parts * w
  long_of [] squares done wide = omega arith
  long_of (row ∷ rest) squares (next {units = units} {lower = lower} r l p more) wide =
      omega (arith, long_of rest lower more (All-tail Wide row rest wide), All-head Wide row rest wide, l, length-append lower units)

  text_of : (s : Side) (parts : List (List ℕ)) (squares : List (Option Man)) → 0 < length parts → AreRanks g parts squares → All Wide parts → IsTextFrom w s (length parts) (join_with_byte 47 parts ++ 32 ∷ side_letter s ∷ []) squares
  text_of s [] squares some r wide = absurd (omega arith)
  text_of s (row ∷ []) squares some (next r l p done) wide = first refl r (l ∙ All-head Wide row [] wide)
  text_of s (row ∷ second ∷ rest) squares some (next {lower = lower} r l p more) wide =
      above (append_assoc row (47 ∷ join_with_byte 47 (second ∷ rest)) (32 ∷ side_letter s ∷ [])) r (l ∙ All-head Wide row (second ∷ rest) wide)
      (text_of s (second ∷ rest) lower (omega arith) more (All-tail Wide row (second ∷ rest) wide)) refl

  -- no pawn on the first rank
  low : (parts : List (List ℕ)) (squares : List (Option Man)) → 0 < length parts → AreRanks g parts squares → All Wide parts → has_pawn (last_of parts) ≡ false → (k : ℕ) → k < w → IsNoPawn (get_or squares k None)
  low [] squares some r wide h k lt = absurd (omega arith)
  low (row ∷ []) squares some (next {units = units} r l p done) wide h k lt =
      All-get_or IsNoPawn units k None (omega (arith, l, All-head Wide row [] wide)) (no_pawns row units r h)
  low (row ∷ second ∷ rest) squares some (next {units = units} {lower = lower} r l p more) wide h k lt =
      let below = All-tail Wide row (second ∷ rest) wide in
      subst IsNoPawn (sym (get_or_append_left lower units None k (omega (arith, long_of (second ∷ rest) lower more below)))) (low (second ∷ rest) lower (omega arith) more below h k lt)

  -- no pawn on the last rank
  high : (parts : List (List ℕ)) (squares : List (Option Man)) → AreRanks g parts squares → All Wide parts → has_pawn (first_of parts) ≡ false → (k : ℕ) → length squares ≤ k + w → k < length squares → IsNoPawn (get_or squares k None)
  high [] squares done wide h k le lt = absurd (omega arith)
  high (row ∷ rest) squares (next {units = units} {lower = lower} r l p more) wide h k le lt =
      let long = length-append lower units in
      subst IsNoPawn (sym (get_or-append_right lower units (length lower) k None refl (omega (arith, long, l, All-head Wide row rest wide))))
      (All-get_or IsNoPawn units (k - length lower) None (omega (arith, long, l, All-head Wide row rest wide)) (no_pawns row units r h))

-- ---- the position

stands : (g : Game) (k : ℕ) (x : Option Man) → k < squares_of g → IsPlayedAt g x → (k < width_of g → IsNoPawn x) → (squares_of g ≤ k + width_of g → IsNoPawn x) → IfSome x (MayStandOn g k)
stands g k None lt played not_low not_high = tt
stands g k (Some u) lt played not_low not_high = record {
  on_board = lt;
  played = played;
  inner = λ e. (elim (cases_lt k (width_of g)) [ inl h ↦ absurd (not_low h e) | inr h ↦ h ], elim (cases_lt (k + width_of g) (squares_of g)) [ inl h ↦ h | inr h ↦ absurd (not_high h e) ]);
}

-- a board and a side to move with no fault are the text of a position
pub law : (g : Game) (s : Side) (board : List ℕ) → IsShape g board → All (IsBoardByte g) board → (Contains board 48 → ⊥) → (HasAdjacentRuns board → ⊥) → ((side : Side) → count_by (λ c. eqb c (letter_of side King)) board ≡ 1) → ((side : Side) → count_by (is_case_of side) board ≤ most_units g) → has_pawn (first_of (rows board)) ≡ false → has_pawn (last_of (rows board)) ≡ false → (b : PlainBoard) × IsPosition b × IsFenText (board ++ 32 ∷ side_letter s ∷ []) b
law g s board shape own nought apart kings armies no_first no_last =
    let w = width_of g in
    let parts = rows board in
    let found = ranks_of g board own nought apart in
    let squares : List (Option Man) = found.0 in
    let rest : List (Option Man) = replicate (36 - length squares) None in
    let wide = wide_rows parts w w shape in
    let joined : join_with_byte 47 parts ≡ board = join_with_byte-slice_split 47 board in
    let long : length squares ≡ squares_of g = long_of g w parts squares found.1 wide.1 ∙ ap (λ n. n * w) wide.0 in
    let text = subst (λ n. IsTextFrom w s n (join_with_byte 47 parts ++ 32 ∷ side_letter s ∷ []) squares) wide.0 (text_of g w s parts squares (some_rows board) found.1 wide.1) in
    let counted = λ (p : ℕ → Bool) (q : Option Man → Bool) (a : Agrees p q). let all : count_by q (squares ++ rest) ≡ count_by q squares = omega (arith, count_append q squares rest, count_empty q (36 - length squares) a.empty_no) in all ∙ count_ranks g p q a parts squares found.1 ∙ ap (count_by p) joined in (
      board_of g s (squares ++ rest),
      record {
        places = omega (arith, long, few_squares g, length-append squares rest, length-replicate (36 - length squares) empty_square);
        squares = λ k. elim (cases_lt k (length squares)) [
          | inl lt ↦ subst (λ x. IfSome x (MayStandOn g k)) (sym (get_or_append_left squares rest None k lt))
              (stands g k (get_or squares k None) (omega (arith, long))
              (All-get_or (IsPlayedAt g) squares k None lt (played_of g parts squares found.1))
              (low g w parts squares (some_rows board) found.1 wide.1 no_last k)
              (λ h. high g w parts squares found.1 wide.1 no_first k (omega (arith, long, h)) lt))
          | inr ge ↦ subst (λ x. IfSome x (MayStandOn g k)) (sym (get_or-append_right squares rest (length squares) k None refl ge ∙ get_or_empty (36 - length squares) (k - length squares))) tt
        ];
        armies = λ side. record {
          king = counted _ (is_king_of side) (kings_agree side) ∙ kings side;
          room = omega (arith, counted _ (is_of_side side) (sides_agree side), armies side);
        };
      },
      record { squares = squares; ranks = subst (λ x. IsTextFrom w s w (x ++ 32 ∷ side_letter s ∷ []) squares) joined text; units = refl },
    )
  where
    get_or_empty : (m i : ℕ) → get_or (replicate m empty_square) i None ≡ None
    get_or_empty zero i = refl
    get_or_empty (suc m) zero = refl
    get_or_empty (suc m) (suc i) = get_or_empty m i
