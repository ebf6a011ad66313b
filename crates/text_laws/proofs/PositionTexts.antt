-- The text of a position has no fault.
use Rattle.std.proofs.Common.{◌≡◌, ◌≢◌, ◌⊎◌, ℕ, ◌+◌, ◌-◌, ◌*◌, ◌<◌, ◌≤◌, inl, inr, zero, suc, refl, sym, ap, subst, ◌∙◌, arith, List, [], ◌∷◌, ◌++◌, length, get_or, map, take, drop, replicate, Option, Some, None, Bool, true, false, eqb, IsTrue, All, Contains, append_assoc, length-append}
use Rattle.std.specs.Option.{IfSome}
use Rattle.std.specs.List.{count_by, position_or_len}
use Rattle.std.proofs.lemmas.Bool.{ne_eqb, false≢true}
use Rattle.std.proofs.lemmas.List.{take_at, drop_at, get_or_append_left, get_or-append_right}
use Rattle.std.proofs.lemmas.List.Sums.{position_or_len_is}
use Rattle.std.proofs.lemmas.List.Splits.{slice_split_none, slice_split_at}
use Rattle.std.proofs.lemmas.List.Elements.{All-cons, All-append, All-weaker, All-take, All-drop, All-get_or, All-from_get_or}
use Rattle.board.specs.declared.game.Game.{Game}
use Rattle.board.specs.declared.game.Game.TheVariants.{LosAlamos, Gardner}
use Rattle.board.specs.declared.game.Side.{Side}
use Rattle.board.specs.declared.game.Side.TheVariants.{White, Black}
use Rattle.board.specs.declared.game.Kind.TheVariants.{King}
use Rattle.board.specs.declared.game.Unit.{Unit as Man}
use Rattle.board.specs.declared.fault.FenFault.{FenFault}
use Rattle.board.specs.declared.fault.FenFault.TheVariants.{Fields, Shape, Letter, Run, Side as SideText, Kings, Units, PawnRank, OtherInCheck}
use Rattle.board.specs.Games.{width_of, squares_of, most_units}
use Rattle.board.specs.Board.{PlainBoard, unit_on, is_king_of, is_of_side, MayStandOn, IsPosition}
use Rattle.board.specs.Fen.{letter_of, side_letter, IsRankText, IsTextFrom, IsFenText}
use Rattle.board.specs.Fen.IsTextFrom.{first, above}
use Rattle.board.specs.FenFaults.{board_part, side_part, rows, first_of, last_of, is_digit, row_width, IsShape, IsBoardByte, HasAdjacentRuns, is_case_of, has_pawn, FenFaultHolds}
use Rattle.board.specs.FenFaults.IsBoardByte.{separator, digit, letter}
use Rattle.board.proofs.RankText.{letter_above}
use Rattle.std.proofs.lemmas.Bool.Decides.{nat_tests}
use Rattle.board.proofs.FenFaulty.{no_space, one_shape}
use Rattle.board.proofs.FenLaw.{some_rows}
use Rattle.text_laws.proofs.RowFacts.{IsRowByte, row_bytes, row_wide, apart_more, row_apart, neither, row_pawns}
use Rattle.board.proofs.RowBytes.{letter_no_digit, IsPlayedAt, Agrees, count_more, count_append, weight, count_empty, row_count, kings_agree, sides_agree, IsNoPawn}

-- ---- bytes of a board

-- a separator or a byte of a row
abbrev IsByte : Game → ℕ → Type 0
IsByte g c = (c ≡ 47) ⊎ IsRowByte g c

row_byte_above : (g : Game) (c : ℕ) → IsRowByte g c → 48 < c
row_byte_above g c (inl (low, high)) = low
row_byte_above g c (inr (u, played, e)) =
    let other : c ≡ 48 → ⊥ = λ same. false≢true (sym (letter_no_digit u) ∙ ap is_digit (sym e ∙ same)) in
    omega (arith, e, other, letter_above u.side u.kind)

byte_above : (g : Game) (c : ℕ) → IsByte g c → (46 < c) × (c ≢ 48)
byte_above g c (inl cut) = (omega (arith, cut), λ e. omega (arith, cut, e))
byte_above g c (inr byte) = let above = row_byte_above g c byte in (omega (arith, above), λ e. omega (arith, above, e))

digit_of : (c : ℕ) → 48 < c → c < 58 → is_digit c ≡ true
digit_of c low high = grind (arith, nat_tests)

board_byte : (g : Game) (c : ℕ) → IsByte g c → IsBoardByte g c
board_byte g c (inl cut) = separator cut
board_byte g c (inr (inl (low, high))) = digit (digit_of c low high)
board_byte g c (inr (inr (u, played, e))) = letter u played e

no_cuts : (g : Game) (row : List ℕ) → All (IsRowByte g) row → All (λ c. eqb c 47 ≡ false) row
no_cuts g row bytes = All-weaker (IsRowByte g) (λ c. eqb c 47 ≡ false) (λ c byte. let above = row_byte_above g c byte in ne_eqb c 47 (λ e. omega (arith, above, e))) row bytes

-- ---- a row, a separator and a board

apart_tail : (c : ℕ) (row : List ℕ) → HasAdjacentRuns row → HasAdjacentRuns (c ∷ row)
apart_tail c row (i, lt, a, b) =
    let e : suc i + 1 ≡ suc (i + 1) = omega arith in
    (suc i, omega (arith, lt), a, subst (λ m. IsTrue (is_digit (get_or (c ∷ row) m 0))) (sym e) b)

apart_head : (c : ℕ) (row rest : List ℕ) → (HasAdjacentRuns (c ∷ row) → ⊥) → is_digit c ≡ true → is_digit (get_or (row ++ 47 ∷ rest) 0 0) ≡ true → ⊥
apart_head c [] rest apart h next = false≢true next
apart_head c (d ∷ row) rest apart h next = apart (0, omega arith, h, next)

apart_joined : (row rest : List ℕ) → (HasAdjacentRuns row → ⊥) → (HasAdjacentRuns rest → ⊥) → HasAdjacentRuns (row ++ 47 ∷ rest) → ⊥
apart_joined [] rest a b = apart_more 47 rest (λ some h next. false≢true h) b
apart_joined (c ∷ row) rest a b =
    apart_more c (row ++ 47 ∷ rest) (λ some h next. apart_head c row rest a h next) (apart_joined row rest (λ w. a (apart_tail c row w)) b)

last_more : (row : List ℕ) (parts : List (List ℕ)) → 0 < length parts → last_of (row ∷ parts) ≡ last_of parts
last_more row [] some = absurd (omega (arith, some))
last_more row (part ∷ parts) some = refl

-- ---- a text of k + 1 ranks

module _ (g : Game) (w : ℕ) (side : Side) where
  record ReadsBoard (k : ℕ) (text : List ℕ) (units : List (Option Man)) : Type 0 where
    board : List ℕ
    whole : text ≡ board ++ 32 ∷ side_letter side ∷ []
    bytes : All (IsByte g) board
    apart : HasAdjacentRuns board → ⊥
    shape : map row_width (rows board) ≡ replicate (suc k) w
    long : length units ≡ suc k * w
    counts : (p : ℕ → Bool) (q : Option Man → Bool) → Agrees p q → count_by p board ≡ count_by q units
    no_first : ((j : ℕ) → k * w ≤ j → j < length units → IsNoPawn (get_or units j None)) → has_pawn (first_of (rows board)) ≡ false
    no_last : ((j : ℕ) → j < w → IsNoPawn (get_or units j None)) → has_pawn (last_of (rows board)) ≡ false

  reads_first : (row : List ℕ) (units : List (Option Man)) → IsRankText row units → length units ≡ w → All (IsPlayedAt g) units → ReadsBoard 0 (row ++ 32 ∷ side_letter side ∷ []) units
  reads_first row units r l played = record {
    board = row;
    whole = refl;
    bytes = All-weaker (IsRowByte g) (IsByte g) (λ c byte. inr byte) row own;
    apart = row_apart row units r;
    shape = ap (map row_width) one_row ∙ ap (λ n. n ∷ []) (row_wide row units r ∙ l);
    long = omega (arith, l);
    counts = λ p q a. sym (row_count p q a row units r);
    no_first = λ none. ap (λ ps. has_pawn (first_of ps)) one_row ∙ row_pawns row units r (All-from_get_or IsNoPawn units None (λ j lt. none j (omega arith) lt));
    no_last = λ none. ap (λ ps. has_pawn (last_of ps)) one_row ∙ row_pawns row units r (All-from_get_or IsNoPawn units None (λ j lt. none j (omega (arith, lt, l))));
  }
    where
      own : All (IsRowByte g) row
      own = row_bytes g row units r played

      one_row : rows row ≡ row ∷ []
      one_row = slice_split_none (λ x. eqb x 47) row (no_cuts g row own)

  module _ (k : ℕ) (row rest : List ℕ) (top lower units : List (Option Man)) (r : IsRankText row top) (l : length top ≡ w) (u : units ≡ lower ++ top) (played : All (IsPlayedAt g) top) (below : ReadsBoard k rest lower) where
    own : All (IsRowByte g) row
    own = row_bytes g row top r played

    more_rows : rows (row ++ 47 ∷ below.board) ≡ row ∷ rows below.board
    more_rows = slice_split_at (λ x. eqb x 47) row 47 below.board (no_cuts g row own) refl

    all_units : length units ≡ length lower + w
    all_units = omega (arith, ap (length {A = Option Man}) u, length-append lower top, l)

    in_top : (j : ℕ) → get_or units (length lower + j) None ≡ get_or top j None
    in_top j =
        let e : length lower + j - length lower ≡ j = omega arith in
        ap (λ us. get_or us (length lower + j) None) u ∙ get_or-append_right lower top (length lower) (length lower + j) None refl (omega arith) ∙ ap (λ i. get_or top i None) e

    in_lower : (j : ℕ) → j < w → get_or units j None ≡ get_or lower j None
    in_lower j lt = ap (λ us. get_or us j None) u ∙ get_or_append_left lower top None j (omega (arith, lt, below.long))

    reads_above : ReadsBoard (suc k) (row ++ 47 ∷ rest) units
    reads_above = record {
      board = row ++ 47 ∷ below.board;
      whole = ap (λ x. row ++ 47 ∷ x) below.whole ∙ sym (append_assoc row (47 ∷ below.board) (32 ∷ side_letter side ∷ []));
      bytes = All-append (IsByte g) row (47 ∷ below.board) (All-weaker (IsRowByte g) (IsByte g) (λ c byte. inr byte) row own) (All-cons (IsByte g) 47 below.board (inl refl) below.bytes);
      apart = apart_joined row below.board (row_apart row top r) below.apart;
      shape = ap (map row_width) more_rows ∙ ap (λ n. n ∷ map row_width (rows below.board)) (row_wide row top r ∙ l) ∙ ap (λ ns. w ∷ ns) below.shape;
      long = omega (arith, all_units, below.long);
      counts = λ p q a. omega (
        arith,
        count_append p row (47 ∷ below.board),
        count_more p 47 below.board,
        ap weight a.separator_no,
        row_count p q a row top r,
        below.counts p q a,
        ap (count_by q) u,
        count_append q lower top,
      );
      no_first = λ none. ap (λ ps. has_pawn (first_of ps)) more_rows
          ∙ row_pawns row top r (All-from_get_or IsNoPawn top None (λ j lt. subst IsNoPawn (in_top j) (none (length lower + j) (omega (arith, below.long)) (omega (arith, all_units, lt, l)))));
      no_last = λ none. ap (λ ps. has_pawn (last_of ps)) more_rows ∙ ap has_pawn (last_more row (rows below.board) (some_rows below.board))
          ∙ below.no_last (λ j lt. subst IsNoPawn (in_lower j lt) (none j lt));
    }

  left_played : (xs ys : List (Option Man)) → All (IsPlayedAt g) (xs ++ ys) → All (IsPlayedAt g) xs
  left_played xs ys all = subst (All (IsPlayedAt g)) (take_at xs ys (length xs) refl) (All-take (IsPlayedAt g) (length xs) (xs ++ ys) all)

  right_played : (xs ys : List (Option Man)) → All (IsPlayedAt g) (xs ++ ys) → All (IsPlayedAt g) ys
  right_played xs ys all = subst (All (IsPlayedAt g)) (drop_at xs ys (length xs) refl) (All-drop (IsPlayedAt g) (length xs) (xs ++ ys) all)

  reads : (k : ℕ) (text : List ℕ) (units : List (Option Man)) → IsTextFrom w side (suc k) text units → All (IsPlayedAt g) units → ReadsBoard k text units
  reads zero text units (first {row = row} e r l) played = subst (λ x. ReadsBoard 0 x units) (sym e) (reads_first row units r l played)
  reads zero text units (above e r l low u) played = absurd (elim low [ ])
  reads (suc k) text units (above {row = row} {rest = rest} {top = top} {lower = lower} e r l low u) played =
      let all = subst (All (IsPlayedAt g)) u played in
      let below = reads k rest lower low (left_played lower top all) in
      subst (λ x. ReadsBoard (suc k) x units) (sym e) (reads_above k row rest top lower units r l u (right_played lower top all) below)

-- ---- the text of a position

last_rank : Game → ℕ
last_rank LosAlamos = 5
last_rank Gardner = 4

reads_game : (g : Game) (side : Side) (text : List ℕ) (units : List (Option Man)) → IsTextFrom (width_of g) side (width_of g) text units → All (IsPlayedAt g) units → ReadsBoard g (width_of g) side (last_rank g) text units
unfolding last_rank
reads_game LosAlamos side text units from played = reads LosAlamos 6 side 5 text units from played
reads_game Gardner side text units from played = reads Gardner 5 side 4 text units from played

whole_shape : (g : Game) → replicate (suc (last_rank g)) (width_of g) ≡ replicate (width_of g) (width_of g)
unfolding last_rank
whole_shape LosAlamos = refl
whole_shape Gardner = refl

out_of_last : (g : Game) (j n : ℕ) → n ≡ suc (last_rank g) * width_of g → last_rank g * width_of g ≤ j → j < n → j + width_of g < squares_of g → ⊥
unfolding last_rank
out_of_last LosAlamos j n e low lt inner = omega (arith, e, low, lt, inner)
out_of_last Gardner j n e low lt inner = omega (arith, e, low, lt, inner)

wide_enough : (g : Game) (j n : ℕ) → n ≡ suc (last_rank g) * width_of g → j < width_of g → j < n
unfolding last_rank
wide_enough LosAlamos j n e lt = omega (arith, e, lt)
wide_enough Gardner j n e lt = omega (arith, e, lt)

played_at : (g : Game) (j : ℕ) (x : Option Man) → IfSome x (MayStandOn g j) → IsPlayedAt g x
played_at g j None h = tt
played_at g j (Some u) h = h.played

no_pawn_at : (g : Game) (j : ℕ) (x : Option Man) → IfSome x (MayStandOn g j) → ((width_of g ≤ j) → (j + width_of g < squares_of g) → ⊥) → IsNoPawn x
no_pawn_at g j None h outer = tt
no_pawn_at g j (Some u) h outer = λ pawn. let inner = h.inner pawn in outer inner.0 inner.1

-- the parts of a text with this board before the first space
module _ (board rest : List ℕ) (none : All (λ c. c ≢ 32) board) where
  abbrev is_space : ℕ → Bool
  is_space c = eqb c 32

  first_space : position_or_len is_space (board ++ 32 ∷ rest) ≡ length board
  first_space = position_or_len_is is_space (board ++ 32 ∷ rest) (length board) 0 (omega (arith, length-append board (32 ∷ rest)))
      (λ k lt. ap is_space (get_or_append_left board (32 ∷ rest) 0 k lt) ∙ ne_eqb _ 32 (All-get_or (λ c. c ≢ 32) board k 0 lt none))
      (λ lt. ap is_space (get_or-append_right board (32 ∷ rest) (length board) (length board) 0 refl (omega arith) ∙ ap (λ i. get_or (32 ∷ rest) i 0) nothing))
    where
      nothing : length board - length board ≡ 0
      nothing = omega arith

  board_is : board_part (board ++ 32 ∷ rest) ≡ board
  board_is = ap (λ n. take n (board ++ 32 ∷ rest)) first_space ∙ take_at board (32 ∷ rest) (length board) refl

  side_is : side_part (board ++ 32 ∷ rest) ≡ rest
  side_is = ap (λ n. drop (n + 1) (board ++ 32 ∷ rest)) first_space ∙ ap (drop (length board + 1)) (sym (append_assoc board (32 ∷ []) rest))
      ∙ drop_at (board ++ 32 ∷ []) rest (length board + 1) (omega (arith, length-append board (32 ∷ [])))

  one_space : count_by is_space rest ≡ 0 → count_by is_space (board ++ 32 ∷ rest) ≡ 1
  one_space e = omega (arith, e, no_space board none, count_append is_space board (32 ∷ rest), count_more is_space 32 rest, refl_space)
    where
      refl_space : weight (is_space 32) ≡ 1
      refl_space = refl

no_space_side : (side : Side) → count_by (λ c. eqb c 32) (side_letter side ∷ []) ≡ 0
no_space_side White = refl
no_space_side Black = refl

module _ (b : PlainBoard) (position : IsPosition b) (text : List ℕ) (fen : IsFenText text b) where
  stands : (j : ℕ) → j < length fen.squares → unit_on b j ≡ get_or fen.squares j None
  stands j lt = ap (λ us. get_or us j None) fen.units ∙ get_or_append_left fen.squares _ None j lt

  may_stand : (j : ℕ) → j < length fen.squares → IfSome (get_or fen.squares j None) (MayStandOn b.game j)
  may_stand j lt = subst (λ x. IfSome x (MayStandOn b.game j)) (stands j lt) (position.squares j)

  r : ReadsBoard b.game (width_of b.game) b.mover (last_rank b.game) text fen.squares
  r = reads_game b.game b.mover text fen.squares fen.ranks
      (All-from_get_or (IsPlayedAt b.game) fen.squares None (λ j lt. played_at b.game j _ (may_stand j lt)))

  shape : IsShape b.game r.board
  shape = r.shape ∙ whole_shape b.game

  no_spaces : All (λ c. c ≢ 32) r.board
  no_spaces = All-weaker (IsByte b.game) (λ c. c ≢ 32) (λ c byte. let above = byte_above b.game c byte in λ e. omega (arith, above.0, e)) r.board r.bytes

  the_board : board_part text ≡ r.board
  the_board = ap board_part r.whole ∙ board_is r.board (side_letter b.mover ∷ []) no_spaces

  the_side : side_part text ≡ side_letter b.mover ∷ []
  the_side = ap side_part r.whole ∙ side_is r.board (side_letter b.mover ∷ []) no_spaces

  counts : (p : ℕ → Bool) (q : Option Man → Bool) → Agrees p q → count_by p r.board ≡ count_by q b.units
  counts p q a =
      let empty : Option Man = None in
      let rest = replicate (36 - length fen.squares) empty in
      omega (arith, r.counts p q a, ap (count_by q) fen.units, count_append q fen.squares rest, count_empty q (36 - length fen.squares) a.empty_no)

  no_first : has_pawn (first_of (rows r.board)) ≡ false
  no_first = r.no_first (λ j low lt. no_pawn_at b.game j _ (may_stand j lt) (λ above inner. out_of_last b.game j _ r.long low lt inner))

  no_last : has_pawn (last_of (rows r.board)) ≡ false
  no_last = r.no_last (λ j lt. no_pawn_at b.game j _ (may_stand j (wide_enough b.game j _ r.long lt)) (λ above inner. omega (arith, lt, above)))

  same_game : (g : Game) → IsShape g (board_part text) → b.game ≡ g
  same_game g h = one_shape b.game g r.board shape (subst (IsShape g) the_board h)

  pub no_fault : (f : FenFault) → FenFaultHolds f text → ⊥
  no_fault Fields h = h (ap (count_by (λ c. eqb c 32)) r.whole ∙ one_space r.board (side_letter b.mover ∷ []) no_spaces (no_space_side b.mover))
  no_fault Shape h = h b.game (subst (IsShape b.game) (sym the_board) shape)
  no_fault Letter (g, has, (k, x, lt, at, foreign)) =
      foreign (subst (λ h. IsBoardByte h x) (same_game g has) (board_byte b.game x (subst (IsByte b.game) (ap (λ xs. get_or xs k x) (sym the_board) ∙ at) (All-get_or (IsByte b.game) r.board k x (subst (λ xs. k < length xs) the_board lt) r.bytes))))
  no_fault Run (inl nought) =
      let among = subst (λ xs. Contains xs 48) the_board nought in
      (byte_above b.game _ (All-get_or (IsByte b.game) r.board among.0 48 among.1 r.bytes)).1 among.2
  no_fault Run (inr adjacent) = r.apart (subst HasAdjacentRuns the_board adjacent)
  no_fault SideText h = h b.mover the_side
  no_fault Kings (side, h) =
      h (ap (count_by (λ c. eqb c (letter_of side King))) the_board ∙ counts _ (is_king_of side) (kings_agree side) ∙ (position.armies side).king)
  no_fault Units (g, has, (side, h)) =
      let most : most_units b.game ≡ most_units g = ap most_units (same_game g has) in
      omega (arith, h, most, ap (count_by (is_case_of side)) the_board, counts (is_case_of side) (is_of_side side) (sides_agree side), (position.armies side).room)
  no_fault PawnRank h = false≢true (sym (neither _ _ (ap (λ xs. has_pawn (first_of (rows xs))) the_board ∙ no_first) (ap (λ xs. has_pawn (last_of (rows xs))) the_board ∙ no_last)) ∙ h)
  no_fault OtherInCheck h = h
