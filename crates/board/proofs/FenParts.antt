-- The squares that a board's text lists, read from its first byte on.
use Rattle.std.proofs.Common.{◌≡◌, ℕ, ◌+◌, ◌-◌, ◌*◌, ◌<◌, ◌≤◌, refl, sym, ap, subst, ◌∙◌, arith, List, [], ◌∷◌, ◌++◌, length, get_or, take, drop, Option, Some, None, replicate, Bool, true, false, cond, eqb, ◌≢◌, append_assoc, append-nil, length-append, length-take, length-drop}
use Rattle.std.proofs.lemmas.List.{append_cancel_right, at_drop_more, take-append-drop}
use Rattle.board.proofs.Common.{IfSome, IfNone, MatchOption, IsPosition, eq-eqb, ne_eqb, length-replicate, take_at, drop_at, get_or-append-add, Side, White, Black, Man, Game, LosAlamos, Gardner, width_of, squares_of, PlainBoard, letter_of, side_letter, IsRankText, IsTextFrom, IsFenText, end, unit, run, first, above}
use Rattle.board.proofs.RowBytes.{man_at, man_at-letter, man_at-none, no_digit, letter_above}

abbrev places : Option Man → ℕ → List (Option Man)
places None d = replicate d None
places (Some u) d = Some u ∷ []

-- the squares that a byte adds to its rank
abbrev pub places_at : ℕ → List (Option Man)
places_at c = places (man_at c) (c - 48)

-- the squares of the bytes that are left, with those of the rank so far and of the ranks above it
abbrev pub squares_from : List (Option Man) → List (Option Man) → List ℕ → List (Option Man)
squares_from row behind [] = row ++ behind
squares_from row behind (c ∷ cs) = cond (eqb c 47) (squares_from [] (row ++ behind) cs) (squares_from (row ++ places_at c) behind cs)

-- one byte of a rank
rank_byte : (row behind us : List (Option Man)) (c : ℕ) (cs : List ℕ) → c ≢ 47 → places_at c ≡ us → squares_from row behind (c ∷ cs) ≡ squares_from (row ++ us) behind cs
rank_byte row behind us c cs h e =
    ap (λ b. cond b (squares_from [] (row ++ behind) cs) (squares_from (row ++ places_at c) behind cs)) (ne_eqb c 47 h)
    ∙ ap (λ x. squares_from (row ++ x) behind cs) e

rank_squares : (bytes : List ℕ) (us : List (Option Man)) → IsRankText bytes us → (row behind : List (Option Man)) (cs : List ℕ) → squares_from row behind (bytes ++ cs) ≡ squares_from (row ++ us) behind cs
rank_squares [] us end row behind cs = ap (λ x. squares_from x behind cs) (sym (append-nil row))
rank_squares (c ∷ bytes) old (unit {units = us} u e r) row behind cs =
    rank_byte row behind (Some u ∷ []) c (bytes ++ cs) (λ f. omega (arith, letter_above u.side u.kind)) (ap (λ o. places o (c - 48)) (man_at-letter c u e))
    ∙ rank_squares bytes us r (row ++ Some u ∷ []) behind cs
    ∙ ap (λ x. squares_from x behind cs) (append_assoc row (Some u ∷ []) us)
rank_squares (c ∷ bytes) old (run {units = us} d p q e s r) row behind cs =
    let empty : c - 48 ≡ d = omega arith in
    rank_byte row behind (replicate d None) c (bytes ++ cs) (λ f. omega arith) (ap (λ o. places o (c - 48)) (man_at-none c (λ u f. no_digit c d u f q e)) ∙ ap (λ n. replicate n None) empty)
    ∙ rank_squares bytes us r (row ++ replicate d None) behind cs
    ∙ ap (λ x. squares_from x behind cs) (append_assoc row (replicate d None) us)

-- a text from rank n on is a board and a side to move, and the board lists its squares
text_squares : (w : ℕ) (s : Side) (n : ℕ) (text : List ℕ) (us : List (Option Man)) → IsTextFrom w s n text us
    → (board : List ℕ) × (text ≡ board ++ 32 ∷ side_letter s ∷ []) × ((behind : List (Option Man)) → squares_from [] behind board ≡ us ++ behind)
text_squares w s n text us (first {row = row} e r l) =
    (row, e, λ behind. ap (squares_from [] behind) (sym (append-nil row)) ∙ rank_squares row us r [] behind [])
text_squares w s n text us (above {n = k} {row = row} {rest = rest} {top = top} {lower = lower} e r l low u) =
    let below = text_squares w s k rest lower low in (
      row ++ 47 ∷ below.0,
      e ∙ ap (λ x. row ++ 47 ∷ x) below.1 ∙ sym (append_assoc row (47 ∷ below.0) (32 ∷ side_letter s ∷ [])),
      λ behind. rank_squares row top r [] behind (47 ∷ below.0) ∙ below.2 (top ++ behind) ∙ sym (append_assoc lower top behind) ∙ ap (λ x. x ++ behind) (sym u),
    )

pub long_text : (w : ℕ) (s : Side) (n : ℕ) (text : List ℕ) (us : List (Option Man)) → IsTextFrom w s n text us → length us ≡ n * w
long_text w s n text us (first e r l) = omega (arith, l)
long_text w s n text us (above {n = k} {rest = rest} {top = top} {lower = lower} e r l low u) =
    omega (arith, ap (length {A = Option Man}) u, l, length-append lower top, long_text w s k rest lower low)

-- a text without its last two bytes, and its last byte
pub cut_end : (board : List ℕ) (s : ℕ) (text : List ℕ) → text ≡ board ++ 32 ∷ s ∷ [] → (length text ≡ length board + 2) × (take (length text - 2) text ≡ board) × (get_or text (length text - 1) 0 ≡ s)
cut_end board s text e =
    let long : length text ≡ length board + 2 = ap (length {A = ℕ}) e ∙ length-append board (32 ∷ s ∷ []) in (
      long,
      ap (take (length text - 2)) e ∙ take_at board (32 ∷ s ∷ []) (length text - 2) (omega (arith, long)),
      ap (λ i. get_or text i 0) (last long) ∙ ap (λ x. get_or x (length board + 1) 0) e ∙ get_or-append-add board (32 ∷ s ∷ []) 1 0,
    )
  where
    last : length text ≡ length board + 2 → length text - 1 ≡ length board + 1
    last long = omega arith

-- ---- the reader's turns

-- what a byte says is the squares that it adds
pub places_is : (c times : ℕ) (place : Option Man) → MatchOption place (((u : Man) → c ≡ letter_of u.side u.kind → ⊥) × (times ≡ c - 48)) (λ u. (c ≡ letter_of u.side u.kind) × (times ≡ 1)) → replicate times place ≡ places_at c
places_is c times None h = rw (man_at-none c h.0, h.1) refl
places_is c times (Some u) h = rw (man_at-letter c u h.0, h.1) refl

-- the squares so far are among all
long_from : (row behind : List (Option Man)) (cs : List ℕ) → length row + length behind ≤ length (squares_from row behind cs)
long_from row behind [] = omega (arith, length-append row behind)
long_from row behind (c ∷ cs) = by (eqb c 47) (long_from [] (row ++ behind) cs) (long_from (row ++ places_at c) behind cs)
  where
    by : (b : Bool) → 0 + length (row ++ behind) ≤ length (squares_from [] (row ++ behind) cs) → length (row ++ places_at c) + length behind ≤ length (squares_from (row ++ places_at c) behind cs)
        → length row + length behind ≤ length (cond b (squares_from [] (row ++ behind) cs) (squares_from (row ++ places_at c) behind cs))
    by true h k = omega (arith, h, length-append row behind)
    by false h k = omega (arith, k, length-append row (places_at c))

module _ (board : List ℕ) (i at : ℕ) (old : List (Option Man)) (inside : i < length board) (so_far : squares_from (take at old) (drop at old) (drop i board) ≡ squares_from [] [] board) where
  abbrev byte : ℕ
  byte = get_or board i 0

  abbrev rest : List ℕ
  rest = drop (i + 1) board

  all : squares_from (take at old) (drop at old) (byte ∷ rest) ≡ squares_from [] [] board
  all = sym (at_drop_more (squares_from (take at old) (drop at old)) board i 0 inside) ∙ so_far

  -- after the end of a rank
  pub cut_turn : byte ≡ 47 → squares_from [] old rest ≡ squares_from [] [] board
  cut_turn h =
      ap (λ x. squares_from [] x rest) (sym (take-append-drop at old))
      ∙ sym (ap (λ b. cond b (squares_from [] (take at old ++ drop at old) rest) (squares_from (take at old ++ places_at byte) (drop at old) rest)) (eq-eqb byte 47 h)) ∙ all

  module _ (times : ℕ) (place : Option Man) (within : at ≤ length old) (in_rank : byte ≢ 47) (is : replicate times place ≡ places_at byte) where
    abbrev row : List (Option Man)
    row = take at old ++ replicate times place

    long : length row ≡ at + times
    long = omega (arith, within, length-append (take at old) (replicate times place), length-take at old, length-replicate times place)

    in_row : squares_from row (drop at old) rest ≡ squares_from [] [] board
    in_row = sym (rank_byte (take at old) (drop at old) (replicate times place) byte rest in_rank (sym is)) ∙ all

    -- the squares so far with the byte's
    pub room : length old + times ≤ length (squares_from [] [] board)
    room = omega (arith, long, within, long_from row (drop at old) rest, ap (length {A = Option Man}) in_row, length-drop at old)

    -- after a byte of a rank
    pub rank_turn : (new : List (Option Man)) → new ≡ take at old ++ (replicate times place ++ drop at old) → (at + times ≤ length new) × (squares_from (take (at + times) new) (drop (at + times) new) rest ≡ squares_from [] [] board)
    rank_turn new put =
        let whole : new ≡ row ++ drop at old = put ∙ sym (append_assoc (take at old) (replicate times place) (drop at old)) in (
          omega (arith, long, ap (length {A = Option Man}) whole, length-append row (drop at old)),
          ap (λ x. squares_from x (drop (at + times) new) rest) (ap (take (at + times)) whole ∙ take_at row (drop at old) (at + times) long)
              ∙ ap (λ x. squares_from row x rest) (ap (drop (at + times)) whole ∙ drop_at row (drop at old) (at + times) long) ∙ in_row,
        )

-- a board lists the squares of its text
pub listed : (board : List ℕ) (w n : ℕ) (side : Side) (units : List (Option Man)) → IsTextFrom w side n (board ++ 32 ∷ side_letter side ∷ []) units → squares_from [] [] board ≡ units
listed board w n side units text =
    let t = text_squares w side n _ units text in
    ap (squares_from [] []) (append_cancel_right board t.0 (32 ∷ side_letter side ∷ []) t.1) ∙ t.2 [] ∙ append-nil units

pub few_squares : (g : Game) → squares_of g ≤ 36
few_squares LosAlamos = omega arith
few_squares Gardner = omega arith

-- what a text says of its board
pub record Says (text : List ℕ) (b : PlainBoard) : Type 0 where
  pub squares : List (Option Man)
  pub ranks : IsTextFrom (width_of b.game) b.mover (width_of b.game) (take (length text - 2) text ++ 32 ∷ side_letter b.mover ∷ []) squares
  pub long : length squares ≡ squares_of b.game
  pub units : squares ++ replicate (36 - length squares) None ≡ b.units
  pub side : get_or text (length text - 1) 0 ≡ side_letter b.mover
  pub two : 2 ≤ length text

pub says : (text : List ℕ) (b : PlainBoard) → IsFenText text b → Says text b
says text b fen =
    let t = text_squares _ _ _ _ _ fen.ranks in
    let c = cut_end t.0 (side_letter b.mover) text t.1 in
    record {
      squares = fen.squares;
      ranks = subst (λ x. IsTextFrom (width_of b.game) b.mover (width_of b.game) x fen.squares) (t.1 ∙ ap (λ x. x ++ 32 ∷ side_letter b.mover ∷ []) (sym c.1)) fen.ranks;
      long = long_text _ _ _ _ _ fen.ranks;
      units = sym fen.units;
      side = c.2;
      two = omega (arith, c.0);
    }

-- the game that has so many squares
pub game_is : (g : Game) (n : ℕ) → n ≡ squares_of g → ((n ≡ 36 → LosAlamos ≡ g) × (n ≢ 36 → Gardner ≡ g))
game_is LosAlamos n e = (λ h. refl, λ h. absurd (h e))
game_is Gardner n e = (λ h. absurd (omega arith), λ h. refl)

-- the side of a letter
pub side_is : (s : Side) (c : ℕ) → c ≡ side_letter s → ((c ≡ 119 → White ≡ s) × (c ≢ 119 → Black ≡ s))
side_is White c e = (λ h. refl, λ h. absurd (h e))
side_is Black c e = (λ h. absurd (omega arith), λ h. refl)

same_side : (s t : Side) → side_letter s ≡ side_letter t → s ≡ t
same_side White t e = (side_is t 119 e).0 refl
same_side Black t e = (side_is t 98 e).1 (λ h. omega arith)

pub same_game : (g h : Game) → squares_of g ≡ squares_of h → g ≡ h
same_game LosAlamos h e = (game_is h 36 e).0 refl
same_game Gardner h e = (game_is h 25 e).1 (λ h. omega arith)

-- a board of these parts
pub same_board : (b c : PlainBoard) → b.game ≡ c.game → b.mover ≡ c.mover → b.units ≡ c.units → b ≡ c
same_board b c x y z = λ i. record { game = x i; mover = y i; units = z i }

-- what is made of a board's parts, if it is a position
pub made_is : (o : Option PlainBoard) (a b : PlainBoard) → IfNone o (IsPosition a → ⊥) → IfSome o (λ p. p ≡ a) → a ≡ b → IsPosition b → o ≡ Some b
made_is None a b refused made e p = absurd (refused (subst IsPosition (sym e) p))
made_is (Some q) a b refused made e p = ap (λ (x : PlainBoard). Some x) (made ∙ e)

-- a text is that of one board
pub one_board : (text : List ℕ) (b c : PlainBoard) → IsFenText text b → IsFenText text c → b ≡ c
one_board text b c s t =
    let x = says text b s in
    let y = says text c t in
    let squares : x.squares ≡ y.squares = sym (listed _ _ _ _ _ x.ranks) ∙ listed _ _ _ _ _ y.ranks in
    same_board b c (same_game b.game c.game (sym x.long ∙ ap (length {A = Option Man}) squares ∙ y.long)) (same_side b.mover c.mover (sym x.side ∙ y.side))
    (sym x.units ∙ ap (λ (us : List (Option Man)). us ++ replicate (36 - length us) None) squares ∙ y.units)
