-- The units that stand in an entry's words are its position's.
use Rattle.std.proofs.Common.{◌≡◌, ℕ, zero, suc, ◌+◌, ◌*◌, ◌/◌, ◌%◌, ◌^◌, ◌<◌, sym, ap, ◌∙◌, arith, List, [], ◌∷◌, length, get_or, drop, None}
use Rattle.entry.proofs.Common.{pow-succ', mul_assoc, get_or-take, get_or-drop, Game, LosAlamos, Gardner, width_of, squares_of, PlainBoard, IsPosition, digit, man_of, code_on, Spells, one_spelled, Bounds, Entry, Marks, marks_number, code_of, squares_word, entry_of, Packing}
use Rattle.entry.proofs.Digits.{code_le}
use Rattle.entry.proofs.Ranks.{Places, pair, IsWhole, whole_position}
use Rattle.entry.proofs.Words.{marks_of, one_marks, fields_of}
use Rattle.entry.proofs.BoardWords.{digit_first, digit_rest}
use Rattle.entry.proofs.Decided.{man_of-code}

-- ---- digits of squares, whatever stands above them

digit_of : (us : Places) (w h i : ℕ) → i < length us → w ≡ squares_word us + 16 ^ length us * h → digit w i ≡ code_of (get_or us i None)
digit_of [] w h i less e = absurd (omega (arith, less))
digit_of (u ∷ us) w h zero less e =
    let k = code_le u in
    let p = pow-succ' 16 (length us) in
    let q : 16 ^ suc (length us) * h ≡ 16 * (16 ^ length us * h) = ap (λ n. n * h) p ∙ mul_assoc 16 (16 ^ length us) h in
    digit_first w ∙ omega (arith, k, q, e)
digit_of (u ∷ us) w h (suc i) less e =
    let k = code_le u in
    let p = pow-succ' 16 (length us) in
    let q : 16 ^ suc (length us) * h ≡ 16 * (16 ^ length us * h) = ap (λ n. n * h) p ∙ mul_assoc 16 (16 ^ length us) h in
    let rest : w / 16 ≡ squares_word us + 16 ^ length us * h = omega (arith, k, q, e) in
    sym (digit_rest w i) ∙ digit_of us (w / 16) h i (omega (arith, less)) rest

-- ---- three words of squares

-- word k holds pair k of the ranks, and something above it
record AreHeld (g : Game) (us : Places) (words : List ℕ) : Type 0 where
  first : get_or words 0 0 % 2 ^ 48 ≡ squares_word (pair 0 g us)
  second : get_or words 1 0 % 2 ^ 48 ≡ squares_word (pair 1 g us)
  third : get_or words 2 0 % 2 ^ 48 ≡ squares_word (pair 2 g us)

in_word : (g : Game) (xs : Places) (w i : ℕ) → length xs ≡ 2 * width_of g → w % 2 ^ 48 ≡ squares_word xs → i < 2 * width_of g → man_of (digit w i) ≡ get_or xs i None
in_word LosAlamos xs w i long e less =
    let power : 16 ^ length xs ≡ 2 ^ 48 = ap (λ n. 16 ^ n) long in
    let whole : w ≡ squares_word xs + 2 ^ 48 * (w / 2 ^ 48) = omega (arith, e) in
    ap man_of (digit_of xs w (w / 2 ^ 48) i (omega (arith, long, less)) (whole ∙ ap (λ n. squares_word xs + n * (w / 2 ^ 48)) (sym power))) ∙ man_of-code (get_or xs i None)
in_word Gardner xs w i long e less =
    let power : 16 ^ length xs ≡ 2 ^ 40 = ap (λ n. 16 ^ n) long in
    let whole : w ≡ squares_word xs + 2 ^ 40 * (256 * (w / 2 ^ 48)) = omega (arith, e) in
    ap man_of (digit_of xs w (256 * (w / 2 ^ 48)) i (omega (arith, long, less)) (whole ∙ ap (λ n. squares_word xs + n * (256 * (w / 2 ^ 48))) (sym power))) ∙ man_of-code (get_or xs i None)

-- a place of a pair is one of the board's
place_in_pair : (g : Game) (us : Places) (k i : ℕ) → i < 2 * width_of g → get_or (pair k g us) i None ≡ get_or us (k * (2 * width_of g) + i) None
place_in_pair g us k i less = get_or-take (2 * width_of g) (drop (k * (2 * width_of g)) us) i None less ∙ get_or-drop (k * (2 * width_of g)) us i None

module _ (g : Game) (us : Places) (words : List ℕ) (whole : IsWhole g us) (held : AreHeld g us words) where
  on_board_in : (k i : ℕ) → k < 3 → i < 2 * width_of g → man_of (digit (get_or words k 0) i) ≡ get_or us (k * (2 * width_of g) + i) None
  on_board_in zero i h less = in_word g (pair 0 g us) (get_or words 0 0) i whole.first held.first less ∙ place_in_pair g us 0 i less
  on_board_in (suc zero) i h less = in_word g (pair 1 g us) (get_or words 1 0) i whole.second held.second less ∙ place_in_pair g us 1 i less
  on_board_in (suc (suc zero)) i h less = in_word g (pair 2 g us) (get_or words 2 0) i whole.third held.third less ∙ place_in_pair g us 2 i less
  on_board_in (suc (suc (suc k))) i h less = absurd (omega (arith, h))

at_square : (g : Game) (us : Places) (words : List ℕ) → IsWhole g us → AreHeld g us words → (n : ℕ) → n < squares_of g → man_of (code_on g words n) ≡ get_or us n None
at_square LosAlamos us words whole held n h =
    let at : n / 12 * 12 + n % 12 ≡ n = omega arith in
    on_board_in LosAlamos us words whole held (n / 12) (n % 12) (omega (arith, h)) (omega arith) ∙ ap (λ k. get_or us k None) at
at_square Gardner us words whole held n h =
    let at : n / 10 * 10 + n % 10 ≡ n = omega arith in
    on_board_in Gardner us words whole held (n / 10) (n % 10) (omega (arith, h)) (omega arith) ∙ ap (λ k. get_or us k None) at

-- ---- an entry's words

-- the words spell its position
pub spelled : (e : Entry) (words : List ℕ) → Packing e words → Spells e.position words
spelled e words p =
    let f = fields_of e words p in
    let held : AreHeld e.position.game e.position.units words = record { first = f.packed.low; second = f.packed.middle; third = f.packed.high } in
    λ n h. sym (at_square e.position.game e.position.units words (whole_position e.position p.position) held n h)

-- what is read of the words is the entry
pub entry_read : (e : Entry) (words : List ℕ) (m : Marks) (i : Bounds) (b : PlainBoard) → Packing e words → get_or words 0 0 / 2 ^ 48 ≡ marks_number m → i ≡ e.interval
    → IsPosition b → b.game ≡ m.game → b.mover ≡ m.mover → Spells b words → entry_of b m.attacker m.goal i ≡ e
entry_read e words m i b p number interval is game mover s =
    let f = fields_of e words p in
    let same : m ≡ marks_of e = one_marks m (marks_of e) (sym number ∙ f.marks) in
    let at = one_spelled b e.position words is p.position s (spelled e words p) (game ∙ ap (λ (x : Marks). x.game) same) (mover ∙ ap (λ (x : Marks). x.mover) same) in
    λ k. entry_of (at k) ((same k).attacker) ((same k).goal) (interval k)
