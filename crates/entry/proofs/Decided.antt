-- The test of packings and of the preference, and what they decide.
use Rattle.std.proofs.Common.{◌≡◌, ℕ, zero, suc, ◌+◌, ◌-◌, ◌*◌, ◌/◌, ◌%◌, ◌^◌, ◌<◌, ◌≤◌, refl, sym, ap, subst, ◌∙◌, arith, Bool, true, false, ◌&&◌, nat_lt, nat_le, inl, inr, ◌==◌, if◌then◌else◌, List, [], ◌∷◌, ◌++◌, length, get_or, replicate, Option, Some, None}
use Rattle.entry.proofs.Common.{Decides, IfSome, false≢true, cases_lt, Decides-and, Decides-eqb, Decides-below_and, nat_tests, bytes_eq-Decides, Game, LosAlamos, Gardner, Side, White, Black, Kind, King, Queen, Rook, Bishop, Knight, Pawn, Man, width_of, squares_of, IsPlayed, PlainBoard, unit_on, MayStandOn, IsInnerRank, IsArmy, IsPosition, Goal, Mate, MateOrStale, man_of, Bounds, IsBounds, Entry, man_code, code_of, squares_word, side_bit, game_bit, goal_bit, upto_byte, first_word, second_word, third_word, Packing, squares_in, side_at, game_at, goal_at, end_at, units_of, low_of, top_of, game_in, entry_in, is_played, is_pawn, is_inner, may_stand, stand_below, is_army, is_position, is_end, is_interval, is_packing_of, is_packing}
use Rattle.entry.proofs.Digits.{code_le}
use Rattle.entry.proofs.Ranks.{Places, pair, whole_position}
use Rattle.entry.proofs.Words.{side_bit_le, game_bit_le, goal_bit_le, fields_of}

pub le_decides : (m n : ℕ) → Decides (nat_le m n) (m ≤ n)
le_decides m n = (λ e. grind (arith, nat_tests), λ h. grind (arith, nat_tests))

pub lt_decides : (m n : ℕ) → Decides (nat_lt m n) (m < n)
lt_decides m n = (λ e. grind (arith, nat_tests), λ h. grind (arith, nat_tests))

-- ---- positions

played_decides : (g : Game) (k : Kind) → Decides (is_played g k) (IsPlayed g k)
played_decides LosAlamos King = (λ e. tt, λ p. refl)
played_decides LosAlamos Queen = (λ e. tt, λ p. refl)
played_decides LosAlamos Rook = (λ e. tt, λ p. refl)
played_decides LosAlamos Bishop = (λ e. absurd (false≢true e), λ p. absurd p)
played_decides LosAlamos Knight = (λ e. tt, λ p. refl)
played_decides LosAlamos Pawn = (λ e. tt, λ p. refl)
played_decides Gardner k = (λ e. tt, λ p. refl)

inner_decides : (g : Game) (n : ℕ) → Decides (is_inner g n) (IsInnerRank g n)
inner_decides g n = Decides-and (nat_le (width_of g) n) (nat_lt (n + width_of g) (squares_of g)) (le_decides (width_of g) n) (lt_decides (n + width_of g) (squares_of g))

no_pawn : (k : Kind) (P : Type 0) → is_pawn k ≡ false → k ≡ Pawn → P
no_pawn k P e same = absurd (false≢true (sym e ∙ ap is_pawn same))

pawn_decides : (g : Game) (n : ℕ) (k : Kind) → Decides (if is_pawn k then is_inner g n else true) (k ≡ Pawn → IsInnerRank g n)
pawn_decides g n King = (λ e. no_pawn King (IsInnerRank g n) refl, λ p. refl)
pawn_decides g n Queen = (λ e. no_pawn Queen (IsInnerRank g n) refl, λ p. refl)
pawn_decides g n Rook = (λ e. no_pawn Rook (IsInnerRank g n) refl, λ p. refl)
pawn_decides g n Bishop = (λ e. no_pawn Bishop (IsInnerRank g n) refl, λ p. refl)
pawn_decides g n Knight = (λ e. no_pawn Knight (IsInnerRank g n) refl, λ p. refl)
pawn_decides g n Pawn = let d = inner_decides g n in (λ e same. d.0 e, λ p. d.1 (p refl))

stand_decides : (g : Game) (n : ℕ) (o : Option Man) → Decides (may_stand g n o) (IfSome o (MayStandOn g n))
stand_decides g n None = (λ e. tt, λ p. refl)
stand_decides g n (Some u) =
    let d = Decides-and (nat_lt n (squares_of g)) (is_played g u.kind && (if is_pawn u.kind then is_inner g n else true)) (lt_decides n (squares_of g))
    (Decides-and (is_played g u.kind) (if is_pawn u.kind then is_inner g n else true) (played_decides g u.kind) (pawn_decides g n u.kind)) in (
      λ e. let all = d.0 e in record { on_board = all.0; played = all.1.0; inner = all.1.1 },
      λ p. d.1 (p.on_board, (p.played, p.inner)),
    )

below_decides : (b : PlainBoard) (n : ℕ) → Decides (stand_below b n) ((k : ℕ) → k < n → IfSome (unit_on b k) (MayStandOn b.game k))
below_decides b n = Decides-below_and (λ k. may_stand b.game k (unit_on b k)) (λ k. IfSome (unit_on b k) (MayStandOn b.game k)) (stand_below b) (λ k. stand_decides b.game k (unit_on b k)) refl (λ k. refl) n

army_decides : (g : Game) (units : Places) (s : Side) → Decides (is_army g units s) (IsArmy g units s)
army_decides g units s =
    let d = Decides-and _ _ (Decides-eqb _ 1) (le_decides _ _) in
    (λ e. let all = d.0 e in record { king = all.0; room = all.1 }, λ a. d.1 (a.king, a.room))

past_end : (us : Places) (n : ℕ) → length us ≤ n → get_or us n None ≡ None
past_end [] n h = refl
past_end (u ∷ us) zero h = absurd (omega arith)
past_end (u ∷ us) (suc n) h = past_end us n (omega arith)

each_place : (b : PlainBoard) → length b.units ≡ 36 → ((k : ℕ) → k < 36 → IfSome (unit_on b k) (MayStandOn b.game k)) → (n : ℕ) → IfSome (unit_on b n) (MayStandOn b.game n)
each_place b l h n = elim (cases_lt n 36) [
  | inl low ↦ h n low
  | inr high ↦ subst (λ (o : Option Man). IfSome o (MayStandOn b.game n)) (sym (past_end b.units n (omega arith))) tt
]

both_sides : (P : Side → Type 0) → P White → P Black → (s : Side) → P s
both_sides P w b White = w
both_sides P w b Black = b

position_decides : (b : PlainBoard) → Decides (is_position b) (IsPosition b)
position_decides b =
    let d = Decides-and _ _ (Decides-eqb (length b.units) 36) (Decides-and _ _ (below_decides b 36) (Decides-and _ _ (army_decides b.game b.units White) (army_decides b.game b.units Black))) in (
      λ e. let all = d.0 e in record { places = all.0; squares = each_place b all.0 all.1.0; armies = both_sides (IsArmy b.game b.units) all.1.1.0 all.1.1.1 },
      λ p. d.1 (p.places, ((λ k h. p.squares k), (p.armies White, p.armies Black))),
    )

-- ---- intervals

end_decides : (below : ℕ) (o : Option ℕ) → Decides (is_end below o) (IfSome o (λ n. n ≤ 63) × IfSome o (λ n. below ≤ n))
end_decides below None = (λ e. (tt, tt), λ p. refl)
end_decides below (Some n) = Decides-and (nat_le n 63) (nat_le below n) (le_decides n 63) (le_decides below n)

interval_decides : (i : Bounds) → Decides (is_interval i) (IsBounds i)
interval_decides i =
    let d = Decides-and _ _ (le_decides i.below 64) (end_decides i.below i.upto) in
    (λ e. let all = d.0 e in record { below = all.0; upto = all.1.0; ordered = all.1.1 }, λ p. d.1 (p.below, (p.upto, p.ordered)))

-- ---- packings

pub of_decides : (e : Entry) (words : List ℕ) → Decides (is_packing_of e words) (Packing e words)
of_decides e words =
    let d = Decides-and _ _ (position_decides e.position) (Decides-and _ _ (interval_decides e.interval) (bytes_eq-Decides words (first_word e ∷ second_word e ∷ third_word e ∷ []))) in
    (λ t. let all = d.0 t in record { position = all.0; interval = all.1.0; words = all.1.1 }, λ p. d.1 (p.position, (p.interval, p.words)))

man_of-man : (s : Side) (k : Kind) → man_of (man_code s k) ≡ Some (record { side = s; kind = k })
man_of-man White King = refl
man_of-man White Queen = refl
man_of-man White Rook = refl
man_of-man White Bishop = refl
man_of-man White Knight = refl
man_of-man White Pawn = refl
man_of-man Black King = refl
man_of-man Black Queen = refl
man_of-man Black Rook = refl
man_of-man Black Bishop = refl
man_of-man Black Knight = refl
man_of-man Black Pawn = refl

pub man_of-code : (p : Option Man) → man_of (code_of p) ≡ p
man_of-code None = refl
man_of-code (Some u) = man_of-man u.side u.kind

squares_in-word : (xs : Places) → squares_in (length xs) (squares_word xs) ≡ xs
squares_in-word [] = refl
squares_in-word (x ∷ xs) =
    let k = code_le x in
    let first : (code_of x + 16 * squares_word xs) % 16 ≡ code_of x = omega arith in
    let rest : (code_of x + 16 * squares_word xs) / 16 ≡ squares_word xs = omega arith in
    let p : man_of ((code_of x + 16 * squares_word xs) % 16) ≡ x = ap man_of first ∙ man_of-code x in
    let q : squares_in (length xs) ((code_of x + 16 * squares_word xs) / 16) ≡ xs = ap (squares_in (length xs)) rest ∙ squares_in-word xs in
    λ i. p i ∷ q i

pair_in : (g h : Game) (word : ℕ) (xs : Places) → g ≡ h → word ≡ squares_word xs → length xs ≡ 2 * width_of h → squares_in (2 * width_of g) word ≡ xs
pair_in g h word xs same w l = (λ i. squares_in (2 * width_of (same i)) (w i)) ∙ ap (λ n. squares_in n (squares_word xs)) (sym l) ∙ squares_in-word xs

side_at-bit : (s : Side) → side_at (side_bit s) ≡ s
side_at-bit White = refl
side_at-bit Black = refl

game_at-bit : (g : Game) → game_at (game_bit g) ≡ g
game_at-bit LosAlamos = refl
game_at-bit Gardner = refl

goal_at-bit : (g : Goal) → goal_at (goal_bit g) ≡ g
goal_at-bit Mate = refl
goal_at-bit MateOrStale = refl

end_at-byte : (o : Option ℕ) → IfSome o (λ n. n ≤ 63) → end_at (upto_byte o) ≡ o
end_at-byte None h = refl
end_at-byte (Some n) h =
    let other : (n == 255) ≡ false = grind (arith, nat_tests) in
    ap (λ (t : Bool). if t then None else Some n) other

bits_of : (m a b c d : ℕ) → a ≤ 1 → b ≤ 1 → c ≤ 1 → d ≤ 1 → m ≡ a + 2 * b + 4 * c + 8 * d + 2 ^ 15 → (m % 2 ≡ a) × (m / 2 % 2 ≡ b) × (m / 4 % 2 ≡ c) × (m / 8 % 2 ≡ d)
bits_of m a b c d h1 h2 h3 h4 e = (omega arith, omega arith, omega arith, omega arith)

-- the entry of a packing is the one that is read
pub decoded : (e : Entry) (words : List ℕ) → Packing e words → entry_in words ≡ e
decoded e words p =
    let f = fields_of e words p in
    let whole = whole_position e.position p.position in
    let bits = bits_of (top_of words 0) (side_bit e.position.mover) (side_bit e.attacker) (game_bit e.position.game) (goal_bit e.goal)
    (side_bit_le e.position.mover) (side_bit_le e.attacker) (game_bit_le e.position.game) (goal_bit_le e.goal) f.marks in
    let game : game_in words ≡ e.position.game = ap game_at bits.2 ∙ game_at-bit e.position.game in
    let mover : side_at (top_of words 0 % 2) ≡ e.position.mover = ap side_at bits.0 ∙ side_at-bit e.position.mover in
    let attacker : side_at (top_of words 0 / 2 % 2) ≡ e.attacker = ap side_at bits.1 ∙ side_at-bit e.attacker in
    let goal : goal_at (top_of words 0 / 8 % 2) ≡ e.goal = ap goal_at bits.3 ∙ goal_at-bit e.goal in
    let upto : end_at (top_of words 2) ≡ e.interval.upto = ap end_at f.upto ∙ end_at-byte e.interval.upto p.interval.upto in
    let below : top_of words 1 ≡ e.interval.below = f.below in
    let a = pair_in (game_in words) e.position.game (low_of words 0) (pair 0 e.position.game e.position.units) game f.packed.low whole.first in
    let b = pair_in (game_in words) e.position.game (low_of words 1) (pair 1 e.position.game e.position.units) game f.packed.middle whole.second in
    let c = pair_in (game_in words) e.position.game (low_of words 2) (pair 2 e.position.game e.position.units) game f.packed.high whole.third in
    let units : units_of (game_in words) (low_of words 0) (low_of words 1) (low_of words 2) ≡ e.position.units
    = (λ i. ((a i ++ b i) ++ c i) ++ replicate (36 - 6 * width_of (game i)) None) ∙ sym whole.parts in
    λ i. record {
      position = record { game = game i; mover = mover i; units = units i };
      attacker = attacker i;
      goal = goal i;
      interval = record { below = below i; upto = upto i };
    }

-- words are a packing exactly where the test says so
pub packing_decides : (words : List ℕ) → Decides (is_packing words) ((e : Entry) × Packing e words)
packing_decides words =
    let d = of_decides (entry_in words) words in
    (λ t. (entry_in words, d.0 t), λ w. d.1 (subst (λ (e : Entry). Packing e words) (sym (decoded w.0 words w.1)) w.1))
