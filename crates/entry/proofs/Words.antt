-- The fields of an entry's words.
use Rattle.std.proofs.Common.{◌≡◌, ℕ, ◌+◌, ◌*◌, ◌/◌, ◌%◌, ◌^◌, ◌<◌, ◌≤◌, refl, ap, arith, List, get_or, Option, Some, None}
use Rattle.entry.proofs.Common.{IfSome, Game, LosAlamos, Gardner, Side, White, Black, Goal, Mate, MateOrStale, Bounds, IsBounds, Entry, Marks, side_bit, game_bit, goal_bit, upto_byte, squares_word, rank_pair, first_word, Packing, marks_number}
use Rattle.entry.proofs.Digits.{squares_small}
use Rattle.entry.proofs.Ranks.{IsPacked, whole_position}
use Rattle.rules.proofs.Room.{width_six as width_le}

-- ---- marks

pub side_bit_le : (s : Side) → side_bit s ≤ 1
side_bit_le White = omega arith
side_bit_le Black = omega arith

pub game_bit_le : (g : Game) → game_bit g ≤ 1
game_bit_le LosAlamos = omega arith
game_bit_le Gardner = omega arith

pub goal_bit_le : (g : Goal) → goal_bit g ≤ 1
goal_bit_le Mate = omega arith
goal_bit_le MateOrStale = omega arith

one_side : (s t : Side) → side_bit s ≡ side_bit t → s ≡ t
one_side White White e = refl
one_side White Black e = absurd (omega arith)
one_side Black White e = absurd (omega arith)
one_side Black Black e = refl

one_game : (g h : Game) → game_bit g ≡ game_bit h → g ≡ h
one_game LosAlamos LosAlamos e = refl
one_game LosAlamos Gardner e = absurd (omega arith)
one_game Gardner LosAlamos e = absurd (omega arith)
one_game Gardner Gardner e = refl

one_goal : (g h : Goal) → goal_bit g ≡ goal_bit h → g ≡ h
one_goal Mate Mate e = refl
one_goal Mate MateOrStale e = absurd (omega arith)
one_goal MateOrStale Mate e = absurd (omega arith)
one_goal MateOrStale MateOrStale e = refl

abbrev pub marks_of : Entry → Marks
marks_of e = record { mover = e.position.mover; attacker = e.attacker; game = e.position.game; goal = e.goal }

same_bits : (a b c d p q r s : ℕ) → a ≤ 1 → b ≤ 1 → c ≤ 1 → d ≤ 1 → p ≤ 1 → q ≤ 1 → r ≤ 1 → s ≤ 1 → a + 2 * b + 4 * c + 8 * d ≡ p + 2 * q + 4 * r + 8 * s → (a ≡ p) × (b ≡ q) × (c ≡ r) × (d ≡ s)
same_bits a b c d p q r s h1 h2 h3 h4 h5 h6 h7 h8 e = (omega arith, omega arith, omega arith, omega arith)

-- a number is that of one side to move, attacker, game and goal
pub one_marks : (m n : Marks) → marks_number m ≡ marks_number n → m ≡ n
one_marks m n e =
    let bits = same_bits (side_bit m.mover) (side_bit m.attacker) (game_bit m.game) (goal_bit m.goal) (side_bit n.mover) (side_bit n.attacker) (game_bit n.game) (goal_bit n.goal)
    (side_bit_le m.mover) (side_bit_le m.attacker) (game_bit_le m.game) (goal_bit_le m.goal) (side_bit_le n.mover) (side_bit_le n.attacker) (game_bit_le n.game) (goal_bit_le n.goal) (omega arith) in
    let a = one_side m.mover n.mover bits.0 in
    let b = one_side m.attacker n.attacker bits.1 in
    let c = one_game m.game n.game bits.2 in
    let d = one_goal m.goal n.goal bits.3 in
    λ i. record { mover = a i; attacker = b i; game = c i; goal = d i }

-- ---- the fields of the three words

pub record Fields (e : Entry) (three : List ℕ) : Type 0 where
  pub marks : get_or three 0 0 / 2 ^ 48 ≡ marks_number (marks_of e)
  pub below : get_or three 1 0 / 2 ^ 48 ≡ e.interval.below
  pub upto : get_or three 2 0 / 2 ^ 48 ≡ upto_byte e.interval.upto
  pub packed : IsPacked e.position (get_or three 0 0 % 2 ^ 48) (get_or three 1 0 % 2 ^ 48) (get_or three 2 0 % 2 ^ 48)

low_part : (word low high : ℕ) → low < 2 ^ 48 → word ≡ low + 2 ^ 48 * high → (word / 2 ^ 48 ≡ high) × (word % 2 ^ 48 ≡ low)
low_part word low high h e = (omega arith, omega arith)

pub fields_of : (e : Entry) (three : List ℕ) → Packing e three → Fields e three
fields_of e three p =
    let whole = whole_position e.position p.position in
    let narrow = width_le e.position.game in
    let a = low_part (get_or three 0 0) (squares_word (rank_pair 0 e.position)) (marks_number (marks_of e)) (squares_small _ (omega (arith, whole.first))) (let w : get_or three 0 0 ≡ first_word e = ap (λ (l : List ℕ). get_or l 0 0) p.words in omega arith) in
    let b = low_part (get_or three 1 0) (squares_word (rank_pair 1 e.position)) e.interval.below (squares_small _ (omega (arith, whole.second))) (ap (λ (l : List ℕ). get_or l 1 0) p.words) in
    let c = low_part (get_or three 2 0) (squares_word (rank_pair 2 e.position)) (upto_byte e.interval.upto) (squares_small _ (omega (arith, whole.third))) (ap (λ (l : List ℕ). get_or l 2 0) p.words) in
    record {
      marks = a.0;
      below = b.0;
      upto = c.0;
      packed = record { position = p.position; low = a.1; middle = b.1; high = c.1 };
    }

-- ---- intervals

one_end : (a b : Option ℕ) → IfSome a (λ n. n ≤ 63) → IfSome b (λ n. n ≤ 63) → upto_byte a ≡ upto_byte b → a ≡ b
one_end None None h k e = refl
one_end None (Some n) h k e = absurd (omega arith)
one_end (Some n) None h k e = absurd (omega arith)
one_end (Some m) (Some n) h k e = ap Some e

pub one_interval : (i j : Bounds) → IsBounds i → IsBounds j → i.below ≡ j.below → upto_byte i.upto ≡ upto_byte j.upto → i ≡ j
one_interval i j p q a b = let c = one_end i.upto j.upto p.upto q.upto b in λ k. record { below = a k; upto = c k }
