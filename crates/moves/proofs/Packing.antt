-- What words stand for, and what a move does to them.
use Rattle.moves.proofs.Common.{◌≡◌, ◌≢◌, ℕ, ◌+◌, ◌%◌, ◌<◌, ◌≤◌, zero, suc, refl, sym, ap, subst, ◌∙◌, arith, inl, inr, List, length, get_or, set, IfSome, Option, Some, None, replicate, bit_xor, cases_eq, cases_lt, get_or-set_same, get_or-set_other, length-set, Game, LosAlamos, Gardner, Man, squares_of, other_side, PlainBoard, unit_on, IsPosition, MayStandOn, digit, man_of, word_of, place_of, code_on, flags_of, game_of, game_of_flags, mover_of_flags, units_in, unpacked, Spells, IsUnused, IsPacked, IsFlags, Ply, square_number, IsPseudoLegal, placed, after, number_within, to_on_board, IsPosition-after}
use Rattle.std.proofs.lemmas.List.FromFn.{get_or-map-range_with_len, fill_by_all}

pub within_36 : (g : Game) (n : ℕ) → n < squares_of g → n < 36
within_36 LosAlamos n h = omega (arith, h)
within_36 Gardner n h = omega (arith, h)

pub units_in-at : (g : Game) (words : List ℕ) (n : ℕ) → n < 36 → get_or (units_in g words) n None ≡ man_of (code_on g words n)
units_in-at g words n h = get_or-map-range_with_len (λ k. man_of (code_on g words k)) 0 36 n n None h (omega arith)

-- two squares have two places
pub other_place : (g : Game) (n s : ℕ) → n ≢ s → word_of g n ≡ word_of g s → place_of g n ≡ place_of g s → ⊥
other_place LosAlamos n s other e f = other (omega (arith, e, f))
other_place Gardner n s other e f = other (omega (arith, e, f))

-- no square stands where the flags do
pub not_flags : (g : Game) (s : ℕ) → 12 ≡ place_of g s → ⊥
not_flags LosAlamos s e = omega (arith, e)
not_flags Gardner s e = omega (arith, e)

-- the flags with the other side to move
record IsTurned (f h : ℕ) : Type 0 where
  game : game_of_flags h ≡ game_of_flags f
  mover : mover_of_flags h ≡ other_side (mover_of_flags f)
  flags : IsFlags h

turned_flags : (f : ℕ) → IsFlags f → IsTurned f (bit_xor f 1)
turned_flags zero h = record { game = refl; mover = refl; flags = record { eight = omega arith; colour = omega arith } }
turned_flags (suc zero) h = record { game = refl; mover = refl; flags = record { eight = omega arith; colour = omega arith } }
turned_flags (suc (suc zero)) h = absurd (omega (arith, h.colour))
turned_flags (suc (suc (suc zero))) h = absurd (omega (arith, h.colour))
turned_flags (suc (suc (suc (suc zero)))) h = record { game = refl; mover = refl; flags = record { eight = omega arith; colour = omega arith } }
turned_flags (suc (suc (suc (suc (suc zero))))) h = record { game = refl; mover = refl; flags = record { eight = omega arith; colour = omega arith } }
turned_flags (suc (suc (suc (suc (suc (suc f)))))) h = absurd (omega (arith, h.eight, h.colour))

-- `after` has the code on square s and is else as `before`
pub record IsPut (g : Game) (before after : List ℕ) (s code : ℕ) : Type 0 where
  pub there : code_on g after s ≡ code
  pub elsewhere : (k i : ℕ) → (k ≡ word_of g s → i ≡ place_of g s → ⊥) → digit (get_or after k 0) i ≡ digit (get_or before k 0) i

-- ---- words that have units on their squares

-- the squares below n are filled, and all else is 0 but for the flags
pub record IsFilled (g : Game) (f : ℕ) (units : List (Option Man)) (words : List ℕ) (n : ℕ) : Type 0 where
  pub flags : flags_of words ≡ f
  pub done : (k : ℕ) → k < n → man_of (code_on g words k) ≡ get_or units k None
  pub small : (k : ℕ) → k < n → code_on g words k < 13
  pub free : (k i : ℕ) → ((m : ℕ) → m < n → word_of g m ≡ k → place_of g m ≡ i → ⊥) → (k ≡ 0 → i ≡ 12 → ⊥) → digit (get_or words k 0) i ≡ 0

-- so are a board's words
IsFilled-packed : (words : List ℕ) → IsPacked words → IsFilled (game_of words) (flags_of words) (units_in (game_of words) words) words (squares_of (game_of words))
IsFilled-packed words p = record {
  flags = refl;
  done = λ k less. sym (units_in-at (game_of words) words k (within_36 (game_of words) k less));
  small = p.codes;
  free = λ k i none flag. p.unused k i (record { no_square = none; no_flags = flag });
}

-- a code more, or another one
module _ (g : Game) (f : ℕ) (units placed : List (Option Man)) (v u : List ℕ) (s code n m : ℕ) (p : IsPut g v u s code) (is : man_of code ≡ get_or placed s None) (low : code < 13)
    (within : s < m) (more : n ≤ m) (others : (k : ℕ) → k < m → k ≢ s → (k < n) × (get_or placed k None ≡ get_or units k None)) (h : IsFilled g f units v n) where
  same_at : (k : ℕ) → k ≢ s → code_on g u k ≡ code_on g v k
  same_at k other = p.elsewhere (word_of g k) (place_of g k) (other_place g k s other)

  pub IsFilled-put : IsFilled g f placed u m
  IsFilled-put = record {
    flags = p.elsewhere 0 12 (λ _ e. not_flags g s e) ∙ h.flags;
    done = λ k less. elim (cases_eq k s) [
      | inl e ↦ subst (λ x. man_of (code_on g u x) ≡ get_or placed x None) (sym e) (ap man_of p.there ∙ is)
      | inr other ↦ let w = others k less other in ap man_of (same_at k other) ∙ h.done k w.0 ∙ sym w.1
    ];
    small = λ k less. elim (cases_eq k s) [
      | inl e ↦ subst (λ x. code_on g u x < 13) (sym e) (subst (λ x. x < 13) (sym p.there) low)
      | inr other ↦ subst (λ x. x < 13) (sym (same_at k other)) (h.small k (others k less other).0)
    ];
    free = λ k i none flag. p.elsewhere k i (λ a b. none s within (sym a) (sym b)) ∙ h.free k i (λ x below. none x (omega (arith, below, more))) flag;
  }

-- the other side to move
IsFilled-turned : (g : Game) (f : ℕ) (units : List (Option Man)) (u : List ℕ) (t n : ℕ) → 0 < length u → digit t 12 ≡ bit_xor (digit (get_or u 0 0) 12) 1 → ((i : ℕ) → i ≢ 12 → digit t i ≡ digit (get_or u 0 0) i)
    → IsFilled g f units u n → IsFilled g (bit_xor f 1) units (set u 0 t) n
IsFilled-turned g f units u t n long flip rest h = record {
  flags = ap (λ x. digit x 12) first ∙ flip ∙ ap (λ x. bit_xor x 1) h.flags;
  done = λ k less. ap man_of (code k) ∙ h.done k less;
  small = λ k less. subst (λ x. x < 13) (sym (code k)) (h.small k less);
  free = λ k i none flag. same k i flag ∙ h.free k i none flag;
}
  where
    first : get_or (set u 0 t) 0 0 ≡ t
    first = get_or-set_same u 0 t 0 long

    same : (k i : ℕ) → (k ≡ 0 → i ≡ 12 → ⊥) → digit (get_or (set u 0 t) k 0) i ≡ digit (get_or u k 0) i
    same k i none = elim (cases_eq k 0) [
      | inl e ↦ subst (λ x. digit (get_or (set u 0 t) x 0) i ≡ digit (get_or u x 0) i) (sym e) (ap (λ x. digit x i) first ∙ rest i (none e))
      | inr other ↦ ap (λ x. digit x i) (get_or-set_other u 0 k t 0 other)
    ]

    code : (k : ℕ) → code_on g (set u 0 t) k ≡ code_on g u k
    code k = same (word_of g k) (place_of g k) (λ _ e. not_flags g k (sym e))

-- what is no unit is none
pub none_where : (o : Option Man) → ((u : Man) → o ≡ Some u → ⊥) → o ≡ None
none_where None not_one = refl
none_where (Some u) not_one = absurd (not_one u refl)

-- a square with no unit, on which nothing is put
pub IsFilled-none : (g : Game) (f : ℕ) (units : List (Option Man)) (words : List ℕ) (n : ℕ) → get_or units n None ≡ None → IsFilled g f units words n → IsFilled g f units words (n + 1)
IsFilled-none g f units words n none h = record {
  flags = h.flags;
  done = λ k less. elim (cases_eq k n) [
    | inl e ↦ subst (λ x. man_of (code_on g words x) ≡ get_or units x None) (sym e) (ap man_of zero_there ∙ sym none)
    | inr other ↦ h.done k (omega (arith, less, other))
  ];
  small = λ k less. elim (cases_eq k n) [
    | inl e ↦ subst (λ x. code_on g words x < 13) (sym e) (subst (λ x. x < 13) (sym zero_there) (omega arith))
    | inr other ↦ h.small k (omega (arith, less, other))
  ];
  free = λ k i apart flag. h.free k i (λ m less. apart m (omega (arith, less))) flag;
}
  where
    zero_there : code_on g words n ≡ 0
    zero_there = h.free (word_of g n) (place_of g n) (λ m less. other_place g m n (λ same. omega (arith, same, less))) (λ _ e. not_flags g n (sym e))

off_unit : (b : PlainBoard) (o : Option Man) (k : ℕ) → IfSome o (MayStandOn b.game k) → squares_of b.game ≤ k → o ≡ None
off_unit b None k _ h = refl
off_unit b (Some u) k m h = absurd (omega (arith, m.on_board, h))

off_board : (b : PlainBoard) → IsPosition b → (k : ℕ) → squares_of b.game ≤ k → get_or b.units k None ≡ None
off_board b is k h = off_unit b (unit_on b k) k (is.squares k) h

module _ (b : PlainBoard) (is : IsPosition b) (f : ℕ) (words : List ℕ) (flags : IsFlags f) (game : game_of_flags f ≡ b.game) (mover : mover_of_flags f ≡ b.mover) (h : IsFilled b.game f b.units words (squares_of b.game)) where
  game_is : game_of words ≡ b.game
  game_is = ap game_of_flags h.flags ∙ game

  unused_0 : (k i : ℕ) → IsUnused b.game k i → digit (get_or words k 0) i ≡ 0
  unused_0 k i free = h.free k i free.no_square free.no_flags

  unit_is : (k : ℕ) → k < 36 → get_or b.units k None ≡ man_of (code_on b.game words k)
  unit_is k _ = elim (cases_lt k (squares_of b.game)) [
    | inl less ↦ sym (h.done k less)
    | inr more ↦ off_board b is k more ∙ sym (ap man_of (unused_0 (word_of b.game k) (place_of b.game k) (record {
      no_square = λ n low e d. other_place b.game n k (λ same. omega (arith, same, low, more)) e d;
      no_flags = λ _ e. not_flags b.game k (sym e);
    })))
  ]

  pub unpacked_of : unpacked words ≡ b
  unpacked_of =
      let units : units_in (game_of words) words ≡ b.units = ap (λ x. units_in x words) game_is ∙ sym (fill_by_all (λ n. man_of (code_on b.game words n)) b.units 36 None is.places unit_is) in
      λ i. record { game = game_is i; mover = (ap mover_of_flags h.flags ∙ mover) i; units = units i }

  pub IsPacked-of : IsPacked words
  IsPacked-of = record {
    position = subst IsPosition (sym unpacked_of) is;
    codes = λ n less. subst (λ x. code_on x words n < 13) (sym game_is) (h.small n (subst (λ x. n < squares_of x) game_is less));
    flags = subst (λ x. x < 8) (sym h.flags) flags.eight;
    colour = subst (λ x. x % 4 < 2) (sym h.flags) flags.colour;
    unused = λ k i free. unused_0 k i (subst (λ x. IsUnused x k i) game_is free);
  }

-- ---- the words after a move

module _ (b : PlainBoard) (m : Ply) (u : Man) (is : IsPosition b) (p : IsPseudoLegal b m u) (w v x : List ℕ) (t code : ℕ) (packed : IsPacked w) (view : unpacked w ≡ b) (first : IsPut b.game w v (square_number b.game m.from) 0)
    (second : IsPut b.game v x (square_number b.game m.to) code) (stands : man_of code ≡ Some (placed u m)) (low : code < 13) (long : length x ≡ 3) (flip : digit t 12 ≡ bit_xor (digit (get_or x 0 0) 12) 1)
    (rest : (i : ℕ) → i ≢ 12 → digit t i ≡ digit (get_or x 0 0) i) where
  turned : IsTurned (flags_of w) (bit_xor (flags_of w) 1)
  turned = turned_flags (flags_of w) (record { eight = packed.flags; colour = packed.colour })

  filled : IsFilled b.game (bit_xor (flags_of w) 1) (after b m u).units (set x 0 t) (squares_of b.game)
  filled =
      let from = number_within b.game m.from p.on_board in
      let to = number_within b.game m.to (to_on_board b m u p) in
      let lifted = set b.units (square_number b.game m.from) None in
      let start = subst (λ (q : PlainBoard). IsFilled q.game (flags_of w) q.units w (squares_of q.game)) view (IsFilled-packed w packed) in
      let one = IsFilled-put b.game (flags_of w) b.units lifted w v (square_number b.game m.from) 0 (squares_of b.game) (squares_of b.game) first
      (sym (get_or-set_same b.units (square_number b.game m.from) None None (omega (arith, is.places, within_36 b.game (square_number b.game m.from) from))))
      (omega arith) from (omega arith) (λ k less other. (less, get_or-set_other b.units (square_number b.game m.from) k None None other)) start in
      IsFilled-turned b.game (flags_of w) (after b m u).units x t (squares_of b.game) (omega (arith, long)) flip rest
      (IsFilled-put b.game (flags_of w) lifted (after b m u).units v x (square_number b.game m.to) code (squares_of b.game) (squares_of b.game) second
      (stands ∙ sym (get_or-set_same lifted (square_number b.game m.to) (Some (placed u m)) None (omega (arith, is.places, length-set b.units (square_number b.game m.from) None, within_36 b.game (square_number b.game m.to) to))))
      low to (omega arith) (λ k less other. (less, get_or-set_other lifted (square_number b.game m.to) k (Some (placed u m)) None other)) one)

  pub unpacked_after : unpacked (set x 0 t) ≡ after b m u
  unpacked_after = unpacked_of (after b m u) (IsPosition-after b m u is p) (bit_xor (flags_of w) 1) (set x 0 t) turned.flags (turned.game ∙ ap (λ (q : PlainBoard). q.game) view) (turned.mover ∙ ap (λ (q : PlainBoard). other_side q.mover) view) filled

  pub IsPacked-after : IsPacked (set x 0 t)
  IsPacked-after = IsPacked-of (after b m u) (IsPosition-after b m u is p) (bit_xor (flags_of w) 1) (set x 0 t) turned.flags (turned.game ∙ ap (λ (q : PlainBoard). q.game) view) (turned.mover ∙ ap (λ (q : PlainBoard). other_side q.mover) view) filled

-- ---- the units of words, read square by square

-- a position's units are those of its squares and none on the other places
pub one_spelled : (b q : PlainBoard) (words : List ℕ) → IsPosition b → IsPosition q → Spells b words → Spells q words → b.game ≡ q.game → b.mover ≡ q.mover → b ≡ q
one_spelled b q words p r s t game mover =
    let units : b.units ≡ q.units = fill_by_all (unit_on q) b.units 36 None p.places same ∙ sym (fill_by_all (unit_on q) q.units 36 None r.places (λ k h. refl)) in
    λ i. record { game = game i; mover = mover i; units = units i }
  where
    same : (k : ℕ) → k < 36 → get_or b.units k None ≡ unit_on q k
    same k h = elim (cases_lt k (squares_of b.game)) [
      | inl less ↦ s k less ∙ ap (λ g. man_of (code_on g words k)) game ∙ sym (t k (subst (λ g. k < squares_of g) game less))
      | inr more ↦ off_board b p k more ∙ sym (off_board q r k (subst (λ g. squares_of g ≤ k) game more))
    ]

-- the places below n hold what the words say, and the others nothing
pub record IsRead (g : Game) (words : List ℕ) (units : List (Option Man)) (n : ℕ) : Type 0 where
  pub long : length units ≡ 36
  pub below : (k : ℕ) → k < n → get_or units k None ≡ man_of (code_on g words k)
  pub above : (k : ℕ) → n ≤ k → get_or units k None ≡ None

abbrev nothing : Option Man
nothing = None

pub replicate_none : (n k : ℕ) → get_or (replicate n nothing) k nothing ≡ nothing
replicate_none zero k = refl
replicate_none (suc n) zero = refl
replicate_none (suc n) (suc k) = replicate_none n k

pub IsRead-start : (g : Game) (words : List ℕ) → IsRead g words (replicate 36 nothing) 0
IsRead-start g words = record { long = refl; below = λ k h. absurd (omega (arith, h)); above = λ k h. replicate_none 36 k }

pub IsRead-more : (g : Game) (words : List ℕ) (units : List (Option Man)) (n : ℕ) (place : Option Man) → n < 36 → place ≡ man_of (code_on g words n) → IsRead g words units n → IsRead g words (set units n place) (n + 1)
IsRead-more g words units n place h e c = record {
  long = length-set units n place ∙ c.long;
  below = λ k less. elim (cases_eq k n) [
    | inl same ↦ subst (λ x. get_or (set units n place) x None ≡ man_of (code_on g words x)) (sym same) (get_or-set_same units n place None (omega (arith, c.long)) ∙ e)
    | inr other ↦ get_or-set_other units n k place None other ∙ c.below k (omega (arith, less, other))
  ];
  above = λ k more. let other : k ≢ n = omega (arith, more) in get_or-set_other units n k place None other ∙ c.above k (omega (arith, more));
}

-- what is read of a position's words is the position
pub IsRead-whole : (b : PlainBoard) (words : List ℕ) (units : List (Option Man)) → IsPosition b → Spells b words → IsRead b.game words units (squares_of b.game) → units ≡ b.units
IsRead-whole b words units is s c = fill_by_all (unit_on b) units 36 None c.long same ∙ sym (fill_by_all (unit_on b) b.units 36 None is.places (λ k h. refl))
  where
    same : (k : ℕ) → k < 36 → get_or units k None ≡ unit_on b k
    same k h = elim (cases_lt k (squares_of b.game)) [
      | inl less ↦ c.below k less ∙ sym (s k less)
      | inr more ↦ c.above k more ∙ sym (off_board b is k more)
    ]
