-- Each board has one turned board.
use Rattle.std.proofs.Common.{◌≡◌, ℕ, ◌/◌, ◌%◌, ◌<◌, ◌≤◌, ◌⊎◌, inl, inr, zero, suc, refl, sym, ap, subst, ◌∙◌, arith, false, cond, List, [], ◌∷◌, length, get_or, Option, None}
use Rattle.laws.proofs.Common.{ltb, lt-ltb, nat_tests, Game, LosAlamos, Gardner, Man, width_of, squares_of, PlainBoard, board_of, unit_on, Place, IsOnBoard, square_number, unit_at, same_number, number_within, Turning, turned_place, turned_side, turned_units, IsTurned}
use Rattle.std.proofs.lemmas.List.{same_lists, get_or_default, get_or_past}
use Rattle.laws.proofs.Squares.{back_of, turned_on_board, turned_back, turned_there}
use Rattle.laws.proofs.Turned.{within_36}

-- ---- the square of a number

abbrev pub place_at : Game → ℕ → Place
place_at g n = record { file = n % width_of g; rank = n / width_of g }

pub place_at-on_board : (g : Game) (n : ℕ) → n < squares_of g → IsOnBoard g (place_at g n)
place_at-on_board LosAlamos n h = record { file = omega arith; rank = omega arith }
place_at-on_board Gardner n h = record { file = omega arith; rank = omega arith }

pub number-place_at : (g : Game) (n : ℕ) → square_number g (place_at g n) ≡ n
number-place_at LosAlamos n = omega arith
number-place_at Gardner n = omega arith

place_at-number : (g : Game) (s : Place) → IsOnBoard g s → place_at g (square_number g s) ≡ s
place_at-number g s on = same_number g _ s (place_at-on_board g _ (number_within g s on)) on (number-place_at g (square_number g s))

below : (j k : ℕ) → (j < k) ⊎ (k ≤ j)
below j k = grind arith

pub on_or_past : (g : Game) (n : ℕ) → (n < squares_of g) ⊎ (squares_of g ≤ n)
on_or_past g n = below n (squares_of g)

-- ---- one turned board

same_option : (xs : List (Option Man)) (k : ℕ) (d : Option Man) → k < length xs → get_or xs k d ≡ get_or xs k None
same_option xs k d h = get_or_default xs k d None h

module _ (t : Turning) (b c d : PlainBoard) (x : IsTurned t b c) (y : IsTurned t b d) where
  same_square : (s : Place) → IsOnBoard b.game s → unit_at c s ≡ unit_at d s
  same_square s on =
      let from = turned_place b.game (back_of t) s in
      let on_from = turned_on_board b.game (back_of t) s on in
      subst (λ p. unit_at c p ≡ unit_at d p) (turned_there b.game t s on) (x.units from on_from ∙ sym (y.units from on_from))

  same_unit : (n : ℕ) → unit_on c n ≡ unit_on d n
  same_unit n = elim (on_or_past b.game n) [
    | inl on ↦
        let number : square_number c.game (place_at b.game n) ≡ n = ap (λ g. square_number g (place_at b.game n)) x.game ∙ number-place_at b.game n in
        let other : square_number d.game (place_at b.game n) ≡ n = ap (λ g. square_number g (place_at b.game n)) y.game ∙ number-place_at b.game n in
        sym (ap (unit_on c) number) ∙ same_square (place_at b.game n) (place_at-on_board b.game n on) ∙ ap (unit_on d) other
    | inr past ↦ x.past n past ∙ sym (y.past n past)
  ]

  same_units : c.units ≡ d.units
  same_units = same_lists c.units d.units (x.turned_places ∙ sym y.turned_places) (λ k o h.
      let also : k < length d.units = omega (arith, h, x.turned_places, y.turned_places) in
      same_option c.units k o h ∙ same_unit k ∙ sym (same_option d.units k o also))

  pub one_turned : c ≡ d
  one_turned =
      let game = x.game ∙ sym y.game in
      let mover = x.mover ∙ sym y.mover in
      λ i. record { game = game i; mover = mover i; units = same_units i }

-- ---- a turned board

from_function : (ℕ → Option Man) → ℕ → List (Option Man)
from_function f zero = []
from_function f (suc k) = f zero ∷ from_function (λ i. f (suc i)) k

length-from_function : (f : ℕ → Option Man) (k : ℕ) → length (from_function f k) ≡ k
unfolding from_function
length-from_function f zero = refl
length-from_function f (suc k) = let shorter = length-from_function (λ i. f (suc i)) k in omega arith

get_or-from_function : (f : ℕ → Option Man) (k n : ℕ) → n < k → get_or (from_function f k) n None ≡ f n
unfolding from_function
get_or-from_function f zero n h = absurd (omega arith)
get_or-from_function f (suc k) zero h = refl
get_or-from_function f (suc k) (suc n) h = get_or-from_function (λ i. f (suc i)) k n (omega arith)

module _ (t : Turning) (b : PlainBoard) (places : length b.units ≡ 36) where
  -- what stands on the square of this number, or past the squares
  new_unit : ℕ → Option Man
  new_unit n = turned_units t (cond (ltb n (squares_of b.game)) (unit_at b (turned_place b.game (back_of t) (place_at b.game n))) (unit_on b n))

  new_on : (n : ℕ) → n < squares_of b.game → new_unit n ≡ turned_units t (unit_at b (turned_place b.game (back_of t) (place_at b.game n)))
  unfolding new_unit
  new_on n h = rw (lt-ltb n (squares_of b.game) h) refl

  new_past : (n : ℕ) → squares_of b.game ≤ n → new_unit n ≡ turned_units t (unit_on b n)
  unfolding new_unit
  new_past n h = let test : ltb n (squares_of b.game) ≡ false = grind (arith, nat_tests) in rw test refl

  abbrev new_board : PlainBoard
  new_board = board_of b.game (turned_side t b.mover) (from_function new_unit 36)

  stands_new : (n : ℕ) → n < 36 → unit_on new_board n ≡ new_unit n
  stands_new n h = get_or-from_function new_unit 36 n h

  stands_far : (n : ℕ) → 36 ≤ n → unit_on new_board n ≡ turned_units t (unit_on b n)
  stands_far n h =
      let none : unit_on new_board n ≡ None = get_or_past new_board.units n None (omega (arith, h, length-from_function new_unit 36)) in
      let none_before : unit_on b n ≡ None = get_or_past b.units n None (omega (arith, h, places)) in
      none ∙ ap (turned_units t) (sym none_before)

  stands_past_new : (n : ℕ) → squares_of b.game ≤ n → unit_on new_board n ≡ turned_units t (unit_on b n)
  stands_past_new n past = elim (below n 36) [
    | inl h ↦ stands_new n h ∙ new_past n past
    | inr far ↦ stands_far n far
  ]

  stands_on_new : (p : Place) → IsOnBoard b.game p → unit_at new_board p ≡ turned_units t (unit_at b (turned_place b.game (back_of t) p))
  stands_on_new p on =
      let h = number_within b.game p on in
      stands_new (square_number b.game p) (within_36 b.game _ h) ∙ new_on (square_number b.game p) h
      ∙ ap (λ s. turned_units t (unit_at b (turned_place b.game (back_of t) s))) (place_at-number b.game p on)

  some_turned : IsTurned t b new_board
  some_turned = record {
    game = refl;
    mover = refl;
    places = places;
    turned_places = length-from_function new_unit 36;
    units = λ s on. stands_on_new (turned_place b.game t s) (turned_on_board b.game t s on)
        ∙ ap (λ p. turned_units t (unit_at b p)) (turned_back b.game t s on);
    past = stands_past_new;
  }

  pub has_turned : (c : PlainBoard) × IsTurned t b c
  has_turned = (new_board, some_turned)
