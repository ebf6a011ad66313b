-- A turned position is a position.
use Rattle.std.proofs.Common.{get_or-set_other, ◌≡◌, ℕ, ◌+◌, ◌*◌, ◌<◌, ◌≤◌, inl, inr, suc, refl, sym, ap, subst, ◌∙◌, arith, Bool, true, false, cond, ◌&&◌, List, [], ◌∷◌, length, get_or, Option, Some, None}
use Rattle.laws.proofs.Common.{IfSome, ltb, set, length-set, lt-ltb, nat_tests, Game, LosAlamos, Gardner, Side, Pawn, Man, width_of, squares_of, PlainBoard, unit_on, is_of_side, is_king, is_king_of, IsInnerRank, MayStandOn, IsArmy, IsPosition, Place, IsOnBoard, square_number, unit_at, same_number, number_within, Turning, mirrored, place_over, turned_place, turned_side, turned_units, IsTurned, KeepsAhead, MayTurn}
use Rattle.std.specs.List.{sum_by, count_by}
use Rattle.std.proofs.lemmas.List.Sums.{sum_by-set, sum_by-cons}
use Rattle.laws.proofs.Squares.{mirrored-within, back_of, turned_on_board, turned_back, turned_there, exchanged-twice, back_side, same_turn}
use Rattle.laws.proofs.Turned.{within_36, IsTurned-back, pawn_keeps}
use Rattle.laws.proofs.Boards.{place_at, place_at-on_board, number-place_at, on_or_past}

-- ---- sums over lists of which one has each element of the other

module _ (w v : Option Man → ℕ) (none : v None ≡ 0) where
  sum_by-image : (xs ys : List (Option Man)) (image : ℕ → ℕ)
      → ((i : ℕ) → i < length xs → image i < length ys)
      → ((i j : ℕ) → i < length xs → j < length xs → image i ≡ image j → i ≡ j)
      → ((i : ℕ) → i < length xs → w (get_or xs i None) ≤ v (get_or ys (image i) None))
      → sum_by w xs ≤ sum_by v ys
  sum_by-image [] ys image within apart fits = omega arith
  sum_by-image (x ∷ xs) ys image within apart fits =
      let first : image 0 < length ys = within 0 (omega arith) in
      let taken = sum_by-set v ys (image 0) None None first in
      let other = λ (i : ℕ) (h : i < length xs). let e : image (suc i) ≡ image 0 → ⊥ = λ same. let zero_is = apart (suc i) 0 (omega arith) (omega arith) same in omega arith in e in
      let rest = sum_by-image xs (set ys (image 0) None) (λ i. image (suc i))
      (λ i h. rw (length-set {A = Option Man}) (within (suc i) (omega arith)))
      (λ i j h k same. let next = apart (suc i) (suc j) (omega arith) (omega arith) same in omega arith)
      (λ i h. subst (λ o. w (get_or xs i None) ≤ v o) (sym (get_or-set_other ys (image 0) (image (suc i)) None None (other i h))) (fits (suc i) (omega arith))) in
      let here : w x ≤ v (get_or ys (image 0) None) = fits 0 (omega arith) in
      omega (arith, taken, rest, here, none, sum_by-cons w x xs)

-- ---- the number of a square when it is turned

abbrev image_number : Game → Turning → ℕ → ℕ
image_number g t n = cond (ltb n (squares_of g)) (square_number g (turned_place g t (place_at g n))) n

image_on : (g : Game) (t : Turning) (n : ℕ) → n < squares_of g → image_number g t n ≡ square_number g (turned_place g t (place_at g n))
image_on g t n h = rw (lt-ltb n (squares_of g) h) refl

image_past : (g : Game) (t : Turning) (n : ℕ) → squares_of g ≤ n → image_number g t n ≡ n
image_past g t n h = let test : ltb n (squares_of g) ≡ false = grind (arith, nat_tests) in rw test refl

image_number-within : (g : Game) (t : Turning) (n : ℕ) → n < squares_of g → square_number g (turned_place g t (place_at g n)) < squares_of g
image_number-within g t n h = number_within g _ (turned_on_board g t _ (place_at-on_board g n h))

image_number-once : (g : Game) (t : Turning) (i j : ℕ) → i < squares_of g → j < squares_of g → square_number g (turned_place g t (place_at g i)) ≡ square_number g (turned_place g t (place_at g j)) → i ≡ j
image_number-once g t i j h k e =
    let on_i = place_at-on_board g i h in
    let on_j = place_at-on_board g j k in
    let same = same_number g _ _ (turned_on_board g t _ on_i) (turned_on_board g t _ on_j) e in
    let places = sym (turned_back g t _ on_i) ∙ ap (turned_place g (back_of t)) same ∙ turned_back g t _ on_j in
    sym (number-place_at g i) ∙ ap (square_number g) places ∙ number-place_at g j

-- no two numbers come to one
image_once : (g : Game) (t : Turning) (i j : ℕ) → image_number g t i ≡ image_number g t j → i ≡ j
image_once g t i j e = elim (on_or_past g i) [
  | inl on_i ↦ elim (on_or_past g j) [
    | inl on_j ↦ image_number-once g t i j on_i on_j (sym (image_on g t i on_i) ∙ e ∙ image_on g t j on_j)
    | inr past_j ↦ let lt = image_number-within g t i on_i in absurd (omega (arith, lt, past_j, sym (image_on g t i on_i) ∙ e ∙ image_past g t j past_j))
  ]
  | inr past_i ↦ elim (on_or_past g j) [
    | inl on_j ↦ let lt = image_number-within g t j on_j in absurd (omega (arith, lt, past_i, sym (image_past g t i past_i) ∙ e ∙ image_on g t j on_j))
    | inr past_j ↦ sym (image_past g t i past_i) ∙ e ∙ image_past g t j past_j
  ]
]

image_36 : (g : Game) (t : Turning) (i : ℕ) → i < 36 → image_number g t i < 36
image_36 g t i h = elim (on_or_past g i) [
  | inl on ↦ subst (λ n. n < 36) (sym (image_on g t i on)) (within_36 g _ (image_number-within g t i on))
  | inr past ↦ subst (λ n. n < 36) (sym (image_past g t i past)) h
]

-- ---- counts of units

-- a test of places that knows sides only by whether they are one
pub record IsOfSides (test : Side → Option Man → Bool) : Type 0 where
  pub empty : (a : Side) → test a None ≡ false
  pub turns : (t : Turning) (a : Side) (o : Option Man) → test (turned_side t a) (turned_units t o) ≡ test a o

module _ (t : Turning) (b c : PlainBoard) (turned : IsTurned t b c) where
  stands_image : (n : ℕ) → unit_on c (image_number b.game t n) ≡ turned_units t (unit_on b n)
  stands_image n = elim (on_or_past b.game n) [
    | inl on ↦
        let place = place_at b.game n in
        ap (unit_on c) (image_on b.game t n on ∙ ap (λ g. square_number g (turned_place b.game t place)) (sym turned.game))
        ∙ turned.units place (place_at-on_board b.game n on) ∙ ap (λ k. turned_units t (unit_on b k)) (number-place_at b.game n)
    | inr past ↦ ap (unit_on c) (image_past b.game t n past) ∙ turned.past n past
  ]

  count_most : (test : Side → Option Man → Bool) (a : Side) → IsOfSides test → count_by (test a) b.units ≤ count_by (test (turned_side t a)) c.units
  count_most test a sides = sum_by-image (λ o. cond (test a o) 1 0) (λ o. cond (test (turned_side t a) o) 1 0) (ap (λ x. cond x 1 0) (sides.empty (turned_side t a))) b.units c.units (image_number b.game t)
      (λ i h. rw turned.turned_places (image_36 b.game t i (rw turned.places at h)))
      (λ i j h k e. image_once b.game t i j e)
      (λ i h. le_same _ _ (ap (λ x. cond x 1 0) (sym (sides.turns t a (unit_on b i)) ∙ ap (test (turned_side t a)) (sym (stands_image i)))))
    where
      le_same : (j k : ℕ) → j ≡ k → j ≤ k
      le_same j k e = omega arith

count_same : (t : Turning) (b c : PlainBoard) → IsTurned t b c → (test : Side → Option Man → Bool) (a : Side) → IsOfSides test → count_by (test (turned_side t a)) c.units ≡ count_by (test a) b.units
count_same t b c turned test a sides =
    let most = count_most t b c turned test a sides in
    let least = subst (λ x. count_by (test (turned_side t a)) c.units ≤ count_by (test x) b.units) (back_side t a) (count_most (back_of t) c b (IsTurned-back t b c turned) test (turned_side t a) sides) in
    omega (arith, most, least)

units_of_sides : IsOfSides is_of_side
units_of_sides = record { empty = λ a. refl; turns = λ t a o. of_side t a o }
  where
    of_side : (t : Turning) (a : Side) (o : Option Man) → is_of_side (turned_side t a) (turned_units t o) ≡ is_of_side a o
    of_side t a None = refl
    of_side t a (Some u) = same_turn t.sides a u.side

kings_of_sides : IsOfSides is_king_of
kings_of_sides = record { empty = λ a. refl; turns = λ t a o. king_of t a o }
  where
    king_of : (t : Turning) (a : Side) (o : Option Man) → is_king_of (turned_side t a) (turned_units t o) ≡ is_king_of a o
    king_of t a None = refl
    king_of t a (Some u) = ap (λ x. is_king u.kind && x) (same_turn t.sides a u.side)

-- ---- what may stand on a square

inner_kept : (g : Game) (x : Bool) (file file' rank : ℕ) → file < width_of g → file' < width_of g → rank < width_of g → IsInnerRank g (file + width_of g * rank) → IsInnerRank g (file' + width_of g * mirrored x (width_of g) rank)
inner_kept LosAlamos false f f' r a b c i = (omega arith, omega arith)
inner_kept LosAlamos true f f' r a b c i = (omega arith, omega arith)
inner_kept Gardner false f f' r a b c i = (omega arith, omega arith)
inner_kept Gardner true f f' r a b c i = (omega arith, omega arith)

inner_over : (g : Game) (l r d x : Bool) (file rank : ℕ) → d ≡ false → file < width_of g → rank < width_of g → IsInnerRank g (file + width_of g * rank) → IsInnerRank g (square_number g (place_over d (mirrored l (width_of g) file) (mirrored r (width_of g) rank)))
inner_over g l r false x file rank e f h i = inner_kept g r file (mirrored l (width_of g) file) rank f (mirrored-within l (width_of g) file f) h i
inner_over g l r true x file rank e f h i = cc

stands_kept : (t : Turning) (g : Game) (s : Place) (o : Option Man) → IsOnBoard g s → ((u : Man) → o ≡ Some u → u.kind ≡ Pawn → KeepsAhead t) → IfSome o (MayStandOn g (square_number g s)) → IfSome (turned_units t o) (MayStandOn g (square_number g (turned_place g t s)))
stands_kept t g s None on keeps h = tt
stands_kept t g s (Some u) on keeps h = record {
  on_board = number_within g _ (turned_on_board g t s on);
  played = h.played;
  inner = λ pawn. inner_over g t.left_right t.top_bottom t.diagonal t.sides s.file s.rank (keeps u refl pawn).straight on.file on.rank (h.inner pawn);
}

none_past : (g : Game) (n : ℕ) (t : Turning) (o : Option Man) → squares_of g ≤ n → IfSome o (MayStandOn g n) → IfSome (turned_units t o) (MayStandOn g n)
none_past g n t None past h = tt
none_past g n t (Some u) past h = absurd (omega (arith, past, h.on_board))

-- ---- positions

module _ (t : Turning) (b c : PlainBoard) (turned : IsTurned t b c) (may : MayTurn t b) (position : IsPosition b) where
  stands_at : (s : Place) → IsOnBoard b.game s → IfSome (unit_at c (turned_place b.game t s)) (MayStandOn b.game (square_number b.game (turned_place b.game t s)))
  stands_at s on = subst (λ o. IfSome o (MayStandOn b.game (square_number b.game (turned_place b.game t s)))) (sym (turned.units s on))
      (stands_kept t b.game s (unit_at b s) on (λ u stands. pawn_keeps t b may s u on stands) (position.squares (square_number b.game s)))

  stands_on : (n : ℕ) → n < squares_of b.game → IfSome (unit_on c n) (MayStandOn b.game n)
  stands_on n h =
      let s = place_at b.game n in
      let on = place_at-on_board b.game n h in
      let there = subst (λ p. IfSome (unit_at c p) (MayStandOn b.game (square_number b.game p))) (turned_there b.game t s on) (stands_at (turned_place b.game (back_of t) s) (turned_on_board b.game (back_of t) s on)) in
      let number : square_number c.game s ≡ n = ap (λ g. square_number g s) turned.game ∙ number-place_at b.game n in
      subst (λ k. IfSome (unit_on c n) (MayStandOn b.game k)) (number-place_at b.game n)
      (subst (λ k. IfSome (unit_on c k) (MayStandOn b.game (square_number b.game s))) number there)

  stands_well : (n : ℕ) → IfSome (unit_on c n) (MayStandOn b.game n)
  stands_well n = elim (on_or_past b.game n) [
    | inl on ↦ stands_on n on
    | inr past ↦ subst (λ o. IfSome o (MayStandOn b.game n)) (sym (turned.past n past)) (none_past b.game n t (unit_on b n) past (position.squares n))
  ]

  army_kept : (a : Side) → IsArmy b.game c.units (turned_side t a)
  army_kept a = record {
    king = count_same t b c turned is_king_of a kings_of_sides ∙ (position.armies a).king;
    room = omega (arith, count_same t b c turned is_of_side a units_of_sides, (position.armies a).room);
  }

  pub IsPosition-turned : IsPosition c
  IsPosition-turned = record {
    places = turned.turned_places;
    squares = subst (λ g. (n : ℕ) → IfSome (unit_on c n) (MayStandOn g n)) (sym turned.game) stands_well;
    armies = subst (λ g. (a : Side) → IsArmy g c.units a) (sym turned.game)
        (λ a. subst (IsArmy b.game c.units) (exchanged-twice t.sides a) (army_kept (turned_side t a)));
  }
