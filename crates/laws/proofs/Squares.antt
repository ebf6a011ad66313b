-- Where squares come when a board is turned about, and how they come back.
use Rattle.std.proofs.Common.{◌≡◌, ℕ, ◌<◌, Bool, true, false, refl, ap, subst, ◌∙◌, arith}
use Rattle.laws.proofs.Common.{Game, Side, White, Black, width_of, other_side, is_same_side, Place, IsOnBoard, same_place, Turning, mirrored, place_over, turned_place, exchanged, turned_side}

-- ---- squares

pub mirrored-within : (x : Bool) (w n : ℕ) → n < w → mirrored x w n < w
mirrored-within false w n h = h
mirrored-within true w n h = omega arith

mirrored-twice : (x : Bool) (w n : ℕ) → n < w → mirrored x w (mirrored x w n) ≡ n
mirrored-twice false w n h = refl
mirrored-twice true w n h = omega arith

place_over-on_board : (d : Bool) (g : Game) (file rank : ℕ) → file < width_of g → rank < width_of g → IsOnBoard g (place_over d file rank)
place_over-on_board false g file rank f r = record { file = f; rank = r }
place_over-on_board true g file rank f r = record { file = r; rank = f }

pub turned_on_board : (g : Game) (t : Turning) (s : Place) → IsOnBoard g s → IsOnBoard g (turned_place g t s)
turned_on_board g t s on = place_over-on_board t.diagonal g _ _ (mirrored-within t.left_right (width_of g) s.file on.file) (mirrored-within t.top_bottom (width_of g) s.rank on.rank)

-- ---- and back

-- the turning that undoes mirrorings and then the diagonal
abbrev pub back_over : Bool → Bool → Bool → Bool → Turning
back_over l r false x = record { left_right = l; top_bottom = r; diagonal = false; sides = x }
back_over l r true x = record { left_right = r; top_bottom = l; diagonal = true; sides = x }

-- the turning that undoes this one
abbrev pub back_of : Turning → Turning
back_of t = back_over t.left_right t.top_bottom t.diagonal t.sides

back_twice : (l r d x : Bool) → back_of (back_over l r d x) ≡ record { left_right = l; top_bottom = r; diagonal = d; sides = x }
back_twice l r false x = refl
back_twice l r true x = refl

pub back_of-twice : (t : Turning) → back_of (back_of t) ≡ t
back_of-twice t = back_twice t.left_right t.top_bottom t.diagonal t.sides

back_there : (g : Game) (l r d x : Bool) (s : Place) → IsOnBoard g s → turned_place g (back_over l r d x) (turned_place g (record { left_right = l; top_bottom = r; diagonal = d; sides = x }) s) ≡ s
back_there g l r false x s on = same_place _ s (mirrored-twice l (width_of g) s.file on.file) (mirrored-twice r (width_of g) s.rank on.rank)
back_there g l r true x s on = same_place _ s (mirrored-twice l (width_of g) s.file on.file) (mirrored-twice r (width_of g) s.rank on.rank)

pub turned_back : (g : Game) (t : Turning) (s : Place) → IsOnBoard g s → turned_place g (back_of t) (turned_place g t s) ≡ s
turned_back g t s on = back_there g t.left_right t.top_bottom t.diagonal t.sides s on

pub turned_there : (g : Game) (t : Turning) (s : Place) → IsOnBoard g s → turned_place g t (turned_place g (back_of t) s) ≡ s
turned_there g t s on = subst (λ u. turned_place g u (turned_place g (back_of t) s) ≡ s) (back_of-twice t) (turned_back g (back_of t) s on)

-- ---- sides

pub exchanged-twice : (x : Bool) (side : Side) → exchanged x (exchanged x side) ≡ side
exchanged-twice false side = refl
exchanged-twice true White = refl
exchanged-twice true Black = refl

pub exchanged-other : (x : Bool) (side : Side) → other_side (exchanged x side) ≡ exchanged x (other_side side)
exchanged-other false side = refl
exchanged-other true side = refl

back_sides : (l r d x : Bool) → (back_over l r d x).sides ≡ x
back_sides l r false x = refl
back_sides l r true x = refl

pub back_side : (t : Turning) (side : Side) → turned_side (back_of t) (turned_side t side) ≡ side
back_side t side = ap (λ x. exchanged x (turned_side t side)) (back_sides t.left_right t.top_bottom t.diagonal t.sides) ∙ exchanged-twice t.sides side

pub same_turn : (x : Bool) (a s : Side) → is_same_side (exchanged x a) (exchanged x s) ≡ is_same_side a s
same_turn false a s = refl
same_turn true White White = refl
same_turn true White Black = refl
same_turn true Black White = refl
same_turn true Black Black = refl
