-- Two turnings, one after the other, are one turning.
use Rattle.std.proofs.Common.{◌≡◌, ℕ, ◌<◌, ◌≤◌, refl, sym, ap, ap₂, subst, ◌∙◌, arith, Bool, true, false, not, Option, Some, None}
use Rattle.board.specs.declared.game.Game.{Game}
use Rattle.board.specs.declared.game.Side.{Side}
use Rattle.board.specs.declared.game.Side.TheVariants.{White, Black}
use Rattle.board.specs.declared.game.Unit.{Unit as Man}
use Rattle.board.specs.Games.{width_of, squares_of}
use Rattle.board.specs.Board.{PlainBoard, unit_on}
use Rattle.rules.specs.Squares.{Place, IsOnBoard, unit_at}
use Rattle.laws.specs.Turnings.{Turning, mirrored, place_over, turned_place, exchanged, turned_side, turned_units, IsTurned}
use Rattle.laws.proofs.Turned.{image_on_board}

-- one of the two, and not both
abbrev differ : Bool → Bool → Bool
differ false y = y
differ true y = not y

-- the first, or over the diagonal the second
abbrev first_over : Bool → Bool → Bool → Bool
first_over false x y = x
first_over true x y = y

-- the one turning; behind a diagonal, left and right are what top and bottom were
abbrev pub both_of : Turning → Turning → Turning
both_of t u = record {
  left_right = differ t.left_right (first_over t.diagonal u.left_right u.top_bottom);
  top_bottom = differ t.top_bottom (first_over t.diagonal u.top_bottom u.left_right);
  diagonal = differ t.diagonal u.diagonal;
  sides = differ t.sides u.sides;
}

mirrored-both : (x y : Bool) (w n : ℕ) → n < w → mirrored y w (mirrored x w n) ≡ mirrored (differ x y) w n
mirrored-both false y w n h = refl
mirrored-both true false w n h = refl
mirrored-both true true w n h = omega arith

place_over-not : (d : Bool) (file rank : ℕ) → place_over (not d) file rank ≡ place_over d rank file
place_over-not false file rank = refl
place_over-not true file rank = refl

places_both : (d e l r l' r' : Bool) (w file rank : ℕ) → file < w → rank < w
    → place_over e (mirrored l' w (place_over d (mirrored l w file) (mirrored r w rank)).file) (mirrored r' w (place_over d (mirrored l w file) (mirrored r w rank)).rank)
    ≡ place_over (differ d e) (mirrored (differ l (first_over d l' r')) w file) (mirrored (differ r (first_over d r' l')) w rank)
places_both false e l r l' r' w file rank f h = ap₂ (place_over e) (mirrored-both l l' w file f) (mirrored-both r r' w rank h)
places_both true e l r l' r' w file rank f h =
    ap₂ (place_over e) (mirrored-both r l' w rank h) (mirrored-both l r' w file f) ∙ sym (place_over-not e _ _)

place_both : (g : Game) (t u : Turning) (s : Place) → IsOnBoard g s → turned_place g u (turned_place g t s) ≡ turned_place g (both_of t u) s
place_both g t u s on = places_both t.diagonal u.diagonal t.left_right t.top_bottom u.left_right u.top_bottom (width_of g) s.file s.rank on.file on.rank

exchanged-both : (x y : Bool) (side : Side) → exchanged y (exchanged x side) ≡ exchanged (differ x y) side
exchanged-both false y side = refl
exchanged-both true false side = refl
exchanged-both true true White = refl
exchanged-both true true Black = refl

units_both : (t u : Turning) (o : Option Man) → turned_units u (turned_units t o) ≡ turned_units (both_of t u) o
units_both t u None = refl
units_both t u (Some man) = ap (λ side. Some (record { side = side; kind = man.kind })) (exchanged-both t.sides u.sides man.side)

module _ (t u : Turning) (b c d : PlainBoard) (x : IsTurned t b c) (y : IsTurned u c d) where
  units_twice : (s : Place) → IsOnBoard b.game s → unit_at d (turned_place b.game (both_of t u) s) ≡ turned_units (both_of t u) (unit_at b s)
  units_twice s on =
      let place : turned_place c.game u (turned_place b.game t s) ≡ turned_place b.game (both_of t u) s = ap (λ g. turned_place g u (turned_place b.game t s)) x.game ∙ place_both b.game t u s on in
      sym (ap (unit_at d) place) ∙ y.units (turned_place b.game t s) (image_on_board t b c x s on) ∙ ap (turned_units u) (x.units s on) ∙ units_both t u (unit_at b s)

  pub IsTurned-both : IsTurned (both_of t u) b d
  IsTurned-both = record {
    game = y.game ∙ x.game;
    mover = y.mover ∙ ap (turned_side u) x.mover ∙ exchanged-both t.sides u.sides b.mover;
    places = x.places;
    turned_places = y.turned_places;
    units = units_twice;
    past = λ n far. y.past n (subst (λ g. squares_of g ≤ n) (sym x.game) far) ∙ ap (turned_units u) (x.past n far) ∙ units_both t u (unit_on b n);
  }
