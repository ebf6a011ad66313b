-- A move on a board: what stands on each square after it.
use Rattle.moves.proofs.Common.{◌≡◌, ◌<◌, ◌∙◌, arith, length, set, Some, None, get_or-set_same, get_or-set_other, length-set, Man, PlainBoard, Place, IsOnBoard, square_number, unit_at, IsPosition, Ply, IsPseudoLegal, placed, after, to_on_board, other_square, same_number, number_within, squares_36}

module _ (b : PlainBoard) (m : Ply) (u : Man) (is : IsPosition b) (p : IsPseudoLegal b m u) where
  from : square_number b.game m.from < length b.units
  from = omega (arith, is.places, number_within b.game m.from p.on_board, squares_36 b.game)

  to : square_number b.game m.to < length (set b.units (square_number b.game m.from) None)
  to = omega (arith, length-set b.units (square_number b.game m.from) None, is.places, number_within b.game m.to (to_on_board b m u p), squares_36 b.game)

  pub unit_at-to : unit_at (after b m u) m.to ≡ Some (placed u m)
  unit_at-to = get_or-set_same (set b.units (square_number b.game m.from) None) (square_number b.game m.to) (Some (placed u m)) None to

  pub unit_at-from : unit_at (after b m u) m.from ≡ None
  unit_at-from =
      get_or-set_other (set b.units (square_number b.game m.from) None) (square_number b.game m.to) (square_number b.game m.from) (Some (placed u m)) None (other_square b m u p)
      ∙ get_or-set_same b.units (square_number b.game m.from) None None from

  pub unit_at-other : (s : Place) → IsOnBoard b.game s → (s ≡ m.from → ⊥) → (s ≡ m.to → ⊥) → unit_at (after b m u) s ≡ unit_at b s
  unit_at-other s on a c =
      get_or-set_other (set b.units (square_number b.game m.from) None) (square_number b.game m.to) (square_number b.game s) (Some (placed u m)) None (λ e. c (same_number b.game s m.to on (to_on_board b m u p) e))
      ∙ get_or-set_other b.units (square_number b.game m.from) (square_number b.game s) None None (λ e. a (same_number b.game s m.from on p.on_board e))
