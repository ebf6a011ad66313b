use Rattle.moves.proofs.Common.{sym, ◌∙◌, subst, IsPosition, board_of}
use Rattle.moves.proofs.packed.Board.of.Goals as goal

pub of_units-requires : goal.of_units-requires
of_units-requires c = subst IsPosition (λ i. board_of (sym c.game.ensures.value i) (sym c.mover.ensures i) (sym c.units.ensures i)) c.game.ensures.position

pub returns : goal.returns
returns c = c.of_units.ensures ∙ λ i. board_of (c.game.ensures.value i) (c.mover.ensures i) (c.units.ensures i)
