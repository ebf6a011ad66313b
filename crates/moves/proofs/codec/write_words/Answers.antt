use Rattle.moves.proofs.Common.{sym, ◌∙◌, subst, IsPosition, board_of}
use Rattle.moves.proofs.codec.write_words.Goals as goal

pub write_units-requires : goal.write_units-requires
write_units-requires c = subst IsPosition (λ i. board_of (sym c.game.ensures.value i) (sym c.mover.ensures i) (sym c.units.ensures i)) c.game.ensures.position

pub returns-clause-value : goal.returns-clause-value
returns-clause-value c = c.write_units.ensures.value ∙ λ i. board_of (c.game.ensures.value i) (c.mover.ensures i) (c.units.ensures i)
