use Rattle.laws.proofs.Positions.{IsPosition-turned}
use Rattle.decision.specs.Turned.{turn_of}
use Rattle.decision.proofs.turning.turned.Goals as goal

pub of_units-requires : goal.of_units-requires
of_units-requires c =
    rw (c.game.ensures.value, c.mover.ensures.value)
    (IsPosition-turned (turn_of c.args.turning) c.args.board.now _ c.turned_units-units.ensures (c.may_turn.ensures.0 c.if-not-may_turn.false) c.game.ensures.position)

pub returns : goal.returns
returns c = record { may = c.may_turn.ensures.0 c.if-not-may_turn.false; turned = rw (c.of_units.ensures, c.game.ensures.value, c.mover.ensures.value) c.turned_units-units.ensures }
