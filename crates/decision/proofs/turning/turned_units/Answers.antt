use Rattle.std.proofs.Common.{sym, ap, subst, ◌∙◌, arith}
use Rattle.rules.specs.Squares.{IsOnBoard, square_number}
use Rattle.laws.proofs.Squares.{turned_on_board}
use Rattle.decision.specs.Turned.{turn_of}
use Rattle.decision.proofs.Turns.{turned_none, turned_more, turned_whole}
use Rattle.decision.proofs.turning.turned_units.Goals as goal
use Rattle.moves.proofs.Packing.{within_36}

pub loop-number-init : goal.loop-number-init
loop-number-init c = turned_none (turn_of c.args.turning) c.args.board.now

pub number-requires : goal.number-requires
number-requires c = subst (IsOnBoard c.game-game.result) (sym c.place-place.ensures) (turned_on_board c.game-game.result (turn_of c.args.turning) c.of_number-square.result c.of_number-square.ensures.on_board)

pub bounds-units-number : goal.bounds-units-number
bounds-units-number c = let less = within_36 c.game-game.result c.number.result c.number.ensures.within in omega (arith, less, c.loop-number.invariant.long)

pub loop-number-preserved : goal.loop-number-preserved
loop-number-preserved c =
    let game = c.game-game.ensures.value in
    let on = rw game at c.of_number-square.ensures.on_board in
    let number = rw game at c.of_number-square.ensures.number in
    let at = rw game at (c.number.ensures.value ∙ ap (square_number c.game-game.result) c.place-place.ensures) in
    turned_more (turn_of c.args.turning) c.args.board.now c.loop-number.units c.loop-number.number c.of_number-square.result c.unit_at.result on number c.unit_at.ensures c.loop-number.invariant c.number.result at

pub returns : goal.returns
returns c =
    let end = rw c.game-game.ensures.value at c.squares-number-end.ensures in
    turned_whole c.args.turning c.args.board.now c.loop-number.units c.loop-number.number c.game-game.ensures.position (omega (arith, end, c.loop-number-test.false)) c.loop-number.invariant
