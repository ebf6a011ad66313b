use Rattle.moves.proofs.Common.{Way, North, South, East, West, Rides, four-are, via}
use Rattle.moves.proofs.Seeing.{wazir_ways}
use Rattle.moves.proofs.seen.straight.Goals as goal

pub returns : goal.returns
returns c = λ j.
    let r = λ (way : Way). Rides c.args.board.now way c.args.cell in
    via (four-are (r North) (r South) (r East) (r West) _ _ _ _ c.along.ensures c.along-2.ensures c.along-3.ensures c.along-4.ensures j) (wazir_ways (λ (way : Way). Rides c.args.board.now way c.args.cell j))
