use Rattle.moves.proofs.Common.{Way, NorthEast, SouthWest, NorthWest, SouthEast, Rides, four-are, via}
use Rattle.moves.proofs.Seeing.{ferz_ways}
use Rattle.moves.proofs.seen.slanted.Goals as goal

pub returns : goal.returns
returns c = λ j.
    let r = λ (way : Way). Rides c.args.board.now way c.args.cell in
    via (four-are (r NorthEast) (r SouthWest) (r NorthWest) (r SouthEast) _ _ _ _ c.along.ensures c.along-2.ensures c.along-3.ensures c.along-4.ensures j) (ferz_ways (λ (way : Way). Rides c.args.board.now way c.args.cell j))
