use Rattle.moves.proofs.Common.{sym, ahead_way, next-is, cell_small}
use Rattle.moves.proofs.Reaching.{pushed-next}
use Rattle.moves.proofs.targets.pushed.Goals as goal

pub ahead-next-requires : goal.ahead-next-requires
ahead-next-requires c = record { above = c.requires.above; within = cell_small c.args.board.now.game c.args.cell c.requires }

pub returns-then-next-lt63 : goal.returns-then-next-lt63
returns-then-next-lt63 c =
    let b = c.args.board.now in
    pushed-next b c.args.side c.args.cell c.ahead-next.result c.single.result c.empty.result c.requires.above (sym (next-is (ahead_way c.args.side) c.args.cell c.ahead-next.result c.requires.above c.ahead-next.ensures)) c.single.ensures c.empty.ensures
