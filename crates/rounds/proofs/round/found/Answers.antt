use Rattle.std.proofs.Common.{arith}
use Rattle.rounds.specs.Shares.{IsShare, WinsHere}
use Rattle.searcher.proofs.Lists.{All-item}
use Rattle.rounds.proofs.Rows.{row_says}
use Rattle.rounds.proofs.round.found.Goals as goal

pub returns-in_default : goal.returns-in_default
returns-in_default g c =
    let share = All-item (IsShare g.J.Count.jobs c.args.round.now) c.args.shares.now.items c.deref-share-items.result.now c.loop-share.share-index c.share-item.result c.deref-share-items.ensures.value
    (omega arith) c.share-item.is c.requires.shares in
    row_says (WinsHere c.args.round.now) c.share-item.result.row.items share.right c.from.result c.args.job g.J.Count.jobs c.index.result.now c.from.ensures share.row c.requires.job c.index.ensures
