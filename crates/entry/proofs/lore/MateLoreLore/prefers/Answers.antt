use Rattle.entry.proofs.Common.{same_from_decides, mate_prefers}
use Rattle.entry.proofs.Preferred.{mate_decides}
use Rattle.entry.proofs.lore.MateLoreLore.prefers.Goals as goal

pub returns : goal.returns
returns c = same_from_decides c.prefers.result (mate_prefers c.args.old c.args.new) c.prefers.ensures (mate_decides c.args.old c.args.new)
