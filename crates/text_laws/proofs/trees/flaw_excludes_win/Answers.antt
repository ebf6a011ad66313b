use Rattle.wintree.proofs.Winning.{flaw_loses}
use Rattle.text_laws.proofs.trees.flaw_excludes_win.Goals as goal

pub returns : goal.returns
returns c = flaw_loses
