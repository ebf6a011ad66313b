use Rattle.entry.proofs.Preferred.{mate_decides}
use Rattle.answer_laws.proofs.entries.preference_laws.Goals as goal

pub returns : goal.returns
returns c = mate_decides
