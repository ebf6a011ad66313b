use Rattle.std.proofs.Common.{sym, ◌∙◌}
use Rattle.entry.proofs.Questions.{one_entry}
use Rattle.answer_laws.proofs.entries.packing_laws.Goals as goal

pub returns-clause-entry : goal.returns-clause-entry
returns-clause-entry c = one_entry

pub returns-clause-words : goal.returns-clause-words
returns-clause-words c = λ e words others p q. p.words ∙ sym q.words
