use Rattle.std.proofs.Common.{refl, sym, ◌∙◌}
use Rattle.wintree.specs.Text.{text}
use Rattle.text_laws.proofs.OneText.{one_text}
use Rattle.text_laws.proofs.Faults.{one_tree_fault, no_tree_fault}
use Rattle.text_laws.proofs.texts.tree_text_laws.Goals as goal

pub returns-clause-some : goal.returns-clause-some
returns-clause-some c = λ plan is. (text plan, (is, refl))

pub returns-clause-plan : goal.returns-clause-plan
returns-clause-plan c = λ bytes a b p q. one_text a b p.0 q.0 (sym p.1 ∙ q.1)

pub returns-clause-fault : goal.returns-clause-fault
returns-clause-fault c = one_tree_fault

pub returns-clause-no_fault : goal.returns-clause-no_fault
returns-clause-no_fault c = no_tree_fault
