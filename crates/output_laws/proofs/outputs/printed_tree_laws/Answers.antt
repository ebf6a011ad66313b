use Rattle.output_laws.proofs.Checked.{solve_names, tree_is_checked}
use Rattle.output_laws.proofs.outputs.printed_tree_laws.Goals as goal

pub returns-clause-solve : goal.returns-clause-solve
returns-clause-solve c = solve_names

pub returns-clause-check : goal.returns-clause-check
returns-clause-check c = tree_is_checked
