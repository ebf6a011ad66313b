use Rattle.output_laws.proofs.Shown.{one_output, any_input, any_workers}
use Rattle.output_laws.proofs.outputs.one_output_laws.Goals as goal

pub returns-clause-output : goal.returns-clause-output
returns-clause-output c = one_output

pub returns-clause-input : goal.returns-clause-input
returns-clause-input c = any_input

pub returns-clause-workers : goal.returns-clause-workers
returns-clause-workers c = any_workers
