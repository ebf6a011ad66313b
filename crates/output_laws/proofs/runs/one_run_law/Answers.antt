use Rattle.output_laws.proofs.OneRun.{one_run}
use Rattle.output_laws.proofs.runs.one_run_law.Goals as goal

pub returns : goal.returns
returns c = one_run
