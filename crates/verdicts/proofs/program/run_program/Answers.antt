use Rattle.verdicts.proofs.program.run_program.Goals as goal

pub returns-in-Ok-clause-runs : goal.returns-in-Ok-clause-runs
returns-in-Ok-clause-runs g c = rw c.in-Ok.is (rw (← c.as_slice.ensures.value) c.run-status.ensures.runs)

pub returns-in-Ok-clause-unread : goal.returns-in-Ok-clause-unread
returns-in-Ok-clause-unread g c = rw c.in-Ok.is (rw (← c.as_slice.ensures.value) c.run-status.ensures.unread)
