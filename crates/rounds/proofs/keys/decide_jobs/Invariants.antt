use Rattle.rounds.proofs.keys.decide_jobs.Given as goal

-- the loop has no number of its own
abbrev pub invariant-loop : goal.invariant-loop
invariant-loop g l = g.D.Decider.goes l.fn.decider l.decider
