use Rattle.rounds.proofs.keys.decide_jobs.Goals as goal

pub loop-init : goal.loop-init
loop-init g c = g.met.D.Decider.goes_at_once _

pub loop-preserved : goal.loop-preserved
loop-preserved g c = g.met.D.Decider.goes_on _ _ _ c.loop.invariant c.plies_of.ensures.goes
