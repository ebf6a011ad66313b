use Rattle.std.proofs.Common.{sym, ap, ◌∙◌, arith}
use Rattle.jobs.specs.JobBoard.{JobBoard}
use Rattle.jobs.proofs.Keeps.{reads_allowed, still_seated}
use Rattle.jobs.proofs.job_board.Least.read.Goals as goal

pub load-requires : goal.load-requires
load-requires g c = let one = c.self.invariant.0 in (c.requires.0 ∙ sym (ap (λ (b : JobBoard _). b.table) c.self.view_is), omega arith, reads_allowed g.W.Wins.wins _ _ _ _ _)

pub returns : goal.returns
returns g c = let e = c.load.ensures in let s = still_seated g.W.Wins.wins c.args.self.now c.args.seat.now c.load.new.seat _ c.requires e.0 e.2.1 e.2.0 in
    record { seat = s.0; best = s.1; falls = s.2; known = s.3; steps = s.4 }
