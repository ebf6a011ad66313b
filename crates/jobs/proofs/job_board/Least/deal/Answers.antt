use Rattle.std.proofs.Common.{sym, ap, ◌∙◌, arith}
use Rattle.jobs.specs.JobBoard.{JobBoard}
use Rattle.jobs.proofs.Keeps.{deals_allowed}
use Rattle.jobs.proofs.job_board.Least.deal.Goals as goal

pub split_seat-requires : goal.split_seat-requires
split_seat-requires g c = let one = c.self.invariant.0 in (c.loop.invariant.first.0.0 ∙ sym (ap (λ (b : JobBoard _). b.table) c.self.view_is), omega arith, deals_allowed g.W.Wins.wins _ _ _ _)
