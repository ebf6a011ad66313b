use Rattle.std.proofs.Common.{sym, ap, subst, ◌∙◌, arith}
use Rattle.jobs.specs.JobBoard.{JobBoard}
use Rattle.jobs.proofs.Keeps.{lowers_allowed, still_seated}
use Rattle.jobs.proofs.job_board.Least.fetch_min.Goals as goal

pub fetch_min-requires : goal.fetch_min-requires
fetch_min-requires g c =
    let one = c.self.invariant.0 in
    let seat = c.requires.seat in
    let win = c.requires.wins in (
      seat.0 ∙ sym (ap (λ (b : JobBoard _). b.table) c.self.view_is),
      omega arith,
      lowers_allowed g.W.Wins.wins _ _ _ _ _ _ (omega (arith, seat.3, win.0)) (subst (λ z. g.W.Wins.wins z c.args.job) (sym seat.2) win.1),
    )

pub returns : goal.returns
returns g c = let e = c.fetch_min.ensures in let s = still_seated g.W.Wins.wins c.args.self.now c.args.seat.now c.fetch_min.new.seat _ c.requires.seat e.0 e.2.1 e.2.0 in
    record { seat = s.0; best = s.1; falls = s.2; known = s.3; steps = s.4 }
