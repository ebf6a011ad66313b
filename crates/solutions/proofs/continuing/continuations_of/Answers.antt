use Rattle.std.proofs.Common.{◌<◌, length, arith, sym, ◌∙◌}
use Rattle.solutions.proofs.Common.{false≢true, Wins, move_at, got_at}
use Rattle.solutions.proofs.Lists.{pick_one, pick_skip, pick_all, job_wins}
use Rattle.solutions.proofs.continuing.continuations_of.Goals as goal
use Rattle.solutions.proofs.continuing.continuations_of.Goals.{then-wins+in_ok-push, else-wins}

pub loop-job-preserved : goal.loop-job-preserved
loop-job-preserved g c =
    let r = c.args.root.now in
    let n = c.args.plies in
    let job = c.loop-job.job in
    let m = c.index-deref-from.result in
    let below : job < length r.moves.items = omega (arith, c.loop-job-test.true, c.jobs-job-end.ensures.value) in
    let is = move_at r.moves.items c.deref.result.now c.from.result job m c.deref.ensures.0 c.from.ensures c.index-deref-from.is in
    let at = got_at r.moves.items job m below is in
    let so_far = c.loop-job.invariant.picks in
    let goes = g.met.D.Decider.goes_on _ _ _ c.loop-job.invariant.goes c.wins.ensures.goes in
    elim c.if-wins.branch [
      | then-wins+in_ok-push w ↦ record {
        goes = goes;
        picks = rw (w.moves-is, w.in_ok-push.ensures.items)
            (pick_one r.board (Wins r.goal r.board n) r.moves.items c.requires.root c.loop-job.moves.items job m below is so_far (job_wins r n job m at (c.in-Some.ensures.wins.0 w.if-wins.true)));
      }
      | else-wins w ↦ record {
        goes = goes;
        picks = rw w.moves-is
            (pick_skip r.board (Wins r.goal r.board n) r.moves.items c.requires.root c.loop-job.moves.items job m below is so_far (λ wins. false≢true (sym w.if-wins.false ∙ c.in-Some.ensures.wins.1 (m, at, wins))));
      }
    ]

pub returns-clause-moves : goal.returns-clause-moves
returns-clause-moves g c =
    let r = c.args.root.now in
    pick_all r.board (Wins r.goal r.board c.args.plies) r.moves.items c.requires.root c.loop-job.moves.items c.loop-job.job
    (omega (arith, c.loop-job-test.false, c.jobs-job-end.ensures.value)) c.loop-job.invariant.picks (λ m w. (w.0, w.1))
