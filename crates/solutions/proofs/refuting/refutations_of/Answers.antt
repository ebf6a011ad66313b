use Rattle.std.proofs.Common.{sym, subst, ◌∙◌}
use Rattle.solutions.proofs.Common.{false≢true, ListsLawful, lawful_job, Refutes}
use Rattle.solutions.proofs.Lists.{pick_one, pick_skip, pick_all}
use Rattle.solutions.proofs.Tries.{met_not, not_met}
use Rattle.solutions.proofs.refuting.refutations_of.Goals as goal
use Rattle.solutions.proofs.refuting.refutations_of.Goals.{then-not-met+in_ok-push, else-not-met}

pub is_met-requires-clause-reply : goal.is_met-requires-clause-reply
is_met-requires-clause-reply g c =
    lawful_job c.args.board.now c.as_slice-reply-items.result.now (subst (ListsLawful c.args.board.now) (sym c.as_slice-reply-items.ensures.value) c.lawful_on-replies.ensures)
    c.loop-reply.reply-index c.reply-item.result c.loop-reply-test.true c.reply-item.is

pub loop-reply-preserved : goal.loop-reply-preserved
loop-reply-preserved g c =
    let q = c.args.board.now in
    let P = Refutes c.args.goal q c.args.plies in
    let xs = c.as_slice-reply-items.result.now in
    let i = c.loop-reply.reply-index in
    let r = c.reply-item.result in
    let old = c.loop-reply.refutations.items in
    let lists = subst (ListsLawful q) (sym c.as_slice-reply-items.ensures.value) c.lawful_on-replies.ensures in
    let lawful = lawful_job q xs lists i r c.loop-reply-test.true c.reply-item.is in
    let so_far = c.loop-reply.invariant.picks in
    let goes = g.met.D.Decider.goes_on _ _ _ c.loop-reply.invariant.goes c.is_met.ensures.goes in
    elim c.if-not-met.branch [
      | then-not-met+in_ok-push w ↦ record {
        goes = goes;
        picks = rw (w.refutations-is, w.in_ok-push.ensures.items)
            (pick_one q P xs lists old i r c.loop-reply-test.true c.reply-item.is so_far
            (not_met c.args.goal q c.args.plies r lawful (λ met. false≢true (sym w.if-not-met.true ∙ c.in-Some.ensures.met.1 met))));
      }
      | else-not-met w ↦ record {
        goes = goes;
        picks = rw w.refutations-is
            (pick_skip q P xs lists old i r c.loop-reply-test.true c.reply-item.is so_far (met_not c.args.goal q c.args.plies r (c.in-Some.ensures.met.0 w.if-not-met.false)));
      }
    ]

pub returns-clause-refutations : goal.returns-clause-refutations
returns-clause-refutations g c =
    let q = c.args.board.now in
    let lists = subst (ListsLawful q) (sym c.as_slice-reply-items.ensures.value) c.lawful_on-replies.ensures in
    pick_all q (Refutes c.args.goal q c.args.plies) c.as_slice-reply-items.result.now lists c.loop-reply.refutations.items c.loop-reply.reply-index
    c.loop-reply-test.false c.loop-reply.invariant.picks (λ r refutes. (refutes.0, refutes.1))
