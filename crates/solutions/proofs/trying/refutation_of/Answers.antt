use Rattle.std.proofs.Common.{sym, subst, ◌∙◌}
use Rattle.solutions.proofs.Common.{false≢true, ListsLawful, lawful_job}
use Rattle.solutions.proofs.Tries.{refute_skip, refute_first, refute_second, refute_all}
use Rattle.solutions.proofs.trying.refutation_of.Goals as goal

pub is_met-requires-clause-reply : goal.is_met-requires-clause-reply
is_met-requires-clause-reply g c =
    lawful_job c.args.board.now c.as_slice-reply-items.result.now (subst (ListsLawful c.args.board.now) (sym c.as_slice-reply-items.ensures.value) c.lawful_on-replies.ensures)
    c.loop-reply.reply-index c.reply-item.result c.loop-reply-test.true c.reply-item.is

pub loop-reply-preserved-then-branch : goal.loop-reply-preserved-then-branch
loop-reply-preserved-then-branch g c =
    let lists = subst (ListsLawful c.args.board.now) (sym c.as_slice-reply-items.ensures.value) c.lawful_on-replies.ensures in
    record {
      goes = g.met.D.Decider.goes_on _ _ _ c.loop-reply.invariant.goes c.is_met.ensures.goes;
      once = refute_skip c.args.goal c.args.board.now c.args.plies c.as_slice-reply-items.result.now lists c.loop-reply.reply-index c.reply-item.result c.loop-reply-test.true c.reply-item.is
          c.loop-reply.found (c.in_ok-is_met.ensures.met.0 c.if-branch.true) c.loop-reply.invariant.once;
    }

pub returns-then-is_some-clause-alone : goal.returns-then-is_some-clause-alone
returns-then-is_some-clause-alone g c =
    let lists = subst (ListsLawful c.args.board.now) (sym c.as_slice-reply-items.ensures.value) c.lawful_on-replies.ensures in
    refute_second c.args.goal c.args.board.now c.args.plies c.as_slice-reply-items.result.now lists c.loop-reply.reply-index c.reply-item.result c.loop-reply-test.true c.reply-item.is
    c.loop-reply.found (sym c.is_some.ensures ∙ c.if-is_some.true) (λ met. false≢true (sym c.if-branch.false ∙ c.in_ok-is_met.ensures.met.1 met)) c.loop-reply.invariant.once

pub loop-reply-preserved : goal.loop-reply-preserved
loop-reply-preserved g c =
    let lists = subst (ListsLawful c.args.board.now) (sym c.as_slice-reply-items.ensures.value) c.lawful_on-replies.ensures in
    record {
      goes = g.met.D.Decider.goes_on _ _ _ c.loop-reply.invariant.goes c.is_met.ensures.goes;
      once = refute_first c.args.goal c.args.board.now c.args.plies c.as_slice-reply-items.result.now lists c.loop-reply.reply-index c.reply-item.result c.loop-reply-test.true c.reply-item.is
          c.loop-reply.found (sym c.is_some.ensures ∙ c.if-is_some.false) (λ met. false≢true (sym c.if-branch.false ∙ c.in_ok-is_met.ensures.met.1 met)) c.loop-reply.invariant.once;
    }

pub returns-clause-alone : goal.returns-clause-alone
returns-clause-alone g c =
    let lists = subst (ListsLawful c.args.board.now) (sym c.as_slice-reply-items.ensures.value) c.lawful_on-replies.ensures in
    refute_all c.args.goal c.args.board.now c.args.plies c.as_slice-reply-items.result.now lists c.loop-reply.reply-index c.loop-reply-test.false c.loop-reply.found c.loop-reply.invariant.once
