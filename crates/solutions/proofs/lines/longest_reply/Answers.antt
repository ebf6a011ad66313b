use Rattle.std.proofs.Common.{sym, subst, ◌∙◌, ◌-◌, ◌↔◌, ℕ, IsTrue}
use Rattle.solutions.proofs.Common.{false≢true, ListsLawful, lawful_job, IsMet, Lasts}
use Rattle.solutions.proofs.Lists.{all_more, each_lawful, first_least}
use Rattle.solutions.proofs.Forcing.{lasts_by, met_before}
use Rattle.solutions.proofs.lines.longest_reply.Goals as goal

pub is_met-requires-clause-reply : goal.is_met-requires-clause-reply
is_met-requires-clause-reply g c =
    lawful_job c.args.board.now c.as_slice-reply-items.result.now (subst (ListsLawful c.args.board.now) (sym c.as_slice-reply-items.ensures.value) c.lawful_on-replies.ensures)
    c.loop-reply.reply-index c.reply-item.result c.loop-reply-test.true c.reply-item.is

pub returns-then-not-branch-clause-longest : goal.returns-then-not-branch-clause-longest
returns-then-not-branch-clause-longest g c =
    let goal = c.args.goal in
    let q = c.args.board.now in
    let n = c.args.plies in
    let xs = c.as_slice-reply-items.result.now in
    let r = c.reply-item.result in
    let lists = subst (ListsLawful q) (sym c.as_slice-reply-items.ensures.value) c.lawful_on-replies.ensures in
    let lawful = lawful_job q xs lists c.loop-reply.reply-index r c.loop-reply-test.true c.reply-item.is in
    let answer = subst (λ (k : ℕ). IsTrue c.in_ok-is_met.field-0 ↔ IsMet goal q k r) c.saturating_sub.ensures c.in_ok-is_met.ensures.met in
    record {
      lasts = lasts_by goal q c.requires.odd.0 n r c.requires.odd.1 (c.requires.met r lawful) (λ met. false≢true (sym c.if-not-branch.true ∙ answer.1 met));
      least = λ s lasts. first_least q (Lasts goal q n) xs lists c.loop-reply.reply-index r c.loop-reply-test.true c.reply-item.is
          (λ k d lt. met_before goal q n _ c.requires.plies.0 (c.loop-reply.invariant.met k d lt)) s (lasts.0, lasts.1) lasts;
    }

pub loop-reply-preserved : goal.loop-reply-preserved
loop-reply-preserved g c =
    let goal = c.args.goal in
    let q = c.args.board.now in
    let r = c.reply-item.result in
    let answer = subst (λ (k : ℕ). IsTrue c.in_ok-is_met.field-0 ↔ IsMet goal q k r) c.saturating_sub.ensures c.in_ok-is_met.ensures.met in
    record {
      goes = g.met.D.Decider.goes_on _ _ _ c.loop-reply.invariant.goes c.is_met.ensures.goes;
      met = all_more c.as_slice-reply-items.result.now c.loop-reply.reply-index r c.loop-reply-test.true c.reply-item.is (IsMet goal q (c.args.plies - 2)) c.loop-reply.invariant.met (answer.0 c.if-not-branch.false);
    }

pub unreachable-requires : goal.unreachable-requires
unreachable-requires g c =
    let q = c.args.board.now in
    let lists = subst (ListsLawful q) (sym c.as_slice-reply-items.ensures.value) c.lawful_on-replies.ensures in
    c.requires.last (each_lawful q (IsMet c.args.goal q (c.args.plies - 2)) c.as_slice-reply-items.result.now lists c.loop-reply.reply-index c.loop-reply-test.false c.loop-reply.invariant.met)
