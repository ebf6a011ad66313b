use Rattle.std.proofs.Common.{◌≡◌, ◌∙◌, rules, sym, subst}
use Rattle.batches.specs.Batch.{HasReplyText}
use Rattle.batches.specs.BatchRun.{IsAhead}
use Rattle.batches.proofs.BatchLemmas.{found_reply}
use Rattle.searcher.proofs.Lists.{All-snoc}
use Rattle.batches.proofs.ahead.Lines.answer.Goals as goal

pub returns : goal.returns
returns c =
    let batch = c.args.self.now.batch.now in
    let kept : c.extend_from_slice.new.self.items ≡ c.args.said.now = search rules in
    let reply = subst (λ s. HasReplyText batch s c.in_ok-text.text.items) (sym kept)
    (found_reply batch c.args.said.now c.in_ok-asked.asked c.in-Ok.problem c.in-Some.found c.in_ok-plain.plain.items c.in_ok-text.text.items
    (sym c.is_remark.ensures ∙ c.if-is_remark.false) c.in_ok-asked.ensures c.in-Ok.ensures (rw c.in-Some.is at c.in_ok-found.ensures.found) c.in_ok-plain.ensures c.in_ok-text.ensures) in
    (c.find.ensures.seat, All-snoc (IsAhead batch) _ _ _ c.in_ok-push.ensures.items c.requires.lane.1 reply)
