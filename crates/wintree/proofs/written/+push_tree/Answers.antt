-- What was written is the text of the plan that the fields mean.
use Rattle.std.proofs.Common.{◌++◌, sym, ◌∙◌, ap, subst, append_assoc, string_bytes}
use Rattle.wintree.proofs.Common.{drop_all, move_text, text, plan_after, HasReplies, closed_text}
use Rattle.wintree.proofs.Tails.{text-plan_of}
use Rattle.wintree.proofs.written.+push_tree.Goals as goal

pub returns-in_ok-push-in-Replies-clause-written :
    goal.returns-in_ok-push-in-Replies-clause-written
unfolding lib.Utf8.encode
returns-in_ok-push-in-Replies-clause-written g t c =
    let m = c.tree.inside.attack in
    let replies = c.in-Replies.replies in
    let next_is = sym c.deref.ensures ∙ c.in-Replies.is in
    let plan_is = sym c.tree.view_is ∙ ap (plan_after m) next_is in
    let text_is = ap text plan_is ∙ text-plan_of m replies.items (subst HasReplies next_is c.tree.invariant.some) in
    let all_written = ap (λ xs. string_bytes c.loop-reply.written ++ closed_text c.loop-reply.mark xs) (sym (drop_all _ _ c.loop-reply-test.false)) ∙ c.loop-reply.invariant.written in
    c.in_ok-push-in-Replies.ensures.bytes ∙ all_written
    ∙ ap (λ xs. string_bytes c.write.new.self ++ closed_text 123 xs) c.deref-reply-items.ensures.value
    ∙ ap (λ xs. xs ++ closed_text 123 replies.items) c.in_ok-write.ensures.bytes
    ∙ append_assoc (string_bytes c.args.written.now) (move_text m) (closed_text 123 replies.items)
    ∙ ap (λ xs. string_bytes c.args.written.now ++ xs) (sym text_is)
