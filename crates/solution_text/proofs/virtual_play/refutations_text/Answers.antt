use Rattle.std.proofs.Common.{subst, sym, refl, string_bytes}
use Rattle.solution_text.proofs.Common.{take_all, IsLawful, AreTexts, IsRefutationText}
use Rattle.solution_text.proofs.Texts.{AreTexts-more}
use Rattle.solution_text.proofs.virtual_play.refutations_text.Goals as goal

pub name-name-requires : goal.name-name-requires
name-name-requires g c =
    subst (IsLawful c.args.board.now) (sym c.reply-item.is) (c.requires c.loop-reply.reply-index c.reply-item.result c.loop-reply-test.true)

pub loop-reply-preserved : goal.loop-reply-preserved
loop-reply-preserved g c =
    let P = IsRefutationText c.args.notation c.args.board.now in
    AreTexts-more P c.args.replies.now c.loop-reply.reply-index c.reply-item.result (string_bytes c.loop-reply.text) _ (string_bytes c.write.new.self) c.loop-reply-test.true c.reply-item.is c.loop-reply.invariant (c.name-name.result, c.name-name.ensures, refl) c.in_ok-write.ensures.bytes

pub returns : goal.returns
returns g c =
    subst (λ rs. AreTexts (IsRefutationText c.args.notation c.args.board.now) rs (string_bytes c.loop-reply.text)) (take_all c.loop-reply.reply-index c.args.replies.now c.loop-reply-test.false) c.loop-reply.invariant
