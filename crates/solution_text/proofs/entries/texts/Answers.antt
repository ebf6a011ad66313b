use Rattle.std.proofs.Common.{◌++◌, ◌∙◌, ap, subst, sym, string_bytes}
use Rattle.solution_text.proofs.Common.{take_all, AreTexts}
use Rattle.solution_text.proofs.Texts.{AreTexts-more}
use Rattle.solution_text.proofs.entries.texts.Goals as goal

pub loop-entry-preserved : goal.loop-entry-preserved
loop-entry-preserved g c =
    let P = g.T.Entry.shows c.args.notation c.args.board.now in
    let added = c.in_ok-push_str.ensures.bytes ∙ ap (λ t. string_bytes c.loop-entry.text ++ t) c.as_str.ensures.value in
    AreTexts-more P c.args.entries.now c.loop-entry.entry-index c.entry-item.result (string_bytes c.loop-entry.text) (string_bytes c.in_ok-one.one) (string_bytes c.push_str.new.self) c.loop-entry-test.true c.entry-item.is c.loop-entry.invariant c.in_ok-one.ensures added

pub returns : goal.returns
returns g c =
    subst (λ xs. AreTexts (g.T.Entry.shows c.args.notation c.args.board.now) xs (string_bytes c.loop-entry.text)) (take_all c.loop-entry.entry-index c.args.entries.now c.loop-entry-test.false) c.loop-entry.invariant

pub text-requires : goal.text-requires
text-requires g c = subst (g.T.Entry.holds c.args.notation c.args.board.now) (sym c.entry-item.is) (c.requires c.loop-entry.entry-index c.entry-item.result c.loop-entry-test.true)
