use Rattle.std.proofs.Common.{subst, sym, refl, string_bytes}
use Rattle.solution_text.proofs.Common.{take_all, IsLawful, AreTexts, IsNumbered}
use Rattle.solution_text.proofs.Texts.{AreTexts-more}
use Rattle.solution_text.proofs.lines.numbered_moves.Goals as goal

pub name-name-requires : goal.name-name-requires
name-name-requires g c =
    subst (IsLawful c.args.board.now) (sym c.m-item.is) (c.requires c.loop-m.m-index c.m-item.result c.loop-m-test.true)

pub loop-m-preserved : goal.loop-m-preserved
loop-m-preserved g c =
    let P = IsNumbered c.args.notation c.args.number c.args.board.now in
    AreTexts-more P c.args.moves.now c.loop-m.m-index c.m-item.result (string_bytes c.loop-m.text) _ (string_bytes c.write.new.self) c.loop-m-test.true c.m-item.is c.loop-m.invariant (c.name-name.result, c.name-name.ensures, refl) c.in_ok-write.ensures.bytes

pub returns : goal.returns
returns g c =
    subst (λ ms. AreTexts (IsNumbered c.args.notation c.args.number c.args.board.now) ms (string_bytes c.loop-m.text)) (take_all c.loop-m.m-index c.args.moves.now c.loop-m-test.false) c.loop-m.invariant
