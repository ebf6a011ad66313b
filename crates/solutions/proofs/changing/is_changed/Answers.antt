use Rattle.std.proofs.Common.{All, subst, sym, ◌∙◌, refl}
use Rattle.std.proofs.lemmas.List.Elements.{All-more}
use Rattle.solutions.proofs.Common.{false≢true, take_all, Ply, IsLawful}
use Rattle.solutions.specs.Changes.{IsAlike}
use Rattle.solutions.proofs.changing.is_changed.Goals as goal

pub is_alike-requires-clause-lawful : goal.is_alike-requires-clause-lawful
is_alike-requires-clause-lawful c = subst (IsLawful c.args.board.now) (sym c.m-item.is) (c.requires.lawful c.loop-m.m-index c.m-item.result c.loop-m-test.true)

pub returns-then-is_alike : goal.returns-then-is_alike
returns-then-is_alike c =
    let set = c.args.set.now in
    let alike = subst (λ (m : Ply). IsAlike c.args.board.now m set.board set.first) c.m-item.is (c.is_alike.ensures.0 c.if-is_alike.true) in
    (λ no. absurd (false≢true no), λ unlike. absurd (unlike c.loop-m.m-index c.m-item.result c.loop-m-test.true alike))

pub loop-m-preserved : goal.loop-m-preserved
loop-m-preserved c =
    let set = c.args.set.now in
    let P : Ply → Type 0 = λ m. IsAlike c.args.board.now m set.board set.first → ⊥ in
    All-more P _ _ c.m-item.result c.loop-m-test.true c.loop-m.invariant (subst P c.m-item.is (λ alike. false≢true (sym c.if-is_alike.false ∙ c.is_alike.ensures.1 alike)))

pub returns : goal.returns
returns c =
    let set = c.args.set.now in
    (λ _. subst (All (λ (m : Ply). IsAlike c.args.board.now m set.board set.first → ⊥)) (take_all c.loop-m.m-index c.args.moves.now c.loop-m-test.false) c.loop-m.invariant, λ _. refl)
