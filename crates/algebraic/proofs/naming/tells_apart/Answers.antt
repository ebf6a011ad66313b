use Rattle.std.proofs.Common.{All, subst, sym, ◌∙◌, refl}
use Rattle.std.proofs.lemmas.Bool.{false≢true}
use Rattle.std.proofs.lemmas.List.{take_all}
use Rattle.std.proofs.lemmas.List.Elements.{All-more, All-contains}
use Rattle.rules.specs.Squares.{Ply}
use Rattle.algebraic.specs.Naming.{IsRival, LooksAlike}
use Rattle.algebraic.proofs.naming.tells_apart.Goals as goal

pub confuses-requires : goal.confuses-requires
confuses-requires c = (c.requires.exact c.other-item.result).0 (c.loop-other.other-index, c.loop-other-test.true, sym c.other-item.is)

pub returns-then-confuses : goal.returns-then-confuses
returns-then-confuses c =
    let rival = c.confuses.ensures.0 c.if-confuses.true in
    (λ no. absurd (false≢true no), λ apart. absurd (apart c.other-item.result rival.0 rival.1))

pub loop-other-preserved : goal.loop-other-preserved
loop-other-preserved c =
    let P : Ply → Type 0 = λ n. (IsRival c.args.board.now c.args.kind c.args.m n × LooksAlike c.args.origin n.from c.args.m.from) → ⊥ in
    All-more P _ _ c.other-item.result c.loop-other-test.true c.loop-other.invariant
    (subst P c.other-item.is (λ rival. false≢true (sym c.if-confuses.false ∙ c.confuses.ensures.1 rival)))

pub returns : goal.returns
returns c =
    let P : Ply → Type 0 = λ n. (IsRival c.args.board.now c.args.kind c.args.m n × LooksAlike c.args.origin n.from c.args.m.from) → ⊥ in
    let all : All P c.args.moves.now = subst (All P) (take_all c.loop-other.other-index c.args.moves.now c.loop-other-test.false) c.loop-other.invariant in
    (λ _ other rival alike. All-contains P c.args.moves.now other all ((c.requires.exact other).1 rival.lawful) (rival, alike), λ _. refl)
