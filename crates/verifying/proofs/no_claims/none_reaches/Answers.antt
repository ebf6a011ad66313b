use Rattle.std.proofs.Common.{All, refl, sym, ◌∙◌, subst}
use Rattle.verifying.proofs.Common.{false≢true, take_all, All-get_or, Ply, IsMove, IsReached, one_after, ReachesNothing, All-more}
use Rattle.verifying.proofs.Failing.{lawful_item}
use Rattle.verifying.proofs.no_claims.none_reaches.Goals as goal

pub after-requires : goal.after-requires
after-requires c = lawful_item c.args.board.now c.args.moves.now c.loop-m.m-index c.m-item.result c.requires c.loop-m-test.true c.m-item.is

pub loop-m-preserved : goal.loop-m-preserved
loop-m-preserved c =
    All-more (ReachesNothing c.args.goal c.args.board.now) c.args.moves.now c.loop-m.m-index c.m-item.result c.loop-m-test.true c.loop-m.invariant
    (subst (ReachesNothing c.args.goal c.args.board.now) c.m-item.is (λ q move there. false≢true (sym c.if-is_reached.false ∙ c.is_reached.ensures.1 (subst (IsReached c.args.goal) (one_after c.args.board.now c.m-item.result q c.after.result move c.after.ensures) there))))

pub returns : goal.returns
returns c = (λ _. subst (All (ReachesNothing c.args.goal c.args.board.now)) (take_all c.loop-m.m-index c.args.moves.now c.loop-m-test.false) c.loop-m.invariant, λ _. refl)

pub returns-then-is_reached : goal.returns-then-is_reached
returns-then-is_reached c = (
  λ yes. absurd (false≢true yes),
  λ all. absurd (All-get_or (ReachesNothing c.args.goal c.args.board.now) c.args.moves.now c.loop-m.m-index c.m-item.result c.loop-m-test.true all c.after.result
      (subst (λ (m : Ply). IsMove c.args.board.now m c.after.result) c.m-item.is c.after.ensures) (c.is_reached.ensures.0 c.if-is_reached.true)),
)
