use Rattle.std.proofs.Common.{All, ◌∙◌, arith, refl, subst, sym, true}
use Rattle.verifying.proofs.Common.{false≢true, take_all, ListsLawful, same_side-self, question, IsPassed, ended_answer, lost, passed_next}
use Rattle.verifying.proofs.Failing.{listed_item}
use Rattle.verifying.proofs.Leaves.{for_mover}
use Rattle.verifying.proofs.leaf.wins_in_three.Goals as goal

pub after-requires : goal.after-requires
after-requires c = listed_item c.args.board.now c.as_slice-m-items.result.now c.as_slice-m-items.result.now c.loop-m.m-index c.m-item.result (subst (ListsLawful c.args.board.now) (sym c.as_slice-m-items.ensures.value) c.lawful_on-moves.ensures) refl c.loop-m-test.true c.m-item.is

pub returns-then-loses_in_two : goal.returns-then-loses_in_two
returns-then-loses_in_two c =
    let b = c.args.board.now in
    ended_answer (question b b.mover c.args.goal) 3 true (sym (same_side-self b.mover)) (omega arith) c.m-item.result c.after.result c.after.ensures
    ((for_mover c.args.goal b c.m-item.result c.after.result 2 c.loses_in_two.result c.after.ensures c.loses_in_two.ensures).0 c.if-loses_in_two.true)

pub loop-m-preserved : goal.loop-m-preserved
loop-m-preserved c =
    let b = c.args.board.now in
    passed_next (question b b.mover c.args.goal) 2 true c.as_slice-m-items.result.now c.loop-m.m-index c.m-item.result c.after.result c.loop-m-test.true c.m-item.is c.after.ensures c.loop-m.invariant
    (λ f. false≢true (sym c.if-loses_in_two.false ∙ (for_mover c.args.goal b c.m-item.result c.after.result 2 c.loses_in_two.result c.after.ensures c.loses_in_two.ensures).1 f))

pub returns : goal.returns
returns c =
    let b = c.args.board.now in
    lost (question b b.mover c.args.goal) 3 (same_side-self b.mover) (omega arith) c.as_slice-m-items.result.now (subst (ListsLawful b) (sym c.as_slice-m-items.ensures.value) c.lawful_on-moves.ensures).exact
    (subst (All (IsPassed (question b b.mover c.args.goal) 2 true)) (take_all c.loop-m.m-index c.as_slice-m-items.result.now c.loop-m-test.false) c.loop-m.invariant)
