use Rattle.std.proofs.Common.{All, List, ◌∙◌, arith, false, length, refl, subst, sym}
use Rattle.verifying.proofs.Common.{false≢true, Decides-eqb, take_all, All-contains, other_side, ListsLawful, Ply, question, IsPassed, ended_answer, gone_answer, none_listed, not_empty, now_answer, passed_next, some_listed}
use Rattle.verifying.proofs.Failing.{listed_item}
use Rattle.verifying.proofs.Leaves.{for_other, other_turn, reached_now}
use Rattle.verifying.proofs.leaf.loses_in_two.Goals as goal

pub after-requires : goal.after-requires
after-requires c = listed_item c.args.board.now c.as_slice-m-items.result.now c.as_slice-m-items.result.now c.loop-m.m-index c.m-item.result (subst (ListsLawful c.args.board.now) (sym c.as_slice-m-items.ensures.value) c.lawful_on-moves.ensures) refl c.loop-m-test.true c.m-item.is

pub returns-then-is_empty : goal.returns-then-is_empty
returns-then-is_empty c =
    now_answer c.args.goal (other_side c.args.board.now.mover) c.args.board.now 2 c.is_reached.result
    (none_listed c.args.board.now c.lawful_on-moves.result.items c.lawful_on-moves.ensures.exact ((Decides-eqb (length c.lawful_on-moves.result.items) 0).0 (sym c.is_empty.ensures ∙ c.if-is_empty.true)))
    (reached_now c.args.goal c.args.board.now c.is_reached.result c.is_reached.ensures)

pub returns-then-not-reaches_at_once : goal.returns-then-not-reaches_at_once
returns-then-not-reaches_at_once c =
    let b = c.args.board.now in
    ended_answer (question b (other_side b.mover) c.args.goal) 2 false (sym (other_turn b.mover)) (omega arith) c.m-item.result c.after.result c.after.ensures
    (λ f. false≢true (sym c.if-not-reaches_at_once.true ∙ (for_other c.args.goal b c.m-item.result c.after.result 1 c.reaches_at_once.result c.after.ensures c.reaches_at_once.ensures).1 f))

pub loop-m-preserved : goal.loop-m-preserved
loop-m-preserved c =
    let b = c.args.board.now in
    passed_next (question b (other_side b.mover) c.args.goal) 1 false c.as_slice-m-items.result.now c.loop-m.m-index c.m-item.result c.after.result c.loop-m-test.true c.m-item.is c.after.ensures c.loop-m.invariant
    ((for_other c.args.goal b c.m-item.result c.after.result 1 c.reaches_at_once.result c.after.ensures c.reaches_at_once.ensures).0 c.if-not-reaches_at_once.false)

pub returns : goal.returns
returns c =
    let b = c.args.board.now in
    let q = question b (other_side b.mover) c.args.goal in
    let all = subst (λ (l : List Ply). All (IsPassed q 1 false) l) (take_all c.loop-m.m-index c.as_slice-m-items.result.now c.loop-m-test.false) c.loop-m.invariant in
    gone_answer q 2 false (sym (other_turn b.mover)) (omega arith)
    (some_listed b c.lawful_on-moves.result.items c.lawful_on-moves.ensures.exact (not_empty (length c.lawful_on-moves.result.items) c.if-is_empty.ensures))
    (λ m lawful. All-contains (IsPassed q 1 false) c.lawful_on-moves.result.items m (subst (All (IsPassed q 1 false)) c.as_slice-m-items.ensures.value all) ((c.lawful_on-moves.ensures.exact m).1 lawful))
