use Rattle.std.proofs.Common.{All, sym, ◌∙◌, subst, arith, true}
use Rattle.std.proofs.lemmas.Bool.{false≢true}
use Rattle.std.proofs.lemmas.List.{take_all}
use Rattle.problems.specs.Tried.{ListsAll, IsPassed}
use Rattle.problems.proofs.Tried.{passes_own, passed_after, cut_after, lost}
use Rattle.decision.proofs.Below.{ends_it}
use Rattle.decision.proofs.leaf.wins_in_three.Goals as goal

pub after-requires : goal.after-requires
after-requires c =
    (subst (ListsAll c.args.q.now.position) (sym c.as_slice-m-items.ensures.value) c.order.ensures c.m-item.result).0 (c.loop-m.m-index, c.loop-m-test.true, sym c.m-item.is)

pub loses_in_two-requires : goal.loses_in_two-requires
loses_in_two-requires c = passes_own c.args.q.now c.after.result c.m-item.result c.after.ensures c.requires

pub returns-then-loses_in_two : goal.returns-then-loses_in_two
returns-then-loses_in_two c =
    ends_it c.args.q.now 3 true (sym c.requires) (omega arith) (cut_after c.args.q.now 2 true c.m-item.result c.after.result c.after.ensures (c.loses_in_two.ensures.0 c.if-loses_in_two.true))

pub loop-m-preserved : goal.loop-m-preserved
loop-m-preserved c =
    passed_after c.args.q.now 2 true c.as_slice-m-items.result.now c.loop-m.m-index c.m-item.result c.after.result c.loop-m-test.true c.m-item.is c.after.ensures c.loop-m.invariant
    (λ f. false≢true (sym c.if-loses_in_two.false ∙ c.loses_in_two.ensures.1 f))

pub returns : goal.returns
returns c =
    lost c.args.q.now 3 c.requires (omega arith) c.as_slice-m-items.result.now (subst (ListsAll c.args.q.now.position) (sym c.as_slice-m-items.ensures.value) c.order.ensures)
    (subst (All (IsPassed c.args.q.now 2 true)) (take_all c.loop-m.m-index c.as_slice-m-items.result.now c.loop-m-test.false) c.loop-m.invariant)
