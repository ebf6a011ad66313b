use Rattle.std.proofs.Common.{◌<◌, List, sym, ◌∙◌, subst, arith, false, length}
use Rattle.std.proofs.lemmas.Bool.{false≢true}
use Rattle.std.proofs.lemmas.Bool.Decides.{Decides-eqb}
use Rattle.rules.specs.Squares.{Ply}
use Rattle.problems.specs.Tried.{ListsAll}
use Rattle.problems.proofs.Tried.{none_listed, not_empty, passes_other, passed_after, cut_after}
use Rattle.decision.proofs.Below.{ends_it, none_ends}
use Rattle.problems.proofs.LastPlies.{other_stuck}
use Rattle.decision.proofs.leaf.loses_by_all.Goals as goal

pub after-requires : goal.after-requires
after-requires c =
    (subst (ListsAll c.args.q.now.position) (sym c.as_slice-m-items.ensures.value) c.list_lawful.ensures.exact c.m-item.result).0 (c.loop-m.m-index, c.loop-m-test.true, sym c.m-item.is)

pub wins_at_once-requires : goal.wins_at_once-requires
wins_at_once-requires c = passes_other c.args.q.now c.after.result c.m-item.result c.after.ensures c.requires

pub returns-then-is_empty : goal.returns-then-is_empty
returns-then-is_empty c =
    other_stuck c.args.q.now c.is_reached.result c.requires
    (none_listed c.args.q.now.position c.list_lawful.new.moves.items c.list_lawful.ensures.exact ((Decides-eqb (length c.list_lawful.new.moves.items) 0).0 (sym c.is_empty.ensures ∙ c.if-is_empty.true)))
    c.is_reached.ensures

pub returns-then-not-wins_at_once : goal.returns-then-not-wins_at_once
returns-then-not-wins_at_once c =
    ends_it c.args.q.now 2 false (sym c.requires) (omega arith) (cut_after c.args.q.now 1 false c.m-item.result c.after.result c.after.ensures (λ f. false≢true (sym c.if-not-wins_at_once.true ∙ c.wins_at_once.ensures.1 f)))

pub loop-m-preserved : goal.loop-m-preserved
loop-m-preserved c =
    passed_after c.args.q.now 1 false c.as_slice-m-items.result.now c.loop-m.m-index c.m-item.result c.after.result c.loop-m-test.true c.m-item.is c.after.ensures c.loop-m.invariant
    (c.wins_at_once.ensures.0 c.if-not-wins_at_once.false)

pub returns : goal.returns
returns c =
    none_ends c.args.q.now 2 false (sym c.requires) (omega arith) c.as_slice-m-items.result.now (subst (ListsAll c.args.q.now.position) (sym c.as_slice-m-items.ensures.value) c.list_lawful.ensures.exact)
    (subst (λ (l : List Ply). 0 < length l) (sym c.as_slice-m-items.ensures.value) (not_empty (length c.list_lawful.new.moves.items) c.if-is_empty.ensures)) c.loop-m.m-index c.loop-m-test.false c.loop-m.invariant
