use Rattle.std.proofs.Common.{arith, sym, subst, ◌≡◌, ◌<◌, ◌≤◌, Some, length}
use Rattle.std.proofs.lemmas.Grind.{common_steps}
use Rattle.std.proofs.lemmas.List.Elements.{All-pop, All-push, All-same}
use Rattle.slots.specs.Promise.{IsSeatOf}
use Rattle.decision.specs.Calls.{Continues}
use Rattle.decision.proofs.Calls.{continues_none, continues_more}
use Rattle.decision.proofs.Zips.{zip_last, zip_then}
use Rattle.searcher.proofs.preparing.build_tree_over.Goals as goal

pub build_tree-tree-requires-clause-seat : goal.build_tree-tree-requires-clause-seat
build_tree-tree-requires-clause-seat g c = (All-pop (IsSeatOf c.args.table.now.slots) _ _ (Some _) c.take_last-own.ensures.items c.prepare_tree.ensures.seats).1

pub returns-clause-seats : goal.returns-clause-seats
returns-clause-seats g c = grind (arith, common_steps)

pub invariant_of-table : goal.invariant_of-table
invariant_of-table g c =
    let seats : length c.push_reserved.new.self.items ≡ length c.args.table.now.seats.items = grind (arith, common_steps) in
    let t = c.args.table.now.slots in
    let callers = c.args.table.now.seated in record {
      seated = (
        subst (λ n. 0 < n) (sym seats) callers.0,
        subst (λ n. n ≤ 17) (sym seats) callers.1,
        All-same (IsSeatOf t) _ _ c.push_reserved.ensures.items
            (All-push (IsSeatOf t) _ _ (All-pop (IsSeatOf t) _ _ (Some _) c.take_last-own.ensures.items c.prepare_tree.ensures.seats).0 c.build_tree-tree.ensures.continues.seat),
      );
    }

pub returns-clause-go_on : goal.returns-clause-go_on
returns-clause-go_on g c = let t = c.args.table.now.slots in
    zip_then (Continues t) (continues_more t) c.args.table.now.seats.items c.prepare_tree.new.seats.items c.push_reserved.new.self.items c.prepare_tree.ensures.go_on
    (zip_last (Continues t) (IsSeatOf t) (continues_none t) c.prepare_tree.new.seats.items c.push_reserved.new.self.items c.take_last-own.new.self.items c.take_last-own.result c.build_tree-tree.new.seat
    c.take_last-own.ensures.items c.push_reserved.ensures.items (All-pop (IsSeatOf t) _ _ (Some _) c.take_last-own.ensures.items c.prepare_tree.ensures.seats).0 c.build_tree-tree.ensures.continues)
