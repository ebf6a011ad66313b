use Rattle.std.proofs.Common.{All, length, ◌≡◌, sym, subst, ◌∙◌, ap}
use Rattle.std.specs.List.{refill}
use Rattle.rules.specs.Moves.{IsLawful}
use Rattle.problems.specs.Tried.{ListsAll}
use Rattle.problems.proofs.Tried.{all_listed, lists_permuted}
use Rattle.decision.proofs.Below.{refilled}
use Rattle.acceptance.proofs.order_at_first.in_order.Goals as goal

pub costs_of-costs-requires : goal.costs_of-costs-requires
costs_of-costs-requires c =
    subst (All (IsLawful c.args.q.now.position)) (sym c.as_slice.ensures.value) (all_listed c.args.q.now.position c.list_lawful.new.moves.items c.list_lawful.ensures.exact)

pub returns : goal.returns
returns c =
    let same : refill (length c.list_lawful.new.moves.items) c.list_lawful.new.moves.items c.sort_unstable_by_key.new.self ≡ c.sort_unstable_by_key.new.self =
    refilled c.list_lawful.new.moves.items c.sort_unstable_by_key.new.self (c.sort_unstable_by_key.ensures.len ∙ ap length c.as_mut_slice.ensures.value) in
    subst (ListsAll c.args.q.now.position) (sym same)
    (lists_permuted c.args.q.now.position c.as_mut_slice.result.now c.sort_unstable_by_key.new.self c.sort_unstable_by_key.ensures.permutation
    (subst (ListsAll c.args.q.now.position) (sym c.as_mut_slice.ensures.value) c.list_lawful.ensures.exact))
