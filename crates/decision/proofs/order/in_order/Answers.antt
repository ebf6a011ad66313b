use Rattle.std.proofs.Common.{List, map, All, length, ◌≡◌, sym, subst, ◌∙◌, ap}
use Rattle.std.specs.List.{refill}
use Rattle.std.specs.List.Sorted.{IsPermutation}
use Rattle.std.proofs.lemmas.List.Sorted.{IsPermutation-map}
use Rattle.rules.specs.Moves.{IsLawful}
use Rattle.decision.specs.declared.order.Costed.{Costed}
use Rattle.problems.specs.Tried.{ListsAll}
use Rattle.problems.proofs.Tried.{all_listed, lists_permuted}
use Rattle.decision.proofs.Below.{refilled}
use Rattle.decision.proofs.order.in_order.Goals as goal

pub cost_alike-requires-clause-lawful : goal.cost_alike-requires-clause-lawful
cost_alike-requires-clause-lawful c =
    subst (All (IsLawful c.args.q.now.position)) (sym c.as_slice.ensures.value) (all_listed c.args.q.now.position c.list_lawful.new.moves.items c.list_lawful.ensures.exact)

pub returns : goal.returns
returns c =
    let move = λ (it : Costed). it.m in
    let before = c.cost_alike.new.list.items in
    let after = c.sort_unstable_by_key.new.self in
    let same : refill (length before) before after ≡ after = refilled before after (c.sort_unstable_by_key.ensures.len ∙ ap length c.as_mut_slice.ensures.value) in
    let changed : IsPermutation before after = subst (λ (l : List Costed). IsPermutation l after) c.as_mut_slice.ensures.value c.sort_unstable_by_key.ensures.permutation in
    let listed : ListsAll c.args.q.now.position (map move before) = subst (ListsAll c.args.q.now.position) (sym (c.cost_alike.ensures ∙ c.as_slice.ensures.value)) c.list_lawful.ensures.exact in
    subst (ListsAll c.args.q.now.position) (sym (c.put_moves.ensures ∙ ap (map move) (c.as_slice-2.ensures.value ∙ same)))
    (lists_permuted c.args.q.now.position (map move before) (map move after) (IsPermutation-map move before after changed) listed)
