use Rattle.std.proofs.Common.{◌≡◌, ◌≤◌, ℕ, None, ap, arith, subst, sym, ◌∙◌}
use Rattle.std.proofs.Math.Nat.{min-eq_left}
use Rattle.board.specs.Board.{PlainBoard}
use Rattle.rules.specs.declared.goal.Goal.{Goal}
use Rattle.problems.specs.Answer.{IsAnswer, IsFewest}
use Rattle.context.specs.Limits.{fault_of}
use Rattle.composing.specs.Solution.{is_sooner}
use Rattle.searcher.proofs.Limits.{limit_within}
use Rattle.composing.proofs.SolutionLemmas.{composed_shown}
use Rattle.composing.proofs.problem.solution_at.Goals as goal

pub on-root-requires : goal.on-root-requires
on-root-requires g c =
    let solved = subst (λ a. (fault_of c.args.limits ≡ None) × IsAnswer c.args.goal c.args.position.now c.args.limits.limit a) c.in-Mate.is c.in_ok-found.ensures in
    let most = limit_within c.args.limits.limit c.args.limits.workers c.args.limits.slots solved.0 in
    omega (arith, solved.1.0, most.1)

pub composed_of-requires-clause-fewest : goal.composed_of-requires-clause-fewest
composed_of-requires-clause-fewest g c =
    let solved = subst (λ a. (fault_of c.args.limits ≡ None) × IsAnswer c.args.goal c.args.position.now c.args.limits.limit a) c.in-Mate.is c.in_ok-found.ensures in
    subst (λ (at : Goal × PlainBoard × ℕ). IsFewest at.0 at.1 at.2) (λ i. (sym c.on-root.ensures.goal i, sym (c.on-root.ensures.position ∙ c.of.ensures) i, sym c.on-root.ensures.limit i)) solved.1.1

pub returns-in_ok-composed_of-in-Mate : goal.returns-in_ok-composed_of-in-Mate
returns-in_ok-composed_of-in-Mate g c =
    let r = c.on-root.result in
    let solved = subst (λ a. (fault_of c.args.limits ≡ None) × IsAnswer c.args.goal c.args.position.now c.args.limits.limit a) c.in-Mate.is c.in_ok-found.ensures in
    let most = limit_within c.args.limits.limit c.args.limits.workers c.args.limits.slots solved.0 in
    let limit : c.search_of.result.limit ≡ c.args.limits.limit = c.search_of.ensures.limit ∙ min-eq_left {n = c.args.limits.limit} {m = 255} (omega (arith, most.1)) in
    let same = sym c.on-root.ensures.limit in
    let sooner = c.is_sooner-sooner.ensures ∙ ap (is_sooner c.in-Mate.plies) limit ∙ ap (λ n. is_sooner n c.args.limits.limit) same in
    composed_shown c.args.goal c.args.position.now c.args.options c.args.limits r c.is_sooner-sooner.result c.in_ok-composed_of-in-Mate.field-0 c.on-root.ensures.lists
    c.on-root.ensures.goal (c.on-root.ensures.position ∙ c.of.ensures) solved.0 (subst (λ n. n ≤ c.args.limits.limit) same solved.1.0)
    (subst (λ n. IsFewest c.args.goal c.args.position.now n) same solved.1.1) sooner c.in_ok-composed_of-in-Mate.ensures
