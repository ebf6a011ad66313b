use Rattle.std.proofs.Common.{◌≡◌, ℕ, ◌-◌, subst, ◌∙◌, arith}
use Rattle.solutions.proofs.Common.{PlainBoard, Goal, IsMove, IsLawful, ForcesNothing, IsAnswer}
use Rattle.problems.specs.declared.answer.Answer.TheVariants.{Mate}
use Rattle.solutions.proofs.Forcing.{nothing_found}
use Rattle.solutions.proofs.Changes.{none_unsound, none_unlawful, none_forced_there, first_there}
use Rattle.solutions.proofs.changing.set_move_of.Goals as goal

pub returns-in_default-clause-found : goal.returns-in_default-clause-found
returns-in_default-clause-found g c = none_unsound c.args.goal c.args.board.now c.args.plies c.args.reply c.in_default.ensures

pub returns-in_default-after_if_lawful-clause-found : goal.returns-in_default-after_if_lawful-clause-found
returns-in_default-after_if_lawful-clause-found g c =
    none_unlawful c.args.goal c.args.board.now c.args.plies c.args.reply (subst (λ (x : PlainBoard). IsLawful x c.args.reply → ⊥) c.in-Some.ensures.0 c.in_default-after_if_lawful.ensures)

pub returns-in-NoneWithin-clause-found : goal.returns-in-NoneWithin-clause-found
returns-in-NoneWithin-clause-found g c =
    let r = c.on-root.result in
    let move = subst (λ (x : PlainBoard). IsMove x c.args.reply c.in-Some-after_if_lawful.next) c.in-Some.ensures.0 c.in-Some-after_if_lawful.ensures in
    let limited : r.limit ≡ c.args.plies - 2 = omega (arith, c.on-root.ensures.limit, c.saturating_sub.ensures) in
    let nothing = subst (λ (at : Goal × PlainBoard × ℕ). ForcesNothing at.0 at.1 at.2) (λ i. (c.on-root.ensures.goal i, c.on-root.ensures.position i, limited i))
    (nothing_found r.goal r.board r.limit c.in_ok-solve_by.field-0 c.in-NoneWithin.field-0 c.in-NoneWithin.is c.in_ok-solve_by.ensures.answer) in
    none_forced_there c.args.goal c.args.board.now c.args.plies c.args.reply c.in-Some-after_if_lawful.next move nothing

pub returns-in-Mate-clause-found : goal.returns-in-Mate-clause-found
returns-in-Mate-clause-found g c =
    let r = c.on-root.result in
    let move = subst (λ (x : PlainBoard). IsMove x c.args.reply c.in-Some-after_if_lawful.next) c.in-Some.ensures.0 c.in-Some-after_if_lawful.ensures in
    let limited : r.limit ≡ c.args.plies - 2 = omega (arith, c.on-root.ensures.limit, c.saturating_sub.ensures) in
    let found = subst (λ (at : Goal × PlainBoard × ℕ). IsAnswer at.0 at.1 at.2 (Mate c.in-Mate.plies c.in-Mate.first)) (λ i. (c.on-root.ensures.goal i, c.on-root.ensures.position i, limited i))
    (subst (IsAnswer r.goal r.board r.limit) c.in-Mate.is c.in_ok-solve_by.ensures.answer) in
    first_there c.args.goal c.args.board.now c.args.plies c.args.reply c.in-Some-after_if_lawful.next c.copied.result c.in-Mate.plies c.in-Mate.first move c.in-Some.ensures.1 (c.copied.ensures ∙ c.on-root.ensures.position) found.0 found.1 found.2
