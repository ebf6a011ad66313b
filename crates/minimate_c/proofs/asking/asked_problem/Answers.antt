use Rattle.std.proofs.Common.{inl, inr, refl, subst}
use Rattle.problems.specs.Problems.{IsProblemOf}
use Rattle.minimate_c.proofs.asking.asked_problem.Goals as goal

pub returns-in_default-clause-why : goal.returns-in_default-clause-why
returns-in_default-clause-why c = inl (c.in_default.field-0, c.in_default.ensures.fault, refl)

pub returns-in-Some-clause-asked : goal.returns-in-Some-clause-asked
returns-in-Some-clause-asked c = (
  c.in-Ok.position,
  c.in-Ok.ensures.ok,
  subst (λ goal. IsProblemOf c.in-Ok.position goal c.args.asked.now.limit c.in-Some.problem) c.goal_of.ensures c.in-Some.ensures,
)

pub returns-in-None-clause-why : goal.returns-in-None-clause-why
returns-in-None-clause-why c = inr (c.in-None.ensures, refl)
