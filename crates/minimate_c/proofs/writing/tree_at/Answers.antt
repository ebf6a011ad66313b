use Rattle.std.proofs.Common.{ap, subst}
use Rattle.refusals.specs.Reply.{Reply}
use Rattle.problems.specs.Answer.{IsAnswer}
use Rattle.minimate_c.proofs.WritingLemmas.{none_tells, tree_tells}
use Rattle.minimate_c.proofs.writing.tree_at.Goals as goal

pub returns-in_ok-text-in-Some-Mate-clause-told : goal.returns-in_ok-text-in-Some-Mate-clause-told
returns-in_ok-text-in-Some-Mate-clause-told c =
    let right = subst (IsAnswer c.args.problem.now.goal c.args.problem.now.position c.args.problem.now.limit) c.in-Some-Mate.field-0-is c.in-Some-Mate.ensures.answer in
    tree_tells c.args.problem.now.goal c.args.problem.now.position c.args.problem.now.limit c.in-Some-Mate.plies c.in_ok-tree-in-Some-Mate.tree c.in_ok-text-in-Some-Mate.text.items
    right.0 right.1 c.in_ok-tree-in-Some-Mate.ensures.best c.in_ok-text-in-Some-Mate.ensures

pub returns-in-Ok-clause-told : goal.returns-in-Ok-clause-told
returns-in-Ok-clause-told c =
    let right = subst (IsAnswer c.args.problem.now.goal c.args.problem.now.position c.args.problem.now.limit) c.in-Some-NoneWithin.field-0-is c.in-Some-NoneWithin.ensures.answer in
    none_tells c.args.problem.now.goal c.args.problem.now.position c.args.problem.now.limit c.in-Some-NoneWithin.limit c.in-Ok.text.items right.0 right.1
    (ap (λ (reply : Reply). reply.text) c.in-Ok.ensures)
