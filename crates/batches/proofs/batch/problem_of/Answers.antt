use Rattle.std.proofs.Common.{◌≡◌, rules, inl, refl, Some}
use Rattle.refusals.specs.Outcome.{IsSoundText}
use Rattle.context.specs.Limits.{fault_of}
use Rattle.searcher.specs.declared.fault.SolveFault.TheVariants.{Limit}
use Rattle.batches.specs.BatchRun.{asked_limits}
use Rattle.batches.proofs.batch.problem_of.Goals as goal

pub returns-in-None : goal.returns-in-None
returns-in-None c =
    let sound : IsSoundText c.args.asked.now.fen.now c.in_ok-position.position = search rules in
    let refused : fault_of (asked_limits c.args.batch.now c.args.asked.now) ≡ Some Limit = search rules in
    inl (c.in_ok-position.position, sound, (Limit, refused, refl))
