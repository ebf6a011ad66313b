use Rattle.std.proofs.Common.{rules}
use Rattle.refusals.specs.Outcome.{IsSoundText}
use Rattle.verdicts.proofs.VerdictLemmas.{verdict_at, verdict_fault}
use Rattle.verdicts.proofs.certified.verified.Goals as goal

pub returns-in_err-position-clause-given : goal.returns-in_err-position-clause-given
returns-in_err-position-clause-given g c = verdict_fault _ c.args.subject.now _ _ c.in_err-position.field-0.0 c.in_err-position.ensures.fault c.from_residual.ensures

pub returns-clause-given : goal.returns-clause-given
returns-clause-given g c =
    let sound : IsSoundText c.args.subject.now.fen.now c.in_ok-position.position = search rules in
    verdict_at _ c.args.subject.now _ _ _ sound c.verified_at.ensures.shown
