use Rattle.std.proofs.Common.{rules}
use Rattle.refusals.specs.Outcome.{IsSoundText}
use Rattle.composing.proofs.CertifyLemmas.{begins_position}
use Rattle.composing.proofs.certificate.begin.Goals as goal

pub returns : goal.returns
returns g c =
    let sound : IsSoundText c.args.subject.now.fen.now c.in_ok-position.position = search rules in
    begins_position c.args.subject.now c.args.limits c.in_ok-position.position c.begin_at.result sound c.begin_at.ensures
