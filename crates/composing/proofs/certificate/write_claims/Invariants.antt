-- lines of claims were written, the checker has taken them, and nothing has failed
use Rattle.composing.specs.Claims.{AddsClaims, writing_of}
use Rattle.composing.proofs.certificate.write_claims.Given as goal

abbrev pub invariant-loop : goal.invariant-loop
invariant-loop g l = AddsClaims l.fn.certificate.checker l.certificate.checker (writing_of g.K.Sink.contents g.K.Sink.failures l.fn.writer l.writer)
