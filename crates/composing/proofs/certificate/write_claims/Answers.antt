use Rattle.std.proofs.Common.{arith}
use Rattle.composing.proofs.CertifyLemmas.{adds_none, adds_more, all_more, still_taken, stops_more}
use Rattle.composing.proofs.certificate.write_claims.Goals as goal

pub loop-init : goal.loop-init
loop-init g c = adds_none c.args.certificate.now.checker (g.K.Sink.contents c.args.writer.now) (g.K.Sink.failures c.args.writer.now)

pub write_next-requires-clause-begun : goal.write_next-requires-clause-begun
write_next-requires-clause-begun g c = still_taken c.args.certificate.now.checker c.loop.certificate.checker _ c.requires.begun c.loop.invariant

pub write_next-requires-clause-writes : goal.write_next-requires-clause-writes
write_next-requires-clause-writes g c = omega (arith, c.requires.writes, c.loop.invariant.1.1)

pub loop-preserved : goal.loop-preserved
loop-preserved g c = adds_more _ _ _ _ _ _ c.args.certificate.now.checker c.loop.certificate.checker c.write_next.new.certificate.checker c.loop.invariant (rw c.in-Ok-true.field-0-test at c.in-Ok-true.ensures)

pub returns-in-Ok-false : goal.returns-in-Ok-false
returns-in-Ok-false g c = all_more _ _ _ _ _ _ c.args.certificate.now.checker c.loop.certificate.checker c.loop.invariant (rw c.in-Ok-false.field-0-test at c.in-Ok-false.ensures)

pub returns-in-Err : goal.returns-in-Err
returns-in-Err g c = stops_more _ _ _ _ _ _ c.args.certificate.now.checker c.loop.certificate.checker c.write_next.new.certificate.certificate c.in-Err.cut c.loop.invariant c.in-Err.ensures

pub returns : goal.returns
returns g c = (c.loop.invariant.0, c.loop.invariant.1)
