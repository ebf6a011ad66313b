use Rattle.std.proofs.Common.{arith}
use Rattle.devices.proofs.DeviceLemmas.{gave_too_many}
use Rattle.devices.proofs.transfer.read_all.Goals as goal

pub returns-clause-too_long : goal.returns-clause-too_long
returns-clause-too_long g c = λ _. gave_too_many c.args.most _ _ c.reading.bytes.items c.reading.invariant.0 (omega (arith, c.reading-test.false))
