use Rattle.std.proofs.Common.{arith}
use Rattle.text_laws.proofs.trees.one_offset.Goals as goal

pub returns : goal.returns
returns c = λ bytes g h far other. omega (arith, far.longest h other.within other.begins, other.longest g far.within far.begins)
