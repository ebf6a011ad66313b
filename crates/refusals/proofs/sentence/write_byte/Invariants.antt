use Rattle.refusals.specs.Sentences.{AppendsText}
use Rattle.refusals.proofs.sentence.write_byte.Given as goal

abbrev pub invariant-loop-c : goal.invariant-loop-c
invariant-loop-c g l = AppendsText (g.E.Write.contents l.fn.errors) (g.E.Write.contents l.errors)
