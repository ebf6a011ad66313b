use Rattle.refusals.specs.Sentences.{AppendsText}
use Rattle.refusals.proofs.sentence.write_moves.Given as goal

abbrev pub invariant-loop-m : goal.invariant-loop-m
invariant-loop-m g l = AppendsText (g.E.Write.contents l.fn.errors) (g.E.Write.contents l.errors)
