use Rattle.refusals.specs.Sentences.{AppendsText}
use Rattle.refusals.proofs.sentence.write_escaped.Given as goal

abbrev pub invariant-loop : goal.invariant-loop
invariant-loop g l = AppendsText (g.E.Write.contents l.fn.errors) (g.E.Write.contents l.errors)
