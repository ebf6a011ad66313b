-- the lines of the keys so far were written
use Rattle.composing.specs.Claims.{writing_of}
use Rattle.composing.specs.Parts.{WritesKeys}
use Rattle.composing.proofs.whole_form.write_keys.Given as goal

abbrev pub invariant-loop-key : goal.invariant-loop-key
invariant-loop-key g l = WritesKeys l.asked l.keys l.key-index (writing_of g.K.Sink.contents g.K.Sink.failures l.fn.writer l.writer)
