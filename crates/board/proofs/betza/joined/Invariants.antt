use Rattle.std.proofs.Common.{◌≡◌, ◌++◌, take}
use Rattle.board.specs.Denotation.{AreDistinct}
use Rattle.board.proofs.betza.joined.Given as goal

abbrev pub invariant-loop-term : goal.invariant-loop-term
invariant-loop-term l = (l.terms.items ≡ l.initial.terms.items ++ take l.term-index l.word) × AreDistinct l.terms.items
