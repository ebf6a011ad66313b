use Rattle.moves.proofs.Common.{sym, ◌∙◌, false≢true}
use Rattle.moves.proofs.blocks.between.Goals as goal

pub returns-then-has : goal.returns-then-has
returns-then-has c = λ r j s. (c.along-line.ensures j).1 s

pub returns-else-has : goal.returns-else-has
returns-else-has c = λ r. absurd (false≢true (sym c.if-has.false ∙ c.has.ensures.1 ((c.along-line.ensures c.args.checker).1 r)))
