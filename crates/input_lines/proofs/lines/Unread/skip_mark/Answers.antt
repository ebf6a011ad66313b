use Rattle.std.proofs.Common.{rules}
use Rattle.input_lines.specs.Lines.{left_of}
use Rattle.input_lines.proofs.MarkLemmas.{none_left}
use Rattle.input_lines.proofs.lines.Unread.skip_mark.Goals as goal

pub returns-then-not-branch-clause-empty : goal.returns-then-not-branch-clause-empty
returns-then-not-branch-clause-empty g c = λ first.
    none_left (left_of c.args.self.now (g.S.Source.remaining c.args.reader.now)) (g.S.Source.remaining c.reading.reader) c.reading.self
    c.reading.invariant.left (search rules) (search rules)
