use Rattle.std.proofs.Common.{arith}
use Rattle.input_lines.specs.Lines.{left_of}
use Rattle.input_lines.proofs.WithinLemmas.{long_so_far}
use Rattle.input_lines.proofs.lines.Unread.next_line_within.Goals as goal

pub returns-clause-long : goal.returns-clause-long
returns-clause-long g c = λ _.
    long_so_far c.args.most (left_of c.args.self.now (g.S.Source.remaining c.args.reader.now)) (left_of c.reading.self (g.S.Source.remaining c.reading.reader))
    c.reading.line.items c.reading.invariant.2 (omega (arith, c.reading-test.false))
