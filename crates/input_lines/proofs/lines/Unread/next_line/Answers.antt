use Rattle.std.proofs.Common.{◌∙◌}
use Rattle.input_lines.specs.Lines.{left_of}
use Rattle.input_lines.proofs.LineLemmas.{reads_more, reads_last, reads_ended}
use Rattle.input_lines.proofs.lines.Unread.next_line.Goals as goal

pub returns-in_default-clause-takes : goal.returns-in_default-clause-takes
returns-in_default-clause-takes g c =
    reads_last (left_of c.args.self.now (g.S.Source.remaining c.args.reader.now)) (left_of c.loop.self (g.S.Source.remaining c.loop.reader))
    (left_of c.next_byte.new.self (g.S.Source.remaining c.next_byte.new.reader)) c.loop.held c.last.result c.loop.invariant.2
    (rw c.in_default.is at c.in_ok-byte.ensures.takes) c.last.ensures

pub returns-then-byte-eq10-clause-takes : goal.returns-then-byte-eq10-clause-takes
returns-then-byte-eq10-clause-takes g c =
    reads_ended (left_of c.args.self.now (g.S.Source.remaining c.args.reader.now)) (left_of c.loop.self (g.S.Source.remaining c.loop.reader))
    (left_of c.next_byte.new.self (g.S.Source.remaining c.next_byte.new.reader)) c.loop.held c.in-Some-2.byte c.in_ok-ended.field-0 c.if-byte-eq10.true c.loop.invariant.2
    (rw c.in-Some-2.is at c.in_ok-byte.ensures.takes) c.in_ok-ended.ensures

pub loop-preserved : goal.loop-preserved
loop-preserved g c = (
  c.next_byte.ensures.bounds,
  c.in_ok-byte.ensures.ok ∙ c.loop.invariant.1,
  reads_more (left_of c.args.self.now (g.S.Source.remaining c.args.reader.now)) (left_of c.loop.self (g.S.Source.remaining c.loop.reader))
      (left_of c.next_byte.new.self (g.S.Source.remaining c.next_byte.new.reader)) c.loop.held c.hold.new.self c.in-Some-2.byte c.if-byte-eq10.false c.loop.invariant.2
      (rw c.in-Some-2.is at c.in_ok-byte.ensures.takes) c.in_ok-hold.ensures,
)
