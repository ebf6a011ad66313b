-- Nothing is used yet: all that was left is left, and no read has failed.
use Rattle.std.proofs.Common.{◌≡◌, ◌-◌, IfSome, Some, length}
use Rattle.input_lines.specs.Lines.{IsUnread, left_of}
use Rattle.input_lines.proofs.lines.Unread.skip_mark.Given as goal

abbrev pub invariant-reading : goal.invariant-reading
invariant-reading g l = record {
  first : l.self.from ≡ 0;
  bounds : IsUnread l.self;
  size : length l.self.chunk ≡ 4096;
  reads : g.S.Source.failures l.reader ≡ g.S.Source.failures l.fn.reader;
  left : IfSome (left_of l.fn.self (g.S.Source.remaining l.fn.reader)) (λ xs. left_of l.self (g.S.Source.remaining l.reader) ≡ Some xs);
}

abbrev pub decreases-reading : goal.decreases-reading
decreases-reading g l = 3 - l.self.to
