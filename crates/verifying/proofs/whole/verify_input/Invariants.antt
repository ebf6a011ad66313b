-- The checker has taken what is gone from the front of the input.
use Rattle.std.proofs.Common.{◌≡◌}
use Rattle.input_lines.specs.Lines.{IsUnread, left_of}
use Rattle.verifying.proofs.Inputs.{HasReadOf}
use Rattle.verifying.proofs.whole.verify_input.Given as goal

abbrev pub invariant-loop : goal.invariant-loop
invariant-loop g l = record {
  unread : IsUnread l.unread;
  failures : g.S.Source.failures l.reader ≡ g.S.Source.failures l.fn.reader;
  read : HasReadOf l.fn.goal l.board (g.S.Source.remaining l.fn.reader) (left_of l.unread (g.S.Source.remaining l.reader)) l.checker;
}
