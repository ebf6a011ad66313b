-- The bytes so far are those that are gone, and are held as a line without a feed.
use Rattle.std.proofs.Common.{◌≡◌}
use Rattle.input_lines.specs.Lines.{IsUnread, left_of}
use Rattle.input_lines.proofs.LineLemmas.{Reads}
use Rattle.input_lines.proofs.lines.Unread.next_line.Given as goal

abbrev pub invariant-loop : goal.invariant-loop
invariant-loop g l =
    IsUnread l.self × (g.S.Source.failures l.reader ≡ g.S.Source.failures l.fn.reader)
    × Reads (left_of l.fn.self (g.S.Source.remaining l.fn.reader)) (left_of l.self (g.S.Source.remaining l.reader)) l.held
