-- The bytes so far are those that are gone, and none is a feed.
use Rattle.std.proofs.Common.{◌≡◌, ◌-◌, ◌+◌, vec_len}
use Rattle.input_lines.specs.Lines.{IsUnread, left_of}
use Rattle.input_lines.proofs.WithinLemmas.{Gathers}
use Rattle.input_lines.proofs.lines.Unread.next_line_within.Given as goal

abbrev pub invariant-reading : goal.invariant-reading
invariant-reading g l =
    IsUnread l.self × (g.S.Source.failures l.reader ≡ g.S.Source.failures l.initial.reader)
    × Gathers (left_of l.initial.self (g.S.Source.remaining l.initial.reader)) (left_of l.self (g.S.Source.remaining l.reader)) l.line.items

abbrev pub decreases-reading : goal.decreases-reading
decreases-reading g l = l.most + 1 - vec_len l.line
