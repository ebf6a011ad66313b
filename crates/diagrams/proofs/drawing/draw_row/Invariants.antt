-- The squares so far are drawn.
use Rattle.std.proofs.Common.{◌≡◌, ◌++◌, string_bytes}
use Rattle.std.specs.List.{flat_map, range_with_len}
use Rattle.diagrams.specs.Drawing.{square_drawn}
use Rattle.diagrams.proofs.drawing.draw_row.Given as goal

abbrev pub invariant-loop-column : goal.invariant-loop-column
invariant-loop-column l = string_bytes l.text ≡ string_bytes l.initial.text ++ flat_map (square_drawn l.view.style l.view.below l.view.position.now l.row) (range_with_len 0 l.column)
