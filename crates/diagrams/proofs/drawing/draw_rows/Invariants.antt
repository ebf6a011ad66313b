-- The rows so far are drawn.
use Rattle.std.proofs.Common.{◌≡◌, ◌++◌, string_bytes}
use Rattle.std.specs.List.{flat_map, range_with_len}
use Rattle.diagrams.specs.Drawing.{row_drawn}
use Rattle.diagrams.proofs.drawing.draw_rows.Given as goal

abbrev pub invariant-loop-row : goal.invariant-loop-row
invariant-loop-row l = string_bytes l.text ≡ string_bytes l.initial.text ++ flat_map (row_drawn l.view.style l.view.below l.view.position.now) (range_with_len 0 l.row)
