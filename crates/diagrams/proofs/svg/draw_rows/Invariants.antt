-- The rows so far are drawn.
use Rattle.std.proofs.Common.{◌≡◌, ◌++◌, string_bytes}
use Rattle.std.specs.List.{flat_map, range_with_len}
use Rattle.diagrams.specs.Pictures.{view_of, row_picture}
use Rattle.diagrams.proofs.svg.draw_rows.Given as goal

abbrev pub invariant-loop-row : goal.invariant-loop-row
invariant-loop-row l = string_bytes l.text ≡ string_bytes l.initial.text ++ flat_map (row_picture (view_of l.diagram)) (range_with_len 0 l.row)
