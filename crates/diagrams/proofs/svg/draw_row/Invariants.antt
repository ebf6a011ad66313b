-- The squares so far are drawn.
use Rattle.std.proofs.Common.{◌≡◌, ◌++◌, string_bytes}
use Rattle.std.specs.List.{flat_map, range_with_len}
use Rattle.diagrams.specs.Pictures.{view_of, square_picture}
use Rattle.diagrams.proofs.svg.draw_row.Given as goal

abbrev pub invariant-loop-column : goal.invariant-loop-column
invariant-loop-column l = string_bytes l.text ≡ string_bytes l.initial.text ++ flat_map (square_picture (view_of l.diagram) l.row) (range_with_len 0 l.column)
