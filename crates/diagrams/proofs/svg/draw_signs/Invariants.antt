-- The signs so far are drawn.
use Rattle.std.proofs.Common.{◌≡◌, ◌++◌, string_bytes}
use Rattle.std.specs.List.{flat_map, range_with_len}
use Rattle.diagrams.specs.Pictures.{view_of, signs_picture}
use Rattle.diagrams.proofs.svg.draw_signs.Given as goal

abbrev pub invariant-loop-n : goal.invariant-loop-n
invariant-loop-n l = string_bytes l.text ≡ string_bytes l.initial.text ++ flat_map (signs_picture (view_of l.diagram)) (range_with_len 0 l.n)
