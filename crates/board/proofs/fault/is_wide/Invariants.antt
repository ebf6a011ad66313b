use Rattle.std.proofs.Common.{◌≡◌, ◌≤◌, take}
use Rattle.board.specs.FenFaults.{row_width}
use Rattle.board.proofs.fault.is_wide.Given as goal

abbrev pub invariant-loop-c : goal.invariant-loop-c
invariant-loop-c l = (l.squares ≡ row_width (take l.c-index l.row)) × (l.squares ≤ l.width)
