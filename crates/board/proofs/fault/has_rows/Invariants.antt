use Rattle.std.proofs.Common.{◌≡◌, ◌≤◌, All, take, length}
use Rattle.board.specs.FenFaults.{rows, row_width}
use Rattle.board.proofs.fault.has_rows.Given as goal

-- the rows so far are that wide
abbrev pub invariant-loop-row : goal.invariant-loop-row
invariant-loop-row l = (l.count ≡ length l.yielded) × (l.count ≤ l.width) × All (λ row. row_width row ≡ l.width) (take l.count (rows l.board))
