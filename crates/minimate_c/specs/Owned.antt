-- What the pointers own: what a box owns, or nothing.
use Rattle.std.specs.Prelude.{Option, None, Some}
use base.Fml.{Fml, ftrue}
use base.Stored.{Coded}
use denote.RawPtr.{Ptr}
use Rattle.std.specs.Coded.{coded_option}
use Rattle.std.specs.Box.Ownership.{box_owns}
use Rattle.std.specs.Global.{Global}
use Rattle.std_heap.specs.contracts.GlobalAllocator.TheImpl.{ghosts}
use Rattle.solver.specs.contracts.solver.Solver as solver
use Rattle.solver.specs.contracts.listening.StopSource as stop

-- a solver, or nothing
abbrev pub solver_owns : Global → Ptr → Option solver.the_row.Denot → Fml
solver_owns alloc p None = ftrue
solver_owns alloc p (Some s) = box_owns (ghosts.dealloc_token alloc) solver.the_row p s

abbrev pub solver_coded : Coded (Option solver.the_row.Denot)
solver_coded = coded_option solver.the_row.coded

-- what stops one, or nothing
abbrev pub stop_owns : Global → Ptr → Option stop.the_row.Denot → Fml
stop_owns alloc p None = ftrue
stop_owns alloc p (Some s) = box_owns (ghosts.dealloc_token alloc) stop.the_row p s

abbrev pub stop_coded : Coded (Option stop.the_row.Denot)
stop_coded = coded_option stop.the_row.coded
