-- The pointers and their parts own what a box at the same types owns.
use mir.Syntax.{impl, tnil, dnil}
use mathlib.Core.List.{[]}
use Rattle.std.proofs.Common.{◌≡◌, refl, true}
use Rattle.std.proofs.lemmas.Bool.{false≢true}
use Rattle.std.specs.Prelude.{Option, None, Some, is_some}
use Rattle.solver.specs.contracts.listening.StopSource as StopSource
use Rattle.solver.proofs.listening.StopSource.TheLaws as source
use Rattle.minimate_c.specs.contracts.stop_pointer.StopPointer as StopPointer
use denote.RattleType.{RattleType}
use denote.Signature.{Slot, plain}
use Rattle.std_alloc.proofs.BoxSteps.Form.{Bx}
use Rattle.std_heap.specs.contracts.Global as Heap
use Rattle.std_heap.specs.contracts.GlobalAllocator.TheImpl.{ghosts, dict}
use Rattle.std_heap.proofs.Global.TheLaws as heap
use Rattle.solver.specs.contracts.solver.Solver as Solver
use Rattle.solver.proofs.solver.Solver.TheLaws as solver
use Rattle.minimate_c.specs.contracts.parts.Parts as Parts
use Rattle.minimate_c.specs.contracts.solver_pointer.SolverPointer as SolverPointer

abbrev pub solver_box : Bx
solver_box = record { row = Solver.the_row; laws = solver.the_row_laws; al = record { row = Heap.the_row; laws = heap.the_row_laws; g = ghosts; d = dict; drops = impl [] tnil dnil } }

abbrev pub FromSolverParts : Slot 0
FromSolverParts = plain (λ _. Parts.the_row Solver.the_row Heap.the_row ghosts)

abbrev pub FromSolver : Slot 0
FromSolver = plain (λ _. SolverPointer.the_row)

abbrev pub From_row : RattleType
From_row = SolverPointer.the_row

abbrev pub stop_box : Bx
stop_box = record { row = StopSource.the_row; laws = source.the_row_laws; al = record { row = Heap.the_row; laws = heap.the_row_laws; g = ghosts; d = dict; drops = impl [] tnil dnil } }

abbrev pub FromStopParts : Slot 0
FromStopParts = plain (λ _. Parts.the_row StopSource.the_row Heap.the_row ghosts)

abbrev pub FromStop : Slot 0
FromStop = plain (λ _. StopPointer.the_row)

abbrev pub From_stop_row : RattleType
From_stop_row = StopPointer.the_row

-- where there is some value, this is it
pub some_if : {X : Type 0} (o : Option X) → is_some o ≡ true → (s : X) × (o ≡ Some s)
some_if None full = absurd (false≢true full)
some_if (Some s) full = (s, refl)
