use mir.Raw.{raw}
use base.Shift.{Keyless}
use denote.RawPtr.{Ptr}
use Rattle.std.specs.Prelude.{Option, None, Some}
use Rattle.std.specs.Global.{Global}
use Rattle.minimate_c.specs.Owned.{solver_owns}
use denote.Memory.{lone}
use denote.Struct.Struct.{exits_of}
use denote.Struct.Owning.{shape, fields, to}
use denote.Param.Send.{IsSend, AllSend, owning_send, struct_send, sendable}
use Rattle.std.proofs.Crossing as heap
use Rattle.std_alloc.proofs.SendSync.{quiet, lies}
use Rattle.std_heap.proofs.Global.TheSendSync as handle
use Rattle.solver.specs.contracts.solver.Solver as Lent
use Rattle.solver.proofs.solver.Solver.TheSendSync.{the_send as lent}
use Rattle.minimate_c.specs.contracts.solver_pointer.SolverPointer.{the_row, the_type}

owned : (a : Global) (p : Ptr) (s : Option Lent.the_row.Denot) → Keyless (solver_owns a p s)
owned a p None = tt
owned a p (Some v) = (lies Lent.the_row lent p v, heap.frees.frees a (raw (lone Lent.the_row.mir)) p)

pub send : IsSend the_row
send =
    let all : AllSend (fields the_type) = (search sendable, (handle.the_field_send, tt)) in
    owning_send the_type all (λ d. owned d.alloc d.ptr d.value)
    (λ k. quiet (to the_type) (exits_of k (fields the_type)) ((struct_send (shape the_type) all).leaving k))
