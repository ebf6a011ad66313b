use Rattle.minimate_c.specs.Written.{KeysTold}
use Rattle.minimate_c.proofs.WritingLemmas.{are_written}
use Rattle.minimate_c.proofs.living.minimate_solver_keys.Goals as goal

pub returns : goal.returns
returns c =
    are_written KeysTold c.args.fen.now c.args.stale c.args.limit c.args.room.now c.args.solver.now.held.value c.told_by-told.new.handle.held.value
    c.told_by-told.result c.put.result c.put.new.room c.put.new.length c.told_by-told.ensures c.put.ensures
