use Rattle.minimate_c.specs.Written.{TreeTold}
use Rattle.minimate_c.proofs.WritingLemmas.{are_written}
use Rattle.minimate_c.proofs.living.minimate_solver_tree.Goals as goal

pub returns : goal.returns
returns c =
    are_written TreeTold c.args.fen.now c.args.stale c.args.limit c.args.room.now c.args.solver.now.held.value c.told_by-told.new.handle.held.value
    c.told_by-told.result c.put.result c.put.new.room c.put.new.length c.told_by-told.ensures c.put.ensures
