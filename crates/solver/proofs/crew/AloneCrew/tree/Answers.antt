use Rattle.solver.proofs.Seats.{callers_back}
use Rattle.solver.proofs.crew.AloneCrew.tree.Goals as goal

pub invariant_of-table : goal.invariant_of-table
invariant_of-table g c =
    let table = c.solve.new.table in record {
      seated = callers_back table.slots table.seats.items c.take_last-own.new.self.items c.push_reserved.new.self.items c.take_last-own.result c.build_tree-tree.new.seat
          c.take_last-own.ensures.items c.push_reserved.ensures.items table.seated c.build_tree-tree.ensures.continues.seat;
    }
