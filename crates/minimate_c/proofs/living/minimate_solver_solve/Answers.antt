use Rattle.std.proofs.Common.{ap, sym, ◌∙◌, Some}
use Rattle.minimate_c.proofs.AskedLemmas.{of_held, of_none}
use Rattle.minimate_c.proofs.living.minimate_solver_solve.Goals as goal

pub returns-in_default : goal.returns-in_default
returns-in_default c = of_none c.args.fen.now c.args.stale c.args.limit c.args.solver.now.held.value c.take.new.self.held.value c.args.found.now c.in_default.ensures.taken.1

pub returns : goal.returns
returns c =
    of_held c.args.fen.now c.args.stale c.args.limit c.args.solver.now.held.value c.put.new.self.held.value c.deref_mut.result.now c.replied-result.new.solver c.args.found.now c.replied-result.result c.replied-result.new.found
    (c.in-Some.ensures.taken.1 ∙ ap Some (sym c.deref_mut.ensures.value)) c.put.ensures.put c.replied-result.ensures.hears c.replied-result.ensures.reply
