use Rattle.std.proofs.Common.{ap, sym, ◌∙◌, Some}
use Rattle.minimate_c.proofs.StopLemmas.{is_set, nothing_set}
use Rattle.minimate_c.proofs.living.minimate_stop_set.Goals as goal

pub returns-in_default : goal.returns-in_default
returns-in_default c = nothing_set c.args.set c.args.stop.now.held.value c.take.new.self.held.value c.in_default.ensures.taken.1

pub returns : goal.returns
returns c =
    is_set c.args.set c.args.stop.now.held.value c.put.new.self.held.value c.deref_mut.result.now c.set_stop.new.source
    (c.in-Some.ensures.taken.1 ∙ ap Some (sym c.deref_mut.ensures.value)) c.put.ensures.put c.set_stop.ensures.shared c.set_stop.ensures.asks
