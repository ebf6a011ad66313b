use Rattle.minimate_c.proofs.StopLemmas.{is_looked, nothing_looked}
use Rattle.minimate_c.proofs.living.minimate_stop_place.Goals as goal

pub returns-in_default : goal.returns-in_default
returns-in_default c = nothing_looked c.args.stop.now.held.value c.take.new.self.held.value c.args.place.now c.in_default.ensures.taken.1

pub returns : goal.returns
returns c =
    is_looked c.args.stop.now.held.value c.put.new.self.held.value c.in-Some.source.value c.args.place.now c.place.result
    c.in-Some.ensures.taken.1 c.put.ensures.put c.place.ensures
