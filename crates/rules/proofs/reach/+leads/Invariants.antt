use Rattle.rules.proofs.Rides.{room_of}
use Rattle.rules.proofs.reach.+leads.Given as goal

abbrev pub decreases-leads : goal.decreases-leads
decreases-leads l = room_of l.side l.step.now l.from
