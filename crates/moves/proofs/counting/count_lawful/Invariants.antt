use Rattle.moves.proofs.Gathering.{IsTallied}
use Rattle.moves.proofs.counting.count_lawful.Given as given

-- the moves of the units so far are counted
abbrev pub invariant-units : given.invariant-units
invariant-units l = IsTallied l.board l.left l.count

-- each turn takes the lowest cell away
abbrev pub decreases-units : given.decreases-units
decreases-units l = l.left
