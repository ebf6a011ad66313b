use Rattle.moves.proofs.Gathering.{IsGathered}
use Rattle.moves.proofs.board_list.list_lawful.Given as given

-- the moves of the units so far are listed
abbrev pub invariant-units : given.invariant-units
invariant-units l = IsGathered l.board l.left l.moves.items

-- each turn takes the lowest cell away
abbrev pub decreases-units : given.decreases-units
decreases-units l = l.left
