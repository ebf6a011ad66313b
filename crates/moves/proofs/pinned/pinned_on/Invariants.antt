use Rattle.moves.proofs.Common.{All, take, Way}
use Rattle.moves.specs.Pinned.{HoldsPins}
use Rattle.moves.proofs.pinned.pinned_on.Given as given

-- the set has what is pinned along the ways so far
abbrev pub invariant-loop-way : given.invariant-loop-way
invariant-loop-way l = All (λ (way : Way). HoldsPins l.board l.riders l.cell l.set way) (take l.way-index l.ways)
