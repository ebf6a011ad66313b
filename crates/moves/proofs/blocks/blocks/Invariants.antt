use Rattle.moves.proofs.Common.{All, take, Way, Has}
use Rattle.moves.proofs.Blocking.{HoldsBetween}
use Rattle.moves.proofs.blocks.blocks.Given as given

-- the set has the checker's cell, and the cells of the ways so far along which it comes
abbrev pub invariant-loop-way : given.invariant-loop-way
invariant-loop-way l = Has l.set l.checker × All (λ (way : Way). HoldsBetween l.board l.king l.checker l.set way) (take l.way-index l.way-items)
