use Rattle.std.proofs.Common.{◌≢◌, All, take}
use Rattle.board.proofs.betza.has_atom.Given as goal

-- no term so far has the atom
abbrev pub invariant-loop-term : goal.invariant-loop-term
invariant-loop-term l = All (λ t. t.atom ≢ l.atom) (take l.term-index l.terms)
