use Rattle.std.proofs.Common.{◌≡◌, List, length, MatchOption}
use Rattle.board.proofs.Common.{IfSome, Term, AreDistinct}
use Rattle.board.proofs.WordByWord.{IsReadTo}
use Rattle.board.proofs.betza.read_terms.Given as goal

abbrev pub invariant-loop-rest : goal.invariant-loop-rest
invariant-loop-rest l = (all : List Term) × IsReadTo l.text l.rest all × MatchOption l.terms (AreDistinct all → ⊥) (λ kept. kept.items ≡ all) × IfSome l.terms (λ kept. AreDistinct kept.items)

abbrev pub decreases-loop-rest : goal.decreases-loop-rest
decreases-loop-rest l = length l.rest
