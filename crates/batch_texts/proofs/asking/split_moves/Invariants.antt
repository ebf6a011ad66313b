-- The line says none of the moves so far.
use Rattle.std.proofs.Common.{List, ℕ, ◌<◌}
use Rattle.batch_texts.specs.Asking.{SaysMoves}
use Rattle.batch_texts.proofs.asking.split_moves.Given as goal

abbrev pub invariant-loop-moves : goal.invariant-loop-moves
invariant-loop-moves l = (fen : List ℕ) (m : ℕ) → m < l.moves-counter → SaysMoves l.said fen m → ⊥
