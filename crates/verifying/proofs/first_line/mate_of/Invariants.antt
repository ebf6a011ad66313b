use Rattle.std.proofs.Common.{◌≢◌, ◌<◌, ◌++◌, ◌∷◌, ℕ}
use Rattle.verifying.proofs.Common.{decimal, move_text, Ply, IsOdd, IsPly}
use Rattle.verifying.proofs.first_line.mate_of.Given as goal

-- the text is of no mate in fewer plies
abbrev pub invariant-loop-plies : goal.invariant-loop-plies
invariant-loop-plies l = (n : ℕ) → n < l.plies → (m : Ply) → IsOdd n → IsPly m → l.text ≢ decimal n ++ 32 ∷ move_text m
