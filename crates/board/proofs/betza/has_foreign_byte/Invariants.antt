use Rattle.std.proofs.Common.{ℕ, ◌<◌, get_or}
use Rattle.board.specs.Notation.{IsLetter}
use Rattle.board.proofs.betza.has_foreign_byte.Given as goal

abbrev pub invariant-loop-c : goal.invariant-loop-c
invariant-loop-c l = (k d : ℕ) → k < l.c-index → IsLetter (get_or l.text k d)
