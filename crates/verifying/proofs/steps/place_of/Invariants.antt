use Rattle.std.proofs.Common.{◌≡◌, ◌<◌, ℕ, get_or}
use Rattle.verifying.proofs.steps.place_of.Given as goal

-- no move so far is the one that is wanted
abbrev pub invariant-loop-at : goal.invariant-loop-at
invariant-loop-at l = (k : ℕ) → k < l.at → get_or l.moves k l.first ≡ l.first → ⊥
