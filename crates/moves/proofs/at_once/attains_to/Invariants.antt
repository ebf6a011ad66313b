use Rattle.moves.proofs.Common.{◌<◌, ℕ, None, get_or, PROMOTIONS, Attains}
use Rattle.moves.proofs.at_once.attains_to.Given as given

-- no promotion so far attains the goal
abbrev pub invariant-loop-i : given.invariant-loop-i
invariant-loop-i l = (j : ℕ) → j < l.i → Attains l.quest.goal l.board (record { from = l.from; to = l.to; promotion = get_or PROMOTIONS j None }) → ⊥
