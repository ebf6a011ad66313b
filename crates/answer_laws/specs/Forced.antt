-- Laws of what is forced.
use Rattle.std.specs.Prelude.{◌≡◌, ℕ, ◌+◌, ◌*◌, ◌↔◌, true}
use Rattle.board.specs.declared.game.Side.{Side}
use Rattle.board.specs.Games.{is_same_side}
use Rattle.board.specs.Board.{PlainBoard}
use Rattle.rules.specs.declared.goal.Goal.{Goal}
use Rattle.rules.specs.Forces.{Forces}

-- what is forced within n plies is forced within n + 1
abbrev pub StaysForced : Type 0
StaysForced = (goal : Goal) (attacker : Side) (b : PlainBoard) (n : ℕ) → Forces goal attacker b n → Forces goal attacker b (n + 1)

-- with the attacker to move, an even number of plies from 2 on forces what the odd number below it forces
abbrev pub EvenEqualsOdd : Type 0
EvenEqualsOdd = (goal : Goal) (attacker : Side) (b : PlainBoard) (k : ℕ) → is_same_side attacker b.mover ≡ true → Forces goal attacker b (2 * k + 2) ↔ Forces goal attacker b (2 * k + 1)
