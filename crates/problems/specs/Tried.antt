-- What the moves that were tried tell of a question.
use Rattle.std.specs.Prelude.{◌≡◌, ◌≢◌, ◌-◌, ◌↔◌, ℕ, Bool, true, false, List, All, Contains}
use Rattle.board.specs.Games.{is_same_side}
use Rattle.board.specs.Board.{PlainBoard}
use Rattle.rules.specs.Squares.{Ply}
use Rattle.rules.specs.Moves.{IsMove, IsLawful}
use Rattle.problems.specs.declared.question.Question.{Question}
use Rattle.problems.specs.Questions.{question, IsForced}

-- the list has each lawful move, and no other
abbrev pub ListsAll : PlainBoard → List Ply → Type 0
ListsAll b moves = (m : Ply) → Contains moves m ↔ IsLawful b m

-- whether the attacker is to move
abbrev pub is_own : Question → Bool
is_own q = is_same_side q.attacker q.position.mover

-- what an answer says that doesn't end the search: no on the attacker's turn, yes on the defender's
abbrev pub Goes : Bool → Type 0 → Type 0
Goes true P = P → ⊥
Goes false P = P

-- what an answer says that ends it
abbrev pub IsAsSaid : Bool → Type 0 → Type 0
IsAsSaid true P = P
IsAsSaid false P = P → ⊥

-- the position after the move didn't end the search
abbrev pub IsPassed : Question → ℕ → Bool → Ply → Type 0
IsPassed q n own m = (b : PlainBoard) → IsMove q.position m b → Goes own (IsForced (question b q.attacker q.goal) n)

-- the position after some move ended it
abbrev pub IsCut : Question → ℕ → Bool → Type 0
IsCut q n own = (m : Ply) × (b : PlainBoard) × IsMove q.position m b × IsAsSaid own (IsForced (question b q.attacker q.goal) n)

-- what the moves that were tried tell of n plies: one ended the search, or none did
pub record TellsOfTried (q : Question) (n : ℕ) (moves : List Ply) (answer : Bool) : Type 0 where
  pub cut : answer ≡ is_own q → IsCut q (n - 1) answer
  pub passed : answer ≢ is_own q → All (IsPassed q (n - 1) (is_own q)) moves
