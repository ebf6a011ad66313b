-- The lawful move of a name, and its number.
use Rattle.std.proofs.Common.{◌≡◌, ℕ, ◌<◌, ◌≤◌, arith, sym, subst, List, length, get_or, slice_get, None, Some}
use Rattle.std.proofs.lemmas.Option.{same_Some, get_or_from_slice_get}
use Rattle.board.specs.Board.{PlainBoard}
use Rattle.rules.specs.Squares.{Ply}
use Rattle.rules.specs.MoveText.{move_text}
use Rattle.rules.specs.Moves.{IsPly, IsLawful}
use Rattle.rules.specs.Order.{ListsLawful}
use Rattle.rules.proofs.Naming.{ply_of_lawful}
use Rattle.problems.specs.Roots.{IsJobOf}
use Rattle.problems.specs.declared.root.Root.{Root}
use Rattle.context.specs.Naming.{NamesNone}

none_is_some : (m : Ply) → None ≡ Some m → ⊥
none_is_some m e = cc

-- no lawful move has the name where no move has it
pub none_read : (b : PlainBoard) (name : List ℕ) → ((m : Ply) → IsPly m → move_text m ≡ name → None ≡ Some m) → NamesNone b name
none_read b name none m lawful is = none_is_some m (none m (ply_of_lawful b m lawful) is)

-- nor where the one that has it isn't lawful
pub not_lawful : (b : PlainBoard) (name : List ℕ) (named : Ply) → ((m : Ply) → IsPly m → move_text m ≡ name → Some named ≡ Some m) → (IsLawful b named → ⊥) → NamesNone b name
not_lawful b name named only unlawful m lawful is =
    unlawful (subst (IsLawful b) (sym (same_Some named m (only m (ply_of_lawful b m lawful) is))) lawful)

-- what isn't on the list of lawful moves isn't lawful
pub not_listed : (b : PlainBoard) (xs : List Ply) (job : ℕ) (m : Ply) → ListsLawful b xs → length xs ≤ job → ((k : ℕ) → k < job → get_or xs k m ≡ m → ⊥) → IsLawful b m → ⊥
not_listed b xs job m lists past none lawful = let there = (lists.exact m).1 lawful in none there.0 (omega (arith, there.1, past)) there.2

-- each move of a root is lawful
pub job_lawful : (r : Root) (job : ℕ) (m : Ply) → IsJobOf r job → slice_get r.moves.items job ≡ Some m → IsLawful r.board m
job_lawful r job m (lists, below) at = (lists.exact m).0 (job, below, get_or_from_slice_get r.moves.items job m m at)
