-- What the mover's king asks of each move.
use Rattle.std.specs.Prelude.{◌≡◌, ◌↔◌, ℕ, IsTrue, Some, false}
use Rattle.board.specs.declared.game.Kind.TheVariants.{King}
use Rattle.board.specs.declared.game.Unit.{Unit as Man}
use Rattle.board.specs.Board.{PlainBoard}
use Rattle.moves.specs.declared.board_list.Guard.{Guard}
use Rattle.rules.specs.Squares.{Ply, unit_at}
use Rattle.board.specs.Games.{other_side}
use Rattle.rules.specs.Reach.{AttacksFrom, IsInCheck}
use Rattle.rules.specs.Moves.{IsPseudoLegal, after}
use Rattle.cells.specs.Mailbox.{cell_of, place_in, IsCell}
use Rattle.moves.specs.Looking.{AreAttacked}
use Rattle.moves.specs.Pinned.{IsPinned}
use Rattle.cells.specs.CellSets.{Has}

-- a unit other than the king, that moves and leaves the king out of check, comes to a cell of the set
abbrev pub HasBlocks : PlainBoard → ℕ → Type 0
HasBlocks b set = (m : Ply) (u : Man) → IsPseudoLegal b m u → (u.kind ≡ King → ⊥) → (IsInCheck (after b m u) b.mover → ⊥) → Has set (cell_of m.to)

-- the guard tells the cell of the mover's king, the cells that the other side attacks, whether the king is in check, where not, which cells have units that are pinned to it, which cells other units must come to, and to which a rider would come through the king's cell
pub record Guards (b : PlainBoard) (guard : Guard) : Type 0 where
  pub cell : IsCell b.game guard.king
  pub king : unit_at b (place_in guard.king) ≡ Some (record { side = b.mover; kind = King })
  pub attacked : AreAttacked b (other_side b.mover) guard.attacked
  pub checked : IsTrue guard.checked ↔ IsInCheck b b.mover
  pub pins : guard.checked ≡ false → (i : ℕ) → IsCell b.game i → IsPinned b b.mover (place_in guard.king) (place_in i) → Has guard.pins i
  pub blocks : HasBlocks b guard.blocks
  pub shadow : (i : ℕ) → IsCell b.game i → IsPinned b b.mover (place_in i) (place_in guard.king) → Has guard.shadow i

-- the set has the cells of the units that check the mover's king, which stands in the cell
abbrev pub Checkers : PlainBoard → ℕ → ℕ → Type 0
Checkers b king set = (i : ℕ) → Has set i ↔ (IsCell b.game i × AttacksFrom b (other_side b.mover) (place_in i) (place_in king))
