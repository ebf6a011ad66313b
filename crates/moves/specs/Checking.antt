-- Which moves may give check, and what a move brings about at once.
use Rattle.std.specs.Prelude.{◌≡◌, ◌≢◌, ℕ, Some, IfSome, MatchOption}
use Rattle.board.specs.declared.game.Kind.TheVariants.{King, Knight}
use Rattle.board.specs.declared.game.Unit.{Unit as Man}
use Rattle.board.specs.Games.{other_side}
use Rattle.board.specs.Board.{PlainBoard}
use Rattle.moves.specs.declared.at_once.Quest.{Quest}
use Rattle.moves.specs.declared.checks.CheckInfo.{CheckInfo}
use Rattle.rules.specs.declared.goal.Goal.{Goal}
use Rattle.rules.specs.Squares.{Ply, unit_at}
use Rattle.rules.specs.Reach.{IsInCheck}
use Rattle.rules.specs.Moves.{IsMove}
use Rattle.rules.specs.Forces.{IsReached}
use Rattle.cells.specs.Mailbox.{place_in, IsCell}
use Rattle.moves.specs.Guard.{Guards}
use Rattle.moves.specs.Looking.{Aims}
use Rattle.moves.specs.Pinned.{IsPinned}
use Rattle.cells.specs.CellSets.{Has}
use Rattle.moves.specs.Safe.{IsCalm}
use Rattle.moves.specs.Targets.{IsTarget}

-- the info tells the cell of the other king, which isn't attacked, which cells have units that alone keep a rider of the mover from it, cells to which it steps calmly, and which cells a knight of the mover would reach from there
pub record IsCheckInfo (b : PlainBoard) (info : CheckInfo) : Type 0 where
  pub cell : IsCell b.game info.king
  pub king : unit_at b (place_in info.king) ≡ Some (record { side = other_side b.mover; kind = King })
  pub safe : IsInCheck b (other_side b.mover) → ⊥
  pub uncovers : (i : ℕ) → IsCell b.game i → IsPinned b (other_side b.mover) (place_in info.king) (place_in i) → Has info.uncovers i
  pub steps : (i : ℕ) → Has info.steps i → IsTarget b (record { side = other_side b.mover; kind = King }) (place_in info.king) i × IsCalm b (place_in i) (other_side b.mover)
  pub leaps : (i : ℕ) → IsTarget b (record { side = b.mover; kind = Knight }) (place_in info.king) i → Has info.leaps i

-- the lawful move brings the other side where the goal wants it
pub record Attains (goal : Goal) (b : PlainBoard) (m : Ply) : Type 0 where
  pub next : PlainBoard
  pub move : IsMove b m next
  pub reached : IsReached goal next

-- a guard is of the mover's king, and where there is none, the other king isn't attacked
pub record Seeks (b : PlainBoard) (quest : Quest) : Type 0 where
  pub guards : MatchOption quest.guard (IsInCheck b (other_side b.mover) → ⊥) (Guards b)
  pub known : IfSome quest.info (IsCheckInfo b)

-- another cell, on which the unit wouldn't take from the first, whatever else stands on the board
pub record IsUnseen (b : PlainBoard) (u : Man) (to i : ℕ) : Type 0 where
  pub other : i ≢ to
  pub unseen : (c : PlainBoard) → c.game ≡ b.game → IsCell b.game i → Aims c u (place_in to) (place_in i) → ⊥
