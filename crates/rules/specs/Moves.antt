-- Moves: what a move does to the board, and which moves are lawful.
use Rattle.std.specs.Prelude.{◌≡◌, ℕ, ◌+◌, ◌↔◌, Option, Some, None, IsSome, IfSome, unwrap_or, slice_set}
use Rattle.board.specs.declared.game.Game.{Game}
use Rattle.board.specs.declared.game.Game.TheVariants.{LosAlamos, Gardner}
use Rattle.board.specs.declared.game.Side.{Side}
use Rattle.board.specs.declared.game.Side.TheVariants.{White, Black}
use Rattle.board.specs.declared.game.Kind.{Kind}
use Rattle.board.specs.declared.game.Kind.TheVariants.{King, Queen, Rook, Bishop, Knight, Pawn}
use Rattle.board.specs.declared.game.Unit.{Unit as Man}
use Rattle.board.specs.Games.{width_of, other_side, IsPlayed}
use Rattle.board.specs.Board.{PlainBoard}
use Rattle.rules.specs.Squares.{Place, Ply, IsOnBoard, square_number, unit_at}
use Rattle.rules.specs.Reach.{Reaches, IsInCheck}

-- a side's last rank, the one farthest from its own pieces
abbrev pub IsLastRank : Game → Side → ℕ → Type 0
IsLastRank g White rank = rank + 1 ≡ width_of g
IsLastRank g Black rank = rank ≡ 0

-- a pawn comes to its last rank
abbrev pub Promotes : Game → Man → Place → Type 0
Promotes g u t = (u.kind ≡ Pawn) × IsLastRank g u.side t.rank

-- what a pawn may become
abbrev pub IsPromotion : Game → Kind → Type 0
IsPromotion g Queen = Unit {0}
IsPromotion g Rook = Unit {0}
IsPromotion g Bishop = IsPlayed g Bishop
IsPromotion g Knight = Unit {0}
IsPromotion g King = ⊥
IsPromotion g Pawn = ⊥

-- what a pawn may become in some game
abbrev pub IsPromoted : Kind → Type 0
IsPromoted k = IsPromotion Gardner k

-- a move that the type `Move` keeps: squares of the larger board, and a promotion to queen, rook, bishop or knight
pub record IsPly (m : Ply) : Type 0 where
  pub from : IsOnBoard LosAlamos m.from
  pub to : IsOnBoard LosAlamos m.to
  pub promotion : IfSome m.promotion IsPromoted

-- a king stands there
abbrev pub IsSomeKing : Option Man → Type 0
IsSomeKing None = ⊥
IsSomeKing (Some u) = u.kind ≡ King

-- the unit as it stands on the to-square
abbrev pub placed : Man → Ply → Man
placed u m = record { side = u.side; kind = unwrap_or m.promotion u.kind }

-- the board with the unit moved, promoted where the move says so, and the side changed
abbrev pub after : PlainBoard → Ply → Man → PlainBoard
after b m u = record {
  game = b.game;
  mover = other_side b.mover;
  units = slice_set (slice_set b.units (square_number b.game m.from) None) (square_number b.game m.to) (Some (placed u m));
}

-- the unit of the mover may make this move, but for its own king's safety
pub record IsPseudoLegal (b : PlainBoard) (m : Ply) (u : Man) : Type 0 where
  pub on_board : IsOnBoard b.game m.from
  pub stands : unit_at b m.from ≡ Some u
  pub owner : u.side ≡ b.mover
  pub reaches : Reaches b u m.from m.to (unit_at b m.to)
  pub no_king : IsSomeKing (unit_at b m.to) → ⊥
  pub named : IsSome m.promotion ↔ Promotes b.game u m.to
  pub allowed : IfSome m.promotion (IsPromotion b.game)

-- the move m leads from b to q
pub record IsMove (b : PlainBoard) (m : Ply) (q : PlainBoard) : Type 0 where
  pub unit : Man
  pub pseudo : IsPseudoLegal b m unit
  pub leads : q ≡ after b m unit
  pub safe : IsInCheck q b.mover → ⊥

-- the move is lawful
abbrev pub IsLawful : PlainBoard → Ply → Type 0
IsLawful b m = (q : PlainBoard) × IsMove b m q

-- the move gives check: it leads to a board whose mover is in check
abbrev pub GivesCheck : PlainBoard → Ply → Type 0
GivesCheck b m = (q : PlainBoard) × IsMove b m q × IsInCheck q q.mover

-- the side to move is mated
pub record IsMated (b : PlainBoard) : Type 0 where
  pub check : IsInCheck b b.mover
  pub no_move : (m : Ply) → IsLawful b m → ⊥

-- the side to move is stalemated
pub record IsStalemated (b : PlainBoard) : Type 0 where
  pub no_check : IsInCheck b b.mover → ⊥
  pub no_move : (m : Ply) → IsLawful b m → ⊥
