use Rattle.std.proofs.Common.{◌≡◌, Bool, refl}
use Rattle.board.specs.declared.game.Kind.{Kind}
use Rattle.board.specs.declared.game.Kind.TheVariants.{King, Queen, Rook, Bishop, Knight, Pawn}
use Rattle.board.specs.Board.{PlainBoard}
use Rattle.rules.specs.Squares.{Ply}
use Rattle.algebraic.specs.declared.origin.Origin.{Origin}
use Rattle.algebraic.specs.Naming.{IsLeastOrigin, TellsOrigin}
use Rattle.algebraic.proofs.naming.origin_of.Goals as goal

piece : (b : PlainBoard) (kind : Kind) (m : Ply) (captures : Bool) (origin : Origin) → (kind ≡ Pawn → ⊥) → IsLeastOrigin b kind m origin → TellsOrigin b kind m captures origin
piece b King m captures origin piece_kind least = least
piece b Queen m captures origin piece_kind least = least
piece b Rook m captures origin piece_kind least = least
piece b Bishop m captures origin piece_kind least = least
piece b Knight m captures origin piece_kind least = least
piece b Pawn m captures origin piece_kind least = absurd (piece_kind refl)

pub returns-in_default : goal.returns-in_default
returns-in_default c = piece c.args.board.now c.args.kind c.args.m c.args.captures c.least_origin.result c.in_default.not-Pawn-0 c.least_origin.ensures
