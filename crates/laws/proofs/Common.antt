-- The words that proofs of this crate share, passed on from where they are defined.
pub use Rattle.board.specs.Board.{IsArmy, IsInnerRank, IsPosition, MayStandOn, PlainBoard, board_of, is_king, is_king_of, is_of_side, unit_on}
pub use Rattle.board.specs.Games.{IsPlayed, is_same_side, other_side, squares_of, width_of}
pub use Rattle.board.specs.declared.game.Game.{Game}
pub use Rattle.board.specs.declared.game.Game.TheVariants.{Gardner, LosAlamos}
pub use Rattle.board.specs.declared.game.Kind.{Kind}
pub use Rattle.board.specs.declared.game.Kind.TheVariants.{Bishop, King, Knight, Pawn, Queen, Rook}
pub use Rattle.board.specs.declared.game.Side.{Side}
pub use Rattle.board.specs.declared.game.Side.TheVariants.{Black, White}
pub use Rattle.board.specs.declared.game.Unit.{Unit as Man}
pub use Rattle.board.specs.declared.step.Step.{Step}
pub use Rattle.laws.specs.Turnings.{HasNoPawn, IsTurned, KeepsAhead, MayTurn, Turning, exchanged, mirrored, place_over, turned_move, turned_place, turned_side, turned_unit, turned_units}
pub use Rattle.rules.proofs.Keeps.{to_on_board}
pub use Rattle.rules.proofs.Listed.{number_within, same_number}
pub use Rattle.rules.proofs.Rides.{same_place, size-ahead}
pub use Rattle.rules.specs.Forces.{Forces, IsReached}
pub use Rattle.rules.specs.Moves.{IsLastRank, IsLawful, IsMated, IsMove, IsPromotion, IsPseudoLegal, IsSomeKing, IsStalemated, Promotes, after, placed}
pub use Rattle.rules.specs.Reach.{Allows, AttacksFrom, IsInCheck, IsShift, IsSound, IsStep, Leads, Reaches, ahead_of}
pub use Rattle.rules.specs.Squares.{IsOnBoard, Place, Ply, square_number, unit_at}
pub use Rattle.std.proofs.Math.Dec.{ltb}
pub use Rattle.std.proofs.Math.ListN.{length-set, set}
pub use Rattle.std.proofs.lemmas.Bool.{false≢true, lt-ltb}
pub use Rattle.std.proofs.lemmas.Bool.Decides.{nat_tests}
pub use Rattle.std.specs.Option.{IfSome, IsSome, unwrap_or}
