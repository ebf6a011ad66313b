-- The words that proofs of this crate share, passed on from where they are defined.
pub use Rattle.arrayvec.specs.ArrayVec.{array_vec_len}
pub use Rattle.board.specs.Board.{IsInnerRank, IsPosition, MayStandOn, PlainBoard, is_king, is_king_of, is_of_side, unit_on}
pub use Rattle.board.specs.Denotation.{Denotes, IsAtomLeap, ListsSteps, terms_of}
pub use Rattle.board.specs.Games.{IsPlayed, is_same_side, most_units, other_side, squares_of, width_of}
pub use Rattle.board.specs.declared.game.Game.{Game}
pub use Rattle.board.specs.declared.game.Game.TheVariants.{Gardner, LosAlamos}
pub use Rattle.board.specs.declared.game.Kind.{Kind}
pub use Rattle.board.specs.declared.game.Kind.TheVariants.{Bishop, King, Knight, Pawn, Queen, Rook}
pub use Rattle.board.specs.declared.game.Side.{Side}
pub use Rattle.board.specs.declared.game.Side.TheVariants.{Black, White}
pub use Rattle.board.specs.declared.game.Unit.{Unit as Man}
pub use Rattle.board.specs.declared.step.Step.{Step}
pub use Rattle.rules.specs.Forces.{Forces, IsReached}
pub use Rattle.rules.specs.Listing.{ListsBelow, ply_number}
pub use Rattle.rules.specs.Moves.{IsLastRank, IsLawful, IsMove, IsPly, IsPromoted, IsPromotion, IsPseudoLegal, IsSomeKing, Promotes, after, placed}
pub use Rattle.rules.specs.Order.{ListsLawful, promotion_number}
pub use Rattle.rules.specs.Reach.{Allows, AttacksFrom, IsCheckAt, IsInCheck, IsStep, Leads, Reaches, ReachesBy, ahead_of}
pub use Rattle.rules.specs.Reach.Leads.{again, once}
pub use Rattle.rules.specs.Squares.{IsOnBoard, Place, Ply, square_number, unit_at}
pub use Rattle.rules.specs.declared.list.TheConstants.{PROMOTIONS}
pub use Rattle.std.proofs.lemmas.Bool.{false≢true}
pub use Rattle.std.proofs.lemmas.Int.{ints}
pub use Rattle.std.proofs.lemmas.List.{append-nil, append_assoc, take_all}
pub use Rattle.std.proofs.lemmas.List.Elements.{All-contains, All-get_or, All-more, All-nil, All-push, All-weaker, Contains-append_left, Contains-get_or, Contains-push}
pub use Rattle.std.proofs.lemmas.List.Sums.{count_by_more_no, count_by_more_yes, sum_by-set, sum_by-take-le}
pub use Rattle.std.proofs.lemmas.Option.{same_Some}
pub use Rattle.std.specs.Int.RustNames.{unsigned_abs}
pub use Rattle.std.specs.List.{count_by}
pub use Rattle.std.specs.Option.{IfNone, IfSome, IsSome, unwrap_or}
