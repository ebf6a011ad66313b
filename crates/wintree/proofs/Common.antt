-- The words that proofs of this crate share, passed on from where they are defined.
pub use Rattle.board.specs.Board.{PlainBoard}
pub use Rattle.board.proofs.RowBytes.{count_append}
pub use Rattle.board.specs.declared.game.Kind.{Kind}
pub use Rattle.board.specs.declared.game.Kind.TheVariants.{Bishop, King, Knight, Pawn, Queen, Rook}
pub use Rattle.rules.proofs.Keeps.{one_after}
pub use Rattle.rules.specs.Forces.{Forces, IsReached}
pub use Rattle.rules.specs.MoveText.{move_text, promotion_text, square_text}
pub use Rattle.rules.specs.Moves.{IsLawful, IsMove, IsPly, IsPromoted}
pub use Rattle.rules.specs.Order.{IsPlyBefore, ListsLawful}
pub use Rattle.rules.specs.Reach.{IsInCheck}
pub use Rattle.rules.specs.Squares.{Ply}
pub use Rattle.rules.specs.declared.goal.Goal.{Goal}
pub use Rattle.std.proofs.lemmas.Bool.{false≢true, ne_eqb, true≢false}
pub use Rattle.std.proofs.lemmas.Bool.Decides.{eqb_tells}
pub use Rattle.std.proofs.lemmas.List.{append-nil, drop_all, drop_more, length-map, length_push, take-append-le, take_more}
pub use Rattle.std.proofs.lemmas.List.Elements.{All-push, recursion_from_All}
pub use Rattle.std.proofs.lemmas.Option.{get_or_from_slice_get, same_Some, slice_get-get_or, slice_get_past, slice_get_within}
pub use Rattle.std.proofs.lemmas.Result.{err_from_is_err_and}
pub use Rattle.std.specs.List.{AllByRecursion}
pub use Rattle.wintree.specs.Ahead.{AfterTree, AreRepliesAhead, IsPlain, IsTreeAhead, NoCell, NoMove, ReadsCell, ReadsMove, ReadsReplies, ReadsTree, Spans, Stands, closed_text, listed_text, next_byte, promotion_of}
pub use Rattle.wintree.specs.Answered.{AllWin, IsFlawBelow, WinsAfter, highest_in, moves_in}
pub use Rattle.wintree.specs.Flaws.{AreWrong, IsFlaw, IsWrong, IsWrongEnd, listed}
pub use Rattle.wintree.specs.Offset.{BeginsText, IsDeep, IsFaultOf, IsText}
pub use Rattle.wintree.specs.Plan.{ArePlans, ArePlansIn, IsPlan, Plan, Replies, deepest, deepest_in, depth, ends, last, more, plan_of, replies_of, splits}
pub use Rattle.wintree.specs.Text.{TreeText, end_text, replies_text, text}
pub use Rattle.wintree.specs.View.{HasReplies, KeepsPlan, plan_after}
pub use Rattle.wintree.specs.Wins.{EachWins, EndsAt, Wins, height, highest, moves_of}
pub use Rattle.wintree.specs.declared.fault.TreeFault.{TreeFault}
pub use Rattle.wintree.specs.declared.fault.TreeFault.TheVariants.{Deep, Grammar, NoMemory}
pub use Rattle.wintree.specs.declared.tree.End.{End}
pub use Rattle.wintree.specs.declared.tree.End.TheVariants.{Mate, Stale}
