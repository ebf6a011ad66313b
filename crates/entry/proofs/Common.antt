-- The words that proofs of this crate share, passed on from where they are defined.
pub use Rattle.board.specs.Board.{IsArmy, IsInnerRank, IsPosition, MayStandOn, PlainBoard, unit_on}
pub use Rattle.board.specs.Games.{IsPlayed, squares_of, width_of}
pub use Rattle.board.specs.declared.game.Game.{Game}
pub use Rattle.board.specs.declared.game.Game.TheVariants.{Gardner, LosAlamos}
pub use Rattle.board.specs.declared.game.Kind.{Kind}
pub use Rattle.board.specs.declared.game.Kind.TheVariants.{Bishop, King, Knight, Pawn, Queen, Rook}
pub use Rattle.board.specs.declared.game.Side.{Side}
pub use Rattle.board.specs.declared.game.Side.TheVariants.{Black, White}
pub use Rattle.board.specs.declared.game.Unit.{Unit as Man}
pub use Rattle.entry.specs.Bounds.{Bounds, IsBounds, bounds_of}
pub use Rattle.entry.specs.Keys.{key_words, no_byte}
pub use Rattle.entry.specs.Laws.{SameQuestion}
pub use Rattle.entry.specs.Marks.{marks_number}
pub use Rattle.entry.specs.Packing.{Packing, code_of, entry_of, first_word, game_bit, goal_bit, man_code, rank_pair, second_word, side_bit, squares_word, third_word, upto_byte}
pub use Rattle.entry.specs.Preference.{end_at, entry_in, game_at, game_in, goal_at, is_army, is_end, is_inner, is_interval, is_packing, is_packing_of, is_pawn, is_played, is_position, low_of, mate_prefers, may_stand, says_all, side_at, squares_in, stand_below, top_of, units_of, zeros_give_way}
pub use Rattle.entry.specs.Prefers.{ArePreferred, SaysAll, weight}
pub use Rattle.entry.specs.declared.entries.Entry.{Entry}
pub use Rattle.entry.specs.declared.marks.Marks.{Marks}
pub use Rattle.moves.proofs.Packing.{one_spelled, units_in-at}
pub use Rattle.moves.specs.Words.{IsPacked as IsBoard, IsUnused, Spells, code_on, digit, flags_of, game_of, game_of_flags, man_of, mover_of_flags, units_in, unpacked}
pub use Rattle.rules.specs.declared.goal.Goal.{Goal}
pub use Rattle.rules.specs.declared.goal.Goal.TheVariants.{Mate, MateOrStale}
pub use Rattle.std.proofs.Math.Nat.{mul_assoc, mul_left_comm, pow-le-pow_right, pow-succ'}
pub use Rattle.std.proofs.lemmas.Bool.{cases_lt, false≢true}
pub use Rattle.std.proofs.lemmas.Bool.Decides.{Decides-and, Decides-below_and, Decides-eqb, nat_tests, same_from_decides}
pub use Rattle.std.proofs.lemmas.List.{get_or-drop, get_or-take, length-take-le, take-append-drop}
pub use Rattle.std.proofs.lemmas.Option.{same_Some}
pub use Rattle.std.proofs.lemmas.Slice.Eq.{bytes_eq-Decides}
pub use Rattle.std.specs.Bool.{Decides}
pub use Rattle.std.specs.Option.{IfSome, MatchOption}
pub use Rattle.std.specs.Str.{bytes_eq}
