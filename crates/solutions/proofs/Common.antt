-- The words that proofs of this crate share, passed on from where they are defined.
pub use Rattle.board.specs.Board.{IsPosition, PlainBoard, board_of}
pub use Rattle.board.specs.Games.{is_same_side, other_side}
pub use Rattle.board.specs.declared.game.Game.{Game}
pub use Rattle.decision.proofs.Options.{none_at, some_at}
pub use Rattle.problems.proofs.Jobs.{got_at, lawful_job, least_move, move_at, none_moves, same_some}
pub use Rattle.problems.proofs.Winning.{forced_by, none_forced, nothing_at_once, same_default, same_mover}
pub use Rattle.problems.specs.Answer.{ForcesNothing, IsAnswer, IsFewest, IsLeastWin, Wins}
pub use Rattle.problems.specs.Roots.{EndsRound, WinsIn}
pub use Rattle.rules.proofs.Forcing.{Forces-even, same_side-self, to_other, turn-other, turn-own, twice, twice-double}
pub use Rattle.rules.proofs.Keeps.{one_after}
pub use Rattle.rules.specs.Moves.{IsLawful, IsMove}
pub use Rattle.rules.specs.Order.{IsPlyBefore, ListsLawful}
pub use Rattle.rules.specs.Squares.{Ply}
pub use Rattle.rules.specs.declared.goal.Goal.{Goal}
pub use Rattle.searcher.proofs.Halts.{err_halts}
pub use Rattle.solutions.specs.Lines.{IsMet, Lasts, ListsContinuations, ListsMoves}
pub use Rattle.solutions.specs.Solutions.{AreThreats, IsKeyPlay, IsSetPlay, IsTry, IsVariation, IsWhereAsked, ListsKeyPlays, ListsTries, ListsVariations, Refutes, RefutesAlone, TellsVariation, passed, variation_replies}
pub use Rattle.std.proofs.lemmas.Bool.{false≢true}
pub use Rattle.std.proofs.lemmas.Grind.{common_steps, elements}
pub use Rattle.std.proofs.lemmas.List.{map-append, take_all}
pub use Rattle.std.proofs.lemmas.List.Elements.{All-contains, All-get_or, All-nil, All-push, Contains-append_cases, Contains-append_left, Contains-push}
pub use Rattle.searcher.proofs.Forcing.{forced_within, not_reached, reached_now, some_ply}
