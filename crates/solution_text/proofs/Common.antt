-- The words that proofs of this crate share, passed on from where they are defined.
pub use Rattle.algebraic.specs.Text.{name_text}
pub use Rattle.algebraic.specs.declared.naming.Notation.{Notation}
pub use Rattle.board.specs.Board.{PlainBoard}
pub use Rattle.problems.specs.Answer.{ForcesNothing, IsFewest}
pub use Rattle.rules.proofs.Forcing.{same_side-self}
pub use Rattle.rules.proofs.Keeps.{one_after}
pub use Rattle.rules.specs.Moves.{IsLawful, IsMove}
pub use Rattle.rules.specs.Order.{ListsLawful}
pub use Rattle.rules.specs.Squares.{Ply}
pub use Rattle.rules.specs.declared.goal.Goal.{Goal}
pub use Rattle.solution_text.specs.Telling.{LeavesReplies, TellsEach, TellsFirst, TellsKey, TellsKeys, TellsLong, TellsPlayedTries, TellsReplies, TellsReply, TellsSequel, TellsSetPlay, TellsTries}
pub use Rattle.solution_text.specs.Text.{AreDualsText, AreTexts, AreThreatsText, IsKeyText, IsLineText, IsNumbered, IsSetPlayText, IsTryText, IsVariationText, headline, threat_word}
pub use Rattle.solution_text.specs.WholeText.{AreSequelsText, AreThreatened, IsLongText, IsFirstSolution, IsPlayText, IsPlayedText, IsPlayedTryText, IsRefutationText, IsThreatText, IsWholeSolution}
pub use Rattle.solutions.proofs.Forcing.{key_meets, key_reaches, mate_found, met_here, nothing_found}
pub use Rattle.solutions.proofs.Lists.{PicksMoves, pick_all, pick_one, pick_skip, take_more}
pub use Rattle.solutions.specs.Lines.{IsBestLine, IsMet, ListsContinuations, ListsMoves}
pub use Rattle.solutions.specs.Solutions.{AreThreats, IsKeyPlay, IsTry, IsVariation, ListsTries, Refutes, TellsVariation, passed}
pub use Rattle.solutions.specs.Whole.{AreSequels, IsPlay, IsPlayedKey, IsPlayedTry, IsThreat, IsVirtualPlay, IsWholeSetPlay, Play, Sequel, Sequels, Threat, check, done, long, more, over, play, replies_in, sequel, short, zugzwang}
pub use Rattle.solutions.specs.declared.variation.Variation.{Variation}
pub use Rattle.std.proofs.lemmas.List.{append-nil, length-map, map-append, take_all}
pub use Rattle.std.proofs.lemmas.List.Elements.{All-nil, All-push, Contains-get_or}
pub use Rattle.std.proofs.lemmas.Result.{IfOk-weaker}
pub use Rattle.std.specs.Fmt.{decimal}
