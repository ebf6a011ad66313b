-- The words that proofs of this crate share, passed on from where they are defined.
pub use Rattle.board.specs.BetzaFaults.{BetzaFaultHolds, IsBetzaFault, betza_fault_number}
pub use Rattle.board.specs.Board.{IsArmy, IsPosition, MayStandOn, PlainBoard, board_of, is_king_of, is_of_side, unit_on}
pub use Rattle.board.specs.Denotation.{AreDistinct, Denotes, IsAtomLeap, IsStepBefore, IsTermLeap, ListsSteps, doubled, single, terms_of}
pub use Rattle.board.specs.Fen.{IsFenText, IsRankText, IsTextFrom, StartsNoRun, kind_letter, letter_of, side_letter}
pub use Rattle.board.specs.Fen.IsRankText.{end, run, unit}
pub use Rattle.board.specs.Fen.IsTextFrom.{above, first}
pub use Rattle.board.specs.FenFaults.{FenFaultHolds, HasAdjacentRuns, IsBoardByte, IsFenFault, IsShape, board_part, fen_fault_number, first_of, has_pawn, is_case_of, is_digit, last_of, row_width, rows, side_part}
pub use Rattle.board.specs.FenFaults.IsBoardByte.{digit, letter, separator}
pub use Rattle.board.specs.Games.{IsPlayed, most_units, squares_of, width_of}
pub use Rattle.board.specs.Notation.{IsLetter, IsFirstWord, IsUndoubled, IsRead, IsReading, IsShorthand, IsWord, IsWritten, StartsNoMode, StartsNot, atom_text, doubled_text, forward_text, mode_text, piece_text, term_text}
pub use Rattle.board.specs.Notation.IsRead.{last, more}
pub use Rattle.board.specs.Notation.IsShorthand.{bishop, king, queen, rook}
pub use Rattle.board.specs.Notation.IsWord.{short, term}
pub use Rattle.board.specs.declared.betza.BetzaFault.{BetzaFault}
pub use Rattle.board.specs.declared.betza.BetzaFault.TheVariants.{Empty, Letter, Modifier, Repeated}
pub use Rattle.board.specs.declared.game.Game.{Game}
pub use Rattle.board.specs.declared.game.Game.TheVariants.{Gardner, LosAlamos}
pub use Rattle.board.specs.declared.game.Kind.{Kind}
pub use Rattle.board.specs.declared.game.Kind.TheVariants.{Bishop, King, Knight, Pawn, Queen, Rook}
pub use Rattle.board.specs.declared.game.Side.{Side}
pub use Rattle.board.specs.declared.game.Side.TheVariants.{Black, White}
pub use Rattle.board.specs.declared.game.Unit.{Unit as Man}
pub use Rattle.board.specs.declared.step.Mode.{Mode}
pub use Rattle.board.specs.declared.step.Mode.TheVariants.{Both, Capture, Move}
pub use Rattle.board.specs.declared.terms.Atom.{Atom}
pub use Rattle.board.specs.declared.terms.Atom.TheVariants.{Ferz, Wazir}
pub use Rattle.board.specs.declared.terms.Term.{Term}
pub use Rattle.board.specs.declared.terms.TheConstants.{LEAPS}
pub use Rattle.std.proofs.Math.ListN.{length-replicate, set}
pub use Rattle.std.proofs.lemmas.Bool.{and_parts, cases_Bool, cases_lt, eq-eqb, eqb-true, false≢true, iff_false, ne_eqb, or_parts}
pub use Rattle.std.proofs.lemmas.Bool.Decides.{Decides-int_eq, nat_tests}
pub use Rattle.std.proofs.lemmas.List.{append-nil, drop_at, get_or-append-add, get_or-append_right, get_or_append_left, get_or_default, length_push, nil_from_length, take_all, take_at, take_more, take_rest}
pub use Rattle.std.proofs.lemmas.List.Elements.{All-append, All-cons, All-contains, All-from_get_or, All-get_or, All-head, All-more, All-nil, All-push, All-replicate, All-tail, All-weaker, Contains-append_left, Contains-push, Contains-push_cases}
pub use Rattle.std.proofs.lemmas.List.Quantifiers.{all_pairs_push}
pub use Rattle.std.proofs.lemmas.List.Sums.{AllPass-from_list_all, position_or_len_is, split_at_first, sum_by-append, sum_by-cons}
pub use Rattle.std.specs.List.{count_by, join_with_byte, list_all, onto_first, position_or_len}
pub use Rattle.std.specs.Option.{IfNone, IfSome, MatchOption, ok_or}
pub use Rattle.std.specs.Result.{IfErr, IfOk, IsOk, IsOkAnd}
