-- The words that proofs of this crate share, passed on from where they are defined.
pub use Rattle.board.specs.Board.{IsPosition, PlainBoard}
pub use Rattle.board.specs.Games.{is_same_side, other_side, squares_of}
pub use Rattle.board.specs.declared.game.Game.{Game}
pub use Rattle.board.specs.declared.game.Game.TheVariants.{Gardner, LosAlamos}
pub use Rattle.board.specs.declared.game.Kind.{Kind}
pub use Rattle.board.specs.declared.game.Kind.TheVariants.{Bishop, King, Knight, Pawn, Queen, Rook}
pub use Rattle.board.specs.declared.game.Side.{Side}
pub use Rattle.board.specs.declared.game.Side.TheVariants.{Black, White}
pub use Rattle.certificates.proofs.Claimed.{forced_within}
pub use Rattle.certificates.specs.Answers.{Certifies, HasClaim, IsOdd, IsUpTo}
pub use Rattle.certificates.specs.Claims.{AllHold, AllWon, ClaimsSoFew, ClaimsSoMany, EscapesBy, FailsBy, HoldsOver, IsWon, MetBy, WinsBy}
pub use Rattle.certificates.specs.declared.claim.Claim.{Claim}
pub use Rattle.devices.proofs.InputLemmas.{of_any as any_input, of_input_then as then_so}
pub use Rattle.devices.specs.Input.{OfInput}
pub use Rattle.input_lines.specs.Lines.{HasNoFeed, left_of}
pub use Rattle.input_lines.specs.Within.{BeginsLong, ReadsText}
pub use Rattle.moves.proofs.Packing.{one_spelled, units_in-at, within_36}
pub use Rattle.moves.specs.Words.{IsPacked, IsUnused, Spells, code_on, digit, flags_of, game_of, game_of_flags, man_of, mover_of_flags, unpacked}
pub use Rattle.problems.proofs.Tried.{all_listed, ended_answer, gone_answer, lost, none_listed, not_empty, not_reached, now_answer, passed_next, some_listed}
pub use Rattle.problems.specs.Answer.{ForcesNothing, IsAnswer}
pub use Rattle.problems.specs.Questions.{question}
pub use Rattle.problems.specs.Tried.{IsPassed}
pub use Rattle.problems.specs.declared.answer.Answer.{Answer}
pub use Rattle.rules.proofs.Forcing.{same_side-self, to_other}
pub use Rattle.rules.proofs.Keeps.{mover-after, one_after}
pub use Rattle.rules.proofs.Lists.{split3}
pub use Rattle.rules.specs.Forces.{Forces, IsReached}
pub use Rattle.rules.specs.MoveText.{move_text, promotion_text}
pub use Rattle.rules.specs.Moves.{IsLawful, IsMove, IsPly}
pub use Rattle.rules.specs.Order.{IsPlyBefore, ListsLawful}
pub use Rattle.rules.specs.Squares.{Ply}
pub use Rattle.rules.specs.declared.goal.Goal.{Goal}
pub use Rattle.std.proofs.Math.Seq.{get_or-append_seam}
pub use Rattle.std.proofs.lemmas.Bool.{agree_below_at, both_ways, cases_eq, cases_lt, cond_both, false≢true, or_cases}
pub use Rattle.std.proofs.lemmas.Bool.Decides.{Decides-eqb, Decides-not, nat_tests}
pub use Rattle.std.proofs.lemmas.Fmt.{decimal_by_steps, decimal_digit, decimal_injective, decimal_step, length-decimal-le}
pub use Rattle.std.proofs.lemmas.Grind.{common_steps, flat_map-append}
pub use Rattle.std.proofs.lemmas.List.{append-nil, append_cancel_left, drop_all, drop_more, get_or_append_left, get_or_default, nil_from_length, same_lists, take-append-drop, take-append-le, take_all, take_at}
pub use Rattle.std.proofs.lemmas.List.Elements.{All-append, All-cons, All-contains, All-get_or, All-head, All-more, All-nil, All-push, All-replicate, All-tail, All-take, All-weaker, Contains-append_left, Contains-push, Contains-push_cases}
pub use Rattle.std.proofs.lemmas.Option.{MatchOption-at_none, MatchOption-at_some, get_or_from_slice_get, none-some, same_Some, slice_get_read, slice_get_within}
pub use Rattle.std.proofs.lemmas.Result.{IfOk-from_err, IfOk-weaker}
pub use Rattle.std.proofs.lemmas.Slice.Eq.{bytes_eq-Decides, strip_prefix_is}
pub use Rattle.std.specs.Fmt.{decimal}
pub use Rattle.std.specs.Io.KnownBytes.{Consumes}
pub use Rattle.verifying.specs.Certificate.{AreLinesFrom, FailsBecause, IsCertificate, IsLesserLine, IsMoveAt, IsNoLine, IsNoCertificate, IsRefusedWith, IsSomeYesLine, IsYesLine, MeetReplies, Meets, MeetsReply, NoLinesMake, NoneAbout, ProveAnswer, ReachesNothing, Resists, ShowFailures, ShowWin, TellInTurn, TellsFailure, YesLinesMake, shorter_claim, with_claim}
pub use Rattle.verifying.specs.Checking.{HasTakenText, IsProvedBy, RefusesMore, TakesMore}
pub use Rattle.verifying.specs.FirstLine.{HasFirstLine, HasNamedMove, IsInRange, first_line, goal_text}
pub use Rattle.verifying.specs.Index.{AreWordsOf, IsFoundIn, IsIndexOf}
pub use Rattle.verifying.specs.Reading.{AreApart, HasRead, IsEnded, IsLineAt, IsLineOf, ReadsLine, ReadsOn, ReadsWords, answer_of, begun_claims, begun_part, behind_yes, part_behind}
pub use Rattle.verifying.specs.Refusals.{AreLines, IsClaimLine, TellsOf, fault_of_input, fed}
pub use Rattle.verifying.specs.Words.{place_letter, word_text, words_line}
pub use Rattle.verifying.specs.Yielding.{FindsOnly, YieldsOnly}
pub use Rattle.verifying.specs.declared.checker.Checker.{Checker}
pub use Rattle.verifying.specs.declared.fault.Fault.{Fault}
pub use Rattle.verifying.specs.declared.fault.Fault.TheVariants.{Answer as AnswerFault, Claim as NumberedFault, NoMemory, ReadFailed, TooLong}
pub use Rattle.verifying.specs.declared.part.Mate.{Mate}
pub use Rattle.verifying.specs.declared.part.Part.{Part}
pub use Rattle.verifying.specs.declared.part.Part.TheVariants.{First, Lesser, No, Win, Yes}
pub use Rattle.verifying.specs.declared.words.Word.{Word}
pub use Rattle.verifying.specs.declared.words.Word.TheVariants.{Claimed, Seen, Stalemated}
pub use Rattle.wintree.proofs.Listings.{lower_once as one_way, one_list}
