-- The words that proofs of this crate share, passed on from where they are defined.
pub use Rattle.std.proofs.Common.{◌≡◌, ℕ, ◌+◌, ◌^◌, ◌<◌, arith, refl, sym, ap, subst, ◌∙◌, ◌⊎◌, ◌↔◌, inl, inr, Option, Some, None, IsSome, false, true, not, unwrap_or, IfSome, IsTrue, Bool, ◌≢◌, ◌-◌, ◌*◌, ◌/◌, ◌%◌, suc, ◌≤◌, cond, List, [], take, length, zero, ◌∷◌, ◌++◌, get_or, AllPairs, Contains, w64, ℤ, pos, ◌<ℤ◌, set, replicate, length-append, count_ones, ◌&&◌, leb, negsuc, neg_ℤ, get_or-take, length-take, IfNone, rules, min, add_assoc, MatchOption, All}
pub use Rattle.std.proofs.lemmas.Bool.{cases_eq, false≢true, cases_order, and_parts, false_from_ne_true, cases_lt, not-true, leb-true, eqb-true, eq-eqb, not_from_false, cases_Bool}
pub use Rattle.std.proofs.lemmas.Int.{ints}
pub use Rattle.std.proofs.lemmas.List.{take-take, take_all, get_or-set_same, get_or-set_other, length-set}
pub use Rattle.std.proofs.lemmas.List.Elements.{Contains-push, Contains-append_left, Contains-append_cases, All-contains, All-get_or, All-more}
pub use Rattle.std.proofs.lemmas.List.Sums.{count_by_more_yes, sum_by-take-le, count_by_more_no, AllPass-from_list_all, sum_by_more_le}
pub use Rattle.std.proofs.lemmas.Nat.{mul-le, pow-add, shl-shr, shr-shr, shr_le, xor_shr, xor_mod, shl_whole, ones_le_self, xor_lt, and_le_r}
pub use Rattle.std.proofs.lemmas.Nat.Bits.{bit_at_ones, bit_at-lt, bit_at_lowest, bit_at-suc}
pub use Rattle.std.proofs.lemmas.Option.{same_Some}
pub use Rattle.std.specs.Int.{bit_not, bit_at}
pub use Rattle.std.specs.Int.RustNames.{bit_and, bit_or, unsigned_abs, bit_xor}
pub use Rattle.std.specs.List.{count_by, list_all}
pub use Rattle.arrayvec.specs.ArrayVec.{array_vec_len}
pub use Rattle.board.specs.Board.{PlainBoard, IsPosition, is_of_side, unit_on, is_king, is_king_of, MayStandOn, board_of}
pub use Rattle.board.specs.Denotation.{terms_of, Denotes, IsAtomLeap, IsTermStep, doubled}
pub use Rattle.board.specs.Games.{width_of, other_side, most_units, squares_of, is_same_side, IsPlayed}
pub use Rattle.board.specs.declared.game.Game.{Game}
pub use Rattle.board.specs.declared.game.Game.TheVariants.{LosAlamos, Gardner}
pub use Rattle.board.specs.declared.game.Kind.{Kind}
pub use Rattle.board.specs.declared.game.Kind.TheVariants.{King, Queen, Rook, Bishop, Knight, Pawn}
pub use Rattle.board.specs.declared.game.Side.{Side}
pub use Rattle.board.specs.declared.game.Side.TheVariants.{White, Black}
pub use Rattle.board.specs.declared.game.Unit.{Unit as Man}
pub use Rattle.board.specs.declared.step.Mode.{Mode}
pub use Rattle.board.specs.declared.step.Mode.TheVariants.{Move, Capture, Both}
pub use Rattle.board.specs.declared.step.Step.{Step}
pub use Rattle.board.specs.declared.terms.Atom.{Atom}
pub use Rattle.board.specs.declared.terms.Atom.TheVariants.{Wazir, Ferz}
pub use Rattle.board.specs.declared.terms.Term.{Term}
pub use Rattle.rules.proofs.Forcing.{same_side-self, to_own, to_other, turn-own}
pub use Rattle.rules.proofs.Keeps.{lawful_from, IsRankAhead, to_on_board, no_own as own_or_other, IsPosition-after, Leads-single_step as single_step, other_square, Leads-on_board as Leads-end, pawn_ahead, one_after}
pub use Rattle.rules.proofs.Listed.{same_number, number_within}
pub use Rattle.rules.proofs.Lists.{IsNumbered-lawful, HasParts-lawful, ListsBelow-nil, ListsBelow-jump, ListsLawful-from, own_from, ListsBelow-all_to, IsNumbered, ListsBelow-push, ListsBelow-skip, ListsBelow-promoted, promotes_to, numbered_promotion, first_promotion}
pub use Rattle.rules.proofs.Rides.{room_of, room_of-step, one_target, size-ahead}
pub use Rattle.rules.proofs.Room.{squares_36, share, share-more, share-most, share-step}
pub use Rattle.rules.specs.Forces.{IsReached, Forces}
pub use Rattle.rules.specs.Listing.{ListsBelow, ListsFrom, ply_number}
pub use Rattle.rules.specs.Moves.{IsLastRank, IsPromotion, Promotes, IsSomeKing, IsPseudoLegal, IsLawful, placed, after, IsMove, IsMated, GivesCheck}
pub use Rattle.rules.specs.Order.{ListsLawful, promotion_number, IsPlyBefore}
pub use Rattle.rules.specs.Reach.{Leads, Reaches, IsAttacked, IsInCheck, AttacksFrom, Allows, ahead_of, IsShift, IsStep}
pub use Rattle.rules.specs.Reach.Leads.{once, again}
pub use Rattle.rules.specs.Squares.{Place, Ply, IsOnBoard, unit_at, square_number}
pub use Rattle.rules.specs.declared.goal.Goal.{Goal}
pub use Rattle.rules.specs.declared.list.TheConstants.{PROMOTIONS}
pub use Rattle.cells.proofs.CellNumbers.{place_in-cell_of, IsCell-cell_of, shift_in, small_squares, cell_of-place_in, cell_small}
pub use Rattle.cells.proofs.Masks.{lowest-has, Has-and, Has-zero, Has-or, Has-minus, Has-clear, Has-rest, and_fits, Has-four, not-zero, four-are}
pub use Rattle.cells.proofs.OnRays.{next_of, next-is, is-next}
pub use Rattle.cells.proofs.TableTests.{table_of-exact}
pub use Rattle.cells.specs.CellSets.{Has}
pub use Rattle.cells.specs.Leaps.{IsLeapt}
pub use Rattle.cells.specs.Mailbox.{cell_of, place_in, IsCell, IsAway}
pub use Rattle.cells.specs.StepTables.{table_of}
pub use Rattle.cells.specs.Ways.{IsOnStraight, IsOnSlanted, Rides, rises, IsNext, ahead_way, files_of, ranks_of, IsOnRay}
pub use Rattle.cells.specs.declared.tables.TheConstants.{WAYS}
pub use Rattle.cells.specs.declared.tables.Way.{Way}
pub use Rattle.cells.specs.declared.tables.Way.TheVariants.{North, South, East, West, NorthEast, SouthWest, NorthWest, SouthEast}
pub use Rattle.moves.specs.Checking.{Attains}
pub use Rattle.moves.specs.Guard.{HasBlocks, Guards, Checkers}
pub use Rattle.moves.specs.Looking.{Aims, class_of, TakesAs, IsSwept, AreAttacked}
pub use Rattle.moves.specs.Pinned.{IsPinned}
pub use Rattle.moves.specs.Safe.{IsNamed, HasSafe, IsCalm, CountsFrom, IsEach, promotions_of}
pub use Rattle.moves.specs.Sets.{StandsAs, HasRider, StandsFor, Holds, set_of, SomeWay, RidesBy, Owns, IsOf, Shows, HasMoved, AreMoved, HasAdded, AreAdded, HasNone}
pub use Rattle.moves.specs.Targets.{IsTarget}
pub use Rattle.moves.specs.Words.{digit, man_of, word_of, place_of, code_on, flags_of, game_of, game_of_flags, mover_of_flags, units_in, unpacked, Spells, IsUnused, IsPacked, IsFlags}
pub use Rattle.moves.specs.declared.sets.Class.{Class}
pub use Rattle.moves.specs.declared.sets.Class.TheVariants.{Crowned, Straight, Slanted, Foot}
pub use Rattle.moves.specs.declared.sets.Sets.{Sets}

pub via : {A B C : Type 0} → A ↔ B → B ↔ C → A ↔ C
via p q = (λ a. q.0 (p.0 a), λ c. p.1 (q.1 c))

-- a test that is passed, and one that isn't
pub so : {P : Type 0} → P → IsTrue true ↔ P
so p = (λ _. p, λ _. refl)

pub not_so : {P : Type 0} → (P → ⊥) → IsTrue false ↔ P
not_so none = (λ never. absurd (false≢true never), λ p. absurd (none p))

pub not-is : {P : Type 0} (r : Bool) → (IsTrue r ↔ P) → IsTrue (not r) ↔ (P → ⊥)
not-is true h = not_so (λ safe. safe (h.0 refl))
not-is false h = so (λ p. false≢true (h.1 p))
