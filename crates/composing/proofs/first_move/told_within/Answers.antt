use Rattle.std.proofs.Common.{◌≡◌, None, subst, vec_items}
use Rattle.board.specs.Board.{PlainBoard}
use Rattle.problems.specs.Answer.{IsAnswer, IsFewest, ForcesNothing}
use Rattle.context.specs.Limits.{fault_of}
use Rattle.composing.proofs.FirstMoveLemmas.{nothing_shown, play_shown}
use Rattle.composing.proofs.first_move.told_within.Goals as goal

pub told-requires-clause-fewest : goal.told-requires-clause-fewest
told-requires-clause-fewest g c =
    let solved = subst (λ a. (fault_of c.args.limits ≡ None) × IsAnswer c.args.root.goal c.position.result c.args.limits.limit a) c.in-Mate.is c.in_ok-found.ensures in
    subst (λ (b : PlainBoard). IsFewest c.args.root.goal b c.in-Mate.plies) c.position.ensures solved.1.1

pub returns-in_ok-told-in-Mate : goal.returns-in_ok-told-in-Mate
returns-in_ok-told-in-Mate g c =
    let solved = subst (λ a. (fault_of c.args.limits ≡ None) × IsAnswer c.args.root.goal c.position.result c.args.limits.limit a) c.in-Mate.is c.in_ok-found.ensures in
    play_shown c.args.symbols c.args.root c.args.job c.args.limits c.in-Mate.plies (vec_items c.in_ok-told-in-Mate.field-0) solved.0 solved.1.0
    (subst (λ (b : PlainBoard). IsFewest c.args.root.goal b c.in-Mate.plies) c.position.ensures solved.1.1) c.in_ok-told-in-Mate.ensures

pub returns-in-NoneWithin : goal.returns-in-NoneWithin
returns-in-NoneWithin g c =
    let solved = subst (λ a. (fault_of c.args.limits ≡ None) × IsAnswer c.args.root.goal c.position.result c.args.limits.limit a) c.in-NoneWithin.is c.in_ok-found.ensures in
    nothing_shown c.args.symbols c.args.root c.args.job c.args.limits c.in-NoneWithin.limit c.none_line.result solved.0 solved.1.0
    (subst (λ (b : PlainBoard). ForcesNothing c.args.root.goal b c.args.limits.limit) c.position.ensures solved.1.1) c.none_line.ensures
