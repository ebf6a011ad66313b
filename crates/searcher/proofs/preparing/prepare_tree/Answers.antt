use Rattle.std.proofs.Common.{ℕ, All, get_or, rules, sym, ◌∙◌, ap, subst}
use Rattle.atomic_table.specs.declared.shared.Seat.{Seat}
use Rattle.slots.specs.declared.views.View.{View}
use Rattle.board.specs.Board.{PlainBoard}
use Rattle.rules.specs.Forces.{Forces}
use Rattle.slots.specs.Promise.{IsSeatOf}
use Rattle.decision.specs.Calls.{Continues, SeatsContinue}
use Rattle.decision.proofs.Calls.{continues_none}
use Rattle.decision.proofs.Zips.{take_whole, zip_each, zip_same}
use Rattle.searcher.proofs.preparing.prepare_tree.Goals as goal

pub returns-then-threads-lt2-clause-go_on : goal.returns-then-threads-lt2-clause-go_on
returns-then-threads-lt2-clause-go_on g c =
    zip_same (Continues c.args.slots.now) (IsSeatOf c.args.slots.now) (continues_none c.args.slots.now) c.args.seats.now.items c.requires.seats

pub for_each_mut-requires-clause-accepts : goal.for_each_mut-requires-clause-accepts
for_each_mut-requires-clause-accepts g c κs within = λ i p lt is.
    let seats = subst (All (IsSeatOf c.args.slots.now)) (sym c.as_mut_slice.ensures.value) c.requires.seats in (
      c.requires.plies,
      subst (λ (b : PlainBoard). Forces c.args.problem.now.goal b.mover b c.args.plies) (sym c.of-board.ensures) c.requires.fewest.forced,
      subst (IsSeatOf c.args.slots.now) (sym is) (seats i p.now lt),
    )

pub returns-clause-go_on : goal.returns-clause-go_on
returns-clause-go_on g c =
    subst (SeatsContinue c.args.slots.now c.args.seats.now.items) (sym (take_whole c.args.seats.now.len c.for_each_mut.new.s _ (search rules)))
    (zip_each (Continues c.args.slots.now) c.args.seats.now.items c.for_each_mut.new.s (search rules) (λ k d lt.
    let one = (c.for_each_mut.ensures k d (search rules)).1 in
    subst (λ (seats : Seat ℕ View × Seat ℕ View). Continues c.args.slots.now seats.0 seats.1)
    (λ i. ((one.argument_is ∙ ap (λ items. get_or items k d) c.as_mut_slice.ensures.value) i, one.left i)) one.call.1))
