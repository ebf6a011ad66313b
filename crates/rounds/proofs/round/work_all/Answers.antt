use Rattle.std.proofs.Common.{ℕ, ◌≡◌, ◌<◌, List, length, All, arith, rules, sym, subst, ◌∙◌}
use Rattle.std.proofs.lemmas.List.Elements.{All-weaker, length_all_zip}
use Rattle.atomic_table.specs.declared.shared.Seat.{Seat}
use Rattle.slots.specs.declared.views.View.{View}
use Rattle.slots.specs.Promise.{IsSeatOf}
use Rattle.rounds.specs.declared.share.Share.{Share}
use Rattle.rounds.specs.Shares.{IsShare}
use Rattle.rounds.specs.Going.{SeatGoesOn, EachGoesOn, SeatsGoOn}
use Rattle.decision.proofs.Zips.{take_whole, zip_each}
use Rattle.rounds.proofs.Shares.{lent_count}
use Rattle.rounds.proofs.Going.{seats_none, each_more, lent_seats}
use Rattle.rounds.proofs.round.work_all.Goals as goal

pub returns-in_err-shares-clause-go_on : goal.returns-in_err-shares-clause-go_on
returns-in_err-shares-clause-go_on g c = seats_none g.T.Gate.keeps c.args.round.now.search.now.slots.now c.args.seats.now.items c.requires.seats.2

pub returns-in_default-clause-go_on : goal.returns-in_default-clause-go_on
returns-in_default-clause-go_on g c =
    let t = c.args.round.now.search.now.slots.now in
    subst (SeatsGoOn g.T.Gate.keeps t c.args.seats.now.items) (sym (◌∙◌ {A = List (Seat ℕ View)} c.give_back.ensures c.deal_out.ensures.same)) (seats_none g.T.Gate.keeps t c.args.seats.now.items c.requires.seats.2)

pub settle-first-requires-clause-some : goal.settle-first-requires-clause-some
settle-first-requires-clause-some g c κs within =
    let same : length c.for_each_mut.new.s ≡ length c.deal_out.new.shares.items = search rules in
    subst (λ (xs : List (Share _)). 0 < length xs) (sym (take_whole c.deal_out.new.shares.len c.for_each_mut.new.s _ (search rules))) (omega (arith, same, c.in-Ok.ensures.count, c.requires.seats))

pub settle-first-requires-clause-shares : goal.settle-first-requires-clause-shares
settle-first-requires-clause-shares g c κs within =
    subst (All (IsShare g.J.Count.jobs c.args.round.now)) (sym (take_whole c.deal_out.new.shares.len c.for_each_mut.new.s _ (search rules))) (λ k d lt. search rules)

pub give_back-requires-2 : goal.give_back-requires-2
give_back-requires-2 g c =
    omega (
      arith,
      lent_count c.deal_out.new.seats.items c.args.seats.now.items c.deal_out.new.shares.items c.deal_out.ensures.same,
      c.deal_out.ensures.capacity,
      c.args.seats.now.ok,
      length_all_zip (λ a b. SeatGoesOn g.T.Gate.keeps c.args.round.now.search.now.slots.now a.seat b.seat) c.deal_out.new.shares.items c.settle-first.new.shares.items (each_more g.T.Gate.keeps c.args.round.now.search.now.slots.now c.deal_out.new.shares.items _ c.settle-first.new.shares.items
          (subst (EachGoesOn g.T.Gate.keeps c.args.round.now.search.now.slots.now c.deal_out.new.shares.items) (sym (take_whole c.deal_out.new.shares.len c.for_each_mut.new.s _ (search rules)))
          (zip_each (λ a b. SeatGoesOn g.T.Gate.keeps c.args.round.now.search.now.slots.now a.seat b.seat) c.deal_out.new.shares.items c.for_each_mut.new.s (search rules) (λ i d lt. search rules)))
          c.settle-first.ensures.go_on),
    )

pub returns-clause-seats : goal.returns-clause-seats
returns-clause-seats g c = let t = c.args.round.now.search.now.slots.now in
    (lent_seats g.T.Gate.keeps t c.args.seats.now.items c.deal_out.new.seats.items c.give_back-2.new.seats.items c.deal_out.new.shares.items c.settle-first.new.shares.items
    c.in-Ok.ensures.count.0 c.deal_out.ensures.same c.give_back-2.ensures (each_more g.T.Gate.keeps c.args.round.now.search.now.slots.now c.deal_out.new.shares.items _ c.settle-first.new.shares.items
    (subst (EachGoesOn g.T.Gate.keeps c.args.round.now.search.now.slots.now c.deal_out.new.shares.items) (sym (take_whole c.deal_out.new.shares.len c.for_each_mut.new.s _ (search rules)))
    (zip_each (λ a b. SeatGoesOn g.T.Gate.keeps c.args.round.now.search.now.slots.now a.seat b.seat) c.deal_out.new.shares.items c.for_each_mut.new.s (search rules) (λ i d lt. search rules)))
    c.settle-first.ensures.go_on)
    (All-weaker (IsShare g.J.Count.jobs c.args.round.now) (λ s. IsSeatOf t s.seat) (λ s h. h.seat) c.settle-first.new.shares.items c.settle-first.ensures.shares)).0

pub returns-clause-go_on : goal.returns-clause-go_on
returns-clause-go_on g c = let t = c.args.round.now.search.now.slots.now in
    (lent_seats g.T.Gate.keeps t c.args.seats.now.items c.deal_out.new.seats.items c.give_back-2.new.seats.items c.deal_out.new.shares.items c.settle-first.new.shares.items
    c.in-Ok.ensures.count.0 c.deal_out.ensures.same c.give_back-2.ensures (each_more g.T.Gate.keeps c.args.round.now.search.now.slots.now c.deal_out.new.shares.items _ c.settle-first.new.shares.items
    (subst (EachGoesOn g.T.Gate.keeps c.args.round.now.search.now.slots.now c.deal_out.new.shares.items) (sym (take_whole c.deal_out.new.shares.len c.for_each_mut.new.s _ (search rules)))
    (zip_each (λ a b. SeatGoesOn g.T.Gate.keeps c.args.round.now.search.now.slots.now a.seat b.seat) c.deal_out.new.shares.items c.for_each_mut.new.s (search rules) (λ i d lt. search rules)))
    c.settle-first.ensures.go_on)
    (All-weaker (IsShare g.J.Count.jobs c.args.round.now) (λ s. IsSeatOf t s.seat) (λ s h. h.seat) c.settle-first.new.shares.items c.settle-first.ensures.shares)).1
