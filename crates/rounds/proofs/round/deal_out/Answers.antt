use Rattle.std.proofs.Common.{arith, rules, length, ap, refl, sym, ◌∙◌}
use Rattle.std.proofs.lemmas.List.{length-replicate}
use Rattle.slots.specs.Promise.{IsSeatOf}
use Rattle.jobs.specs.Promise.{IsJobSeatOf}
use Rattle.rounds.specs.declared.share.Verdict.TheVariants.{Open}
use Rattle.rounds.specs.Shares.{IsShare, WinsHere}
use Rattle.searcher.proofs.Lists.{All-snoc, All-popped}
use Rattle.rounds.proofs.Rows.{fresh_right, fresh_knows}
use Rattle.rounds.proofs.Shares.{dealt_more, seat_taken}
use Rattle.rounds.proofs.round.deal_out.Goals as goal

pub invariant_of-stop : goal.invariant_of-stop
invariant_of-stop g c = record {
  belongs = (All-popped (IsJobSeatOf c.args.round.now.least.now) _ _ _ c.take_last-job_seat.ensures.items c.loop-dealt.invariant.job_seats.1).1;
  of_board = c.jobs-count.ensures.value ∙ c.requires.round.count ∙ sym c.requires.round.jobs;
  each = c.requires.round.words ∙ sym (c.jobs-count.ensures.value ∙ c.requires.round.count);
}

pub loop-dealt-preserved : goal.loop-dealt-preserved
loop-dealt-preserved g c =
    let i = c.loop-dealt.invariant in
    let seats = All-popped (IsSeatOf c.args.round.now.search.now.slots.now) _ _ _ c.take_last-seat.ensures.items i.seats.1 in
    let open_row = c.in_ok-row.ensures.items_if_clones_equal (search rules) in
    record {
      made = omega (arith, i.made, c.push_reserved.ensures.len);
      thieves = omega (arith, i.thieves, c.in_ok-push.ensures.len);
      seats = (omega (arith, i.seats.0, c.take_last-seat.ensures.len), seats.0);
      job_seats = (omega (arith, i.job_seats.0, c.take_last-job_seat.ensures.len), (All-popped (IsJobSeatOf c.args.round.now.least.now) _ _ _ c.take_last-job_seat.ensures.items i.job_seats.1).0);
      shares = All-snoc (IsShare g.J.Count.jobs c.args.round.now) _ _ _ c.push_reserved.ensures.items i.shares (record {
        round = c.requires.round;
        stop = refl;
        row = ap length open_row ∙ length-replicate c.from.result Open ∙ c.from.ensures ∙ c.jobs-count.ensures.value ∙ c.requires.round.count;
        right = fresh_right (WinsHere c.args.round.now) _ _ open_row;
        knows = fresh_knows _ _ _ open_row;
        seat = seats.1;
      });
      same = seat_taken _ _ _ _ _ _ _ c.take_last-seat.ensures.items c.push_reserved.ensures.items refl i.same;
      capacity = c.take_last-seat.ensures.capacity ∙ i.capacity;
      room = c.push_reserved.ensures.capacity ∙ i.room;
      dealt = dealt_more g.J.Count.jobs (length c.args.seats.now.items) _ _ _ _ _ _ _ c.push_reserved.ensures.items (search rules) (c.jobs-count.ensures.value ∙ c.requires.round.count) (omega (arith, i.made)) refl
          c.in_ok-local.ensures i.dealt;
    }
