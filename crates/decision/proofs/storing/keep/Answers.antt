use Rattle.decision.specs.Callers.{OffersKnown}
use Rattle.decision.proofs.Callers.{goes_more, on_later}
use Rattle.decision.proofs.Replies.{known_as}
use Rattle.decision.proofs.Below.{known_behind}
use Rattle.decision.proofs.storing.keep.Goals as goal

pub keep_far-requires : goal.keep_far-requires
keep_far-requires g c = known_as c.copied.result c.image.result c.args.known c.image.ensures (rw c.copied.ensures c.requires)

pub returns-clause-goes_on : goal.returns-clause-goes_on
returns-clause-goes_on g c = goes_more c.keep_far.ensures c.offer.ensures.goes_on

pub returns-clause-kept : goal.returns-clause-kept
returns-clause-kept g c =
    let offered = rw (c.first_slot-slot.ensures.value, c.table_key.ensures.value, c.pack_board-words.ensures.words) at c.offer.ensures.offered in
    on_later (OffersKnown c.args.q.now c.args.known) c.keep_far.ensures c.offer.ensures.goes_on (known_behind c.args.q.now c.args.known) offered
