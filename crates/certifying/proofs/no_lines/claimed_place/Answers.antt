use Rattle.verifying.proofs.Failing.{lawful_item}
use Rattle.certifying.proofs.no_lines.claimed_place.Goals as goal

pub after-requires : goal.after-requires
after-requires c = lawful_item c.args.q.now.position c.args.replies.now c.loop-place.place c.index-replies-place.result c.requires c.loop-place-test.true c.index-replies-place.is
