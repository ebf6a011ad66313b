use Rattle.verifying.proofs.Failing.{all_lawful}
use Rattle.certifying.proofs.no_lines.escape.Goals as goal

pub claimed_place-requires : goal.claimed_place-requires
claimed_place-requires c = all_lawful c.args.q.now.position c.lawful_on-replies.result.items c.as_slice.result.now c.lawful_on-replies.ensures c.as_slice.ensures.value
