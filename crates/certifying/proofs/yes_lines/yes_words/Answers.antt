use Rattle.verifying.proofs.Failing.{all_lawful}
use Rattle.certifying.proofs.yes_lines.yes_words.Goals as goal

pub met_all-requires-clause-lawful : goal.met_all-requires-clause-lawful
met_all-requires-clause-lawful c = all_lawful c.after-next.result.position c.lawful_on-replies.result.items c.as_slice-2.result.now c.lawful_on-replies.ensures c.as_slice-2.ensures.value
