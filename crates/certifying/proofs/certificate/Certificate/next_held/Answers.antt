use Rattle.verifying.proofs.Failing.{all_lawful}
use Rattle.certifying.proofs.certificate.Certificate.next_held.Goals as goal

pub no_words-requires-clause-lawful : goal.no_words-requires-clause-lawful
no_words-requires-clause-lawful c = all_lawful c.in-Some.q.position c.lawful_on-moves.result.items c.as_slice.result.now c.lawful_on-moves.ensures c.as_slice.ensures.value
