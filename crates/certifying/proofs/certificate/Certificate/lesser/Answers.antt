use Rattle.verifying.proofs.Failing.{front_lawful}
use Rattle.certifying.proofs.certificate.Certificate.lesser.Goals as goal

pub no_words-requires-clause-lawful : goal.no_words-requires-clause-lawful
no_words-requires-clause-lawful c =
    front_lawful c.begin_part.new.self.root.position c.lawful_on-moves.result.items c.as_slice-2.result.now c.place_of-lesser.result c.lawful_on-moves.ensures c.as_slice-2.ensures.value
