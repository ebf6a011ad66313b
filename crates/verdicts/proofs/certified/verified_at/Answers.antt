use Rattle.std.proofs.Common.{◌∙◌, ℕ, List, ap, vec_items}
use Rattle.verdicts.proofs.VerdictLemmas.{answer_shown, fault_shown}
use Rattle.verdicts.proofs.certified.verified_at.Goals as goal

pub returns-in_ok-answer_text-in-Ok-clause-shown : goal.returns-in_ok-answer_text-in-Ok-clause-shown
returns-in_ok-answer_text-in-Ok-clause-shown g c =
    answer_shown vec_items c.args.goal c.args.position.now (g.S.Source.remaining c.args.reader.now) c.in-Ok.answer c.into_bytes.result (rw (← c.of.ensures) c.in-Ok.ensures.answer) (rw (← c.of.ensures) c.in-Ok.ensures.certificate)
    (ap vec_items c.into_bytes.ensures.value ∙ c.in_ok-answer_text-in-Ok.ensures)

pub returns-in-Err-clause-shown : goal.returns-in-Err-clause-shown
returns-in-Err-clause-shown g c =
    fault_shown (λ (x : List ℕ). x) c.args.goal c.args.position.now (g.S.Source.remaining c.args.reader.now) c.in-Err.fault c.reply_fault_of_certificate.result (rw (← c.of.ensures) c.in-Err.ensures.refused) c.reply_fault_of_certificate.ensures
