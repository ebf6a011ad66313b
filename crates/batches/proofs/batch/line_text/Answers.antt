use Rattle.std.proofs.lemmas.Result.{IfOk-weaker}
use Rattle.batches.proofs.batch.line_text.Goals as goal

pub returns : goal.returns
returns g c = IfOk-weaker c.echoed.result _ _
    (λ text is. rw (← c.said_in-said.ensures) (c.in_ok-plain.plain.items, c.in_ok-plain.ensures, is)) c.echoed.ensures
