use Rattle.std.proofs.lemmas.Result.{IfOk-weaker}
use Rattle.solution_text.proofs.tries.TryEntry.text.Goals as goal

pub returns : goal.returns
returns g c =
    IfOk-weaker c.format.result _ _ (λ text is. (c.after-next.result, c.after-next.ensures, c.name-name.result, c.name-name.ensures, c.name-reply.result, c.name-reply.ensures, is)) c.format.ensures.ok
