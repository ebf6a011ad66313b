use Rattle.std.proofs.Common.{ap, ◌∙◌, vec_items}
use Rattle.minimate_c.proofs.WritingLemmas.{keys_tell}
use Rattle.minimate_c.proofs.writing.keys_at.Goals as goal

pub returns-in-Ok-clause-told : goal.returns-in-Ok-clause-told
returns-in-Ok-clause-told c =
    keys_tell c.args.problem.now.goal c.args.problem.now.position c.args.problem.now.limit c.in_ok-keys.keys.items c.number_for-number.result _
    c.in_ok-keys.ensures.keys (rw c.as_slice.ensures.value at c.number_for-number.ensures)
    (ap vec_items c.into_bytes.ensures.value ∙ (rw (c.from.ensures, c.as_slice-2.ensures.value) at c.in-Ok.ensures))
