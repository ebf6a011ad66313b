use Rattle.context.proofs.NamingLemmas.{none_read}
use Rattle.replies.proofs.played.named_move.Goals as goal

pub returns-in_err-m : goal.returns-in_err-m
returns-in_err-m c = rw c.from_residual.ensures (none_read c.args.position.now c.args.name.now c.in_err-m.ensures.read)
