use Rattle.problems.proofs.Jobs.{got_at, move_at}
use Rattle.context.proofs.NamingLemmas.{job_lawful}
use Rattle.replies.proofs.first.tell_refutation.Goals as goal

pub after-next-requires : goal.after-next-requires
after-next-requires g c =
    let items = c.args.root.now.moves.items in
    let m = c.index-deref-from.result in
    let is = move_at items c.deref.result.now c.from.result c.args.job m c.deref.ensures.0 c.from.ensures c.index-deref-from.is in
    job_lawful c.args.root.now c.args.job m c.requires.job (got_at items c.args.job m c.requires.job.1 is)
