use Rattle.std.proofs.Common.{sym, subst}
use Rattle.rules.specs.Moves.{IsLawful}
use Rattle.certifying.proofs.yes_lines.met_all.Goals as goal

pub after-requires : goal.after-requires
after-requires c = subst (IsLawful c.args.q.now.position) (sym c.reply-item.is) (c.requires.lawful c.loop-reply.reply-index c.reply-item.result c.loop-reply-test.true)
