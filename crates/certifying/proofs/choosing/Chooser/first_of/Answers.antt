use Rattle.std.proofs.Common.{sym, subst}
use Rattle.rules.specs.Moves.{IsLawful}
use Rattle.certifying.proofs.choosing.Chooser.first_of.Goals as goal

pub after-requires : goal.after-requires
after-requires c = subst (IsLawful c.args.q.now.position) (sym c.m-item.is) (c.requires.lawful c.loop-m.m-index c.m-item.result c.loop-m-test.true)
