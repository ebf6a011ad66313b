use Rattle.std.proofs.Common.{sym, subst}
use Rattle.decision.specs.Calls.{Continues}
use Rattle.decision.proofs.Calls.{continues_none}
use Rattle.rounds.proofs.watched.watched_keeps_on.Goals as goal

pub returns : goal.returns
returns c = λ table before after seat same. subst (Continues table before) (sym same) (continues_none table before seat)
