use Rattle.moves.proofs.Common.{sym, ap, ◌∙◌, inl, promotions_of}
use Rattle.moves.proofs.counting.moves_to_each.Goals as goal

pub returns-in-LosAlamos-clause-each : goal.returns-in-LosAlamos-clause-each
returns-in-LosAlamos-clause-each c = λ to r. inl ((c.may_promote.ensures to r).0 c.if-not-may_promote.false, sym (ap promotions_of (sym c.game.ensures.value ∙ c.in-LosAlamos.is)))

pub returns-in-Gardner-clause-each : goal.returns-in-Gardner-clause-each
returns-in-Gardner-clause-each c = λ to r. inl ((c.may_promote.ensures to r).0 c.if-not-may_promote.false, sym (ap promotions_of (sym c.game.ensures.value ∙ c.in-Gardner.is)))
