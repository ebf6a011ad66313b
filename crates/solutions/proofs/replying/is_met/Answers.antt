use Rattle.decision.proofs.Options.{some_weaker}
use Rattle.solutions.proofs.Forcing.{met_by}
use Rattle.solutions.proofs.replying.is_met.Goals as goal

pub returns-clause-met : goal.returns-clause-met
returns-clause-met g c =
    some_weaker c.forces.result _ _ _
    (λ yes h. met_by c.args.goal c.args.board.now c.args.reply c.after-position.result c.after-position.ensures c.args.plies c.mover-attacker.result yes c.mover-attacker.ensures.value h) c.forces.ensures.answer
