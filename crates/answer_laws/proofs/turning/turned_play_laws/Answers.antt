use Rattle.rules.specs.Forces.{Forces}
use Rattle.rules.specs.Moves.{IsMated, IsStalemated}
use Rattle.laws.proofs.Play.{IsInCheck-turned, IsInCheck-back, MayTurn-move, IsMove-turned}
use Rattle.laws.proofs.Forced.{IsMove-back, there_again, IsMated-turned, IsStalemated-turned, Forces-turned, Forces-back, Forces-mover}
use Rattle.answer_laws.proofs.BothWays.{both_ways}
use Rattle.answer_laws.proofs.turning.turned_play_laws.Goals as goal

pub returns-clause-moves : goal.returns-clause-moves
returns-clause-moves c = λ t b d turned may m q move.
    let found = IsMove-turned t b d turned may m q move in
    (found.0, found.1, found.2, MayTurn-move t b d turned may m q move)

pub returns-clause-no_others : goal.returns-clause-no_others
returns-clause-no_others c = λ t b d turned may m r move.
    let found = IsMove-back t b d turned may m r move in
    (_, found.0, there_again t b d turned may m r move, found.1, found.2)

pub returns-clause-check : goal.returns-clause-check
returns-clause-check c = λ t b d turned may side. (IsInCheck-turned t b d turned may side, IsInCheck-back t b d turned may side)

pub returns-clause-mated : goal.returns-clause-mated
returns-clause-mated c = both_ways IsMated IsMated-turned

pub returns-clause-stalemated : goal.returns-clause-stalemated
returns-clause-stalemated c = both_ways IsStalemated IsStalemated-turned

pub returns-clause-forced : goal.returns-clause-forced
returns-clause-forced c = λ t b d turned may wanted attacker n. (Forces-turned n t wanted attacker b d turned may, Forces-back n t wanted attacker b d turned may)

pub returns-clause-plies : goal.returns-clause-plies
returns-clause-plies c = λ wanted n. both_ways (λ b. Forces wanted b.mover b n) (Forces-mover wanted n)
