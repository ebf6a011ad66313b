use Rattle.wintree.proofs.Forced.{forced_for_mover}
use Rattle.answer_laws.proofs.Heights.{no_sooner, wins_have_text, twice_as_high}
use Rattle.answer_laws.proofs.plans.winning_plan_laws.Goals as goal

pub returns-clause-forced : goal.returns-clause-forced
returns-clause-forced c = forced_for_mover

pub returns-clause-no_sooner : goal.returns-clause-no_sooner
returns-clause-no_sooner c = no_sooner

pub returns-clause-text : goal.returns-clause-text
returns-clause-text c = wins_have_text

pub returns-clause-height : goal.returns-clause-height
returns-clause-height c = twice_as_high
