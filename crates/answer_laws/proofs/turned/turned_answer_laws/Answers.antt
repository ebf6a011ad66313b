use Rattle.problems.specs.Answer.{IsFewest, ForcesNothing}
use Rattle.answer_laws.proofs.BothWays.{both_ways}
use Rattle.answer_laws.proofs.TurnedKeys.{fewest_turned, nothing_turned, same_plies, keys_turned}
use Rattle.answer_laws.proofs.turned.turned_answer_laws.Goals as goal

pub returns-clause-fewest : goal.returns-clause-fewest
returns-clause-fewest c = λ wanted n. both_ways (λ b. IsFewest wanted b n) (λ t b d turned may. fewest_turned t b d turned may wanted n)

pub returns-clause-nothing : goal.returns-clause-nothing
returns-clause-nothing c = λ wanted limit. both_ways (λ b. ForcesNothing wanted b limit) (λ t b d turned may. nothing_turned t b d turned may wanted limit)

pub returns-clause-answers : goal.returns-clause-answers
returns-clause-answers c = same_plies

pub returns-clause-keys : goal.returns-clause-keys
returns-clause-keys c = keys_turned
