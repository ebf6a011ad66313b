use Rattle.answer_laws.proofs.OneAnswer.{one_answer, one_list_of_keys}
use Rattle.answer_laws.proofs.answers.one_answer_laws.Goals as goal

pub returns-clause-answer : goal.returns-clause-answer
returns-clause-answer c = one_answer

pub returns-clause-keys : goal.returns-clause-keys
returns-clause-keys c = one_list_of_keys
