use Rattle.answer_laws.proofs.KeyLists.{answer_of_keys, first_is_key}
use Rattle.answer_laws.proofs.answers.answers_of_keys.Goals as goal

pub returns-clause-answer : goal.returns-clause-answer
returns-clause-answer c = answer_of_keys

pub returns-clause-first : goal.returns-clause-first
returns-clause-first c = λ goal b limit plies first keys answer lists. first_is_key goal b limit keys lists plies first answer
