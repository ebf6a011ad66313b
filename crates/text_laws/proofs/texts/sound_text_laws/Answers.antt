use Rattle.text_laws.proofs.Faults.{one_sound_fault, no_sound_fault}
use Rattle.text_laws.proofs.texts.sound_text_laws.Goals as goal

pub returns-clause-fault : goal.returns-clause-fault
returns-clause-fault c = one_sound_fault

pub returns-clause-no_fault : goal.returns-clause-no_fault
returns-clause-no_fault c = no_sound_fault
