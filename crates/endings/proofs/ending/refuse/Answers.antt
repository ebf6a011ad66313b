use Rattle.std.proofs.Common.{inr}
use Rattle.endings.proofs.ending.refuse.Goals as goal

pub returns-in-Err-clause-written : goal.returns-in-Err-clause-written
returns-in-Err-clause-written g c = inr c.give_up_for_memory.ensures.written
