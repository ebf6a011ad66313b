use Rattle.std.proofs.Common.{inr, refl}
use Rattle.refusals.specs.Reply.{refused}
use Rattle.refusals.specs.declared.refusal.Refusal.TheVariants.{NoMemory}
use Rattle.calls.proofs.answering.reply.Goals as goal

pub returns-in-Err-refused_text : goal.returns-in-Err-refused_text
returns-in-Err-refused_text g c = (refused NoMemory, inr refl, c.no_memory.ensures)
