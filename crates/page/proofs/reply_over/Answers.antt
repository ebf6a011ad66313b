use Rattle.std.proofs.Common.{inr, refl}
use Rattle.refusals.specs.Reply.{refused}
use Rattle.refusals.specs.declared.refusal.Refusal.TheVariants.{NoMemory}
use Rattle.page.proofs.reply_over.Goals as goal

pub returns-in-None : goal.returns-in-None
returns-in-None c = (refused NoMemory, inr refl, c.no_memory.ensures)
