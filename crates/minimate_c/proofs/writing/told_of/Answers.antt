use Rattle.minimate_c.specs.Putting.{TellsText}
use Rattle.minimate_c.proofs.WritingLemmas.{halt_tells, told_as_asked, unasked_tells}
use Rattle.minimate_c.proofs.writing.told_of.Goals as goal

pub returns-in-Err-clause-why : goal.returns-in-Err-clause-why
returns-in-Err-clause-why c = unasked_tells c.args.asked.now.fen.now c.args.asked.now.limit _ c.in-Err.why c.in-Err.ensures.why

pub returns-in-Ok-told_at-clause-told : goal.returns-in-Ok-told_at-clause-told
returns-in-Ok-told_at-clause-told c =
    told_as_asked (TellsText c.args.telling) c.args.asked.now.fen.now c.args.asked.now.stale c.args.asked.now.limit c.in-Ok.problem _ _
    c.in-Ok.ensures.asked c.in-Ok-told_at.ensures.told

pub returns-in-Err-told_at-clause-why : goal.returns-in-Err-told_at-clause-why
returns-in-Err-told_at-clause-why c =
    halt_tells c.args.asked.now.fen.now c.args.asked.now.limit _ c.in-Err-told_at.halt c.number_of.result c.in-Err-told_at.ensures.halt c.number_of.ensures
