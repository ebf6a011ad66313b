use Rattle.std.proofs.Common.{ap, sym, ◌∙◌, Some}
use Rattle.minimate_c.specs.Putting.{TellsText}
use Rattle.minimate_c.proofs.WritingLemmas.{finds_told, none_finds}
use Rattle.minimate_c.proofs.writing.told_by.Goals as goal

pub returns-in_default : goal.returns-in_default
returns-in_default c =
    none_finds (TellsText c.args.telling) c.args.asked.now.fen.now c.args.asked.now.stale c.args.asked.now.limit c.args.handle.now.held.value c.take.new.self.held.value
    c.in_default.ensures.taken.1

pub returns : goal.returns
returns c =
    finds_told (TellsText c.args.telling) c.args.asked.now.fen.now c.args.asked.now.stale c.args.asked.now.limit c.args.handle.now.held.value c.put.new.self.held.value
    c.deref_mut.result.now c.told_of-told.new.solver c.told_of-told.result
    (c.in-Some.ensures.taken.1 ∙ ap Some (sym c.deref_mut.ensures.value)) c.put.ensures.put c.told_of-told.ensures.hears
    c.told_of-told.ensures.told c.told_of-told.ensures.why
