use Rattle.std.proofs.Common.{subst}
use Rattle.entry.proofs.Common.{PlainBoard, entry_of, Packing}
use Rattle.entry.proofs.packing.pack_board.Goals as goal

pub returns : goal.returns
returns c = subst (λ (b : PlainBoard). Packing (entry_of b c.args.attacker c.args.goal c.args.interval) c.with_marks.result) c.words.ensures.value c.with_marks.ensures
