-- those so far
use Rattle.std.proofs.Common.{take, string_bytes}
use Rattle.solution_text.specs.Text.{AreTexts}
use Rattle.solution_text.proofs.entries.texts.Given as goal

abbrev pub invariant-loop-entry : goal.invariant-loop-entry
invariant-loop-entry g l = AreTexts (g.T.Entry.shows l.notation l.board) (take l.entry-index l.entries) (string_bytes l.text)
