use Rattle.std.proofs.Common.{take, string_bytes}
use Rattle.solution_text.specs.Text.{AreTexts}
use Rattle.solution_text.specs.WholeText.{IsRefutationText}
use Rattle.solution_text.proofs.virtual_play.refutations_text.Given as goal

-- the replies so far
abbrev pub invariant-loop-reply : goal.invariant-loop-reply
invariant-loop-reply g l = AreTexts (IsRefutationText l.notation l.board) (take l.reply-index l.replies) (string_bytes l.text)
