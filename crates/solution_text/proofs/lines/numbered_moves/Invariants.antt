use Rattle.std.proofs.Common.{take, string_bytes}
use Rattle.solution_text.specs.Text.{AreTexts, IsNumbered}
use Rattle.solution_text.proofs.lines.numbered_moves.Given as goal

-- the moves so far
abbrev pub invariant-loop-m : goal.invariant-loop-m
invariant-loop-m g l = AreTexts (IsNumbered l.notation l.number l.board) (take l.m-index l.moves) (string_bytes l.text)
