-- The moves so far are written.
use Rattle.std.proofs.Common.{◌≡◌, string_bytes, take}
use Rattle.answer_texts.specs.Answers.{moves_text}
use Rattle.answer_texts.proofs.answers.moves_text.Given as goal

abbrev pub invariant-loop-m : goal.invariant-loop-m
invariant-loop-m g l = string_bytes l.text ≡ moves_text (take l.m-index l.moves)
