-- The keys so far are written.
use Rattle.std.proofs.Common.{◌≡◌, string_bytes, take}
use Rattle.std.specs.List.{flat_map}
use Rattle.answer_texts.specs.Answers.{key_text}
use Rattle.answer_texts.proofs.answers.key_lines.Given as goal

abbrev pub invariant-loop-key : goal.invariant-loop-key
invariant-loop-key g l = string_bytes l.text ≡ flat_map key_text (take l.key-index l.keys)
