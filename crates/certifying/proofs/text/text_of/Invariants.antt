-- the words so far are written
use Rattle.std.proofs.Common.{◌≡◌, take}
use Rattle.std.specs.List.{flat_map}
use Rattle.verifying.specs.Words.{word_text}
use Rattle.certifying.proofs.text.text_of.Given as goal

abbrev pub invariant-loop-word : goal.invariant-loop-word
invariant-loop-word l = l.text.items ≡ flat_map word_text (take l.word-index l.words)
