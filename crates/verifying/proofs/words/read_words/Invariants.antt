use Rattle.std.proofs.Common.{◌≡◌, ◌≤◌, ◌++◌, take, replicate}
use Rattle.verifying.specs.Words.{words_line}
use Rattle.verifying.proofs.words.read_words.Given as goal

-- what was read is the words' text, and the Zs of the next word
abbrev pub invariant-loop-byte : goal.invariant-loop-byte
invariant-loop-byte g l = record {
  read : take l.byte-index l.line ≡ words_line l.words.items ++ replicate l.fifties 90;
  few : l.fifties ≤ l.byte-index;
}
