use Rattle.std.proofs.Common.{◌≢◌, All, take}
use Rattle.command_line.specs.Words.{progress_word}
use Rattle.command_line.proofs.reading.asks_progress.Given as goal

-- no word so far asks for it
abbrev pub invariant-loop-word : goal.invariant-loop-word
invariant-loop-word g l = All (λ word. g.W.AsStr.text word ≢ progress_word) (take l.word-index l.words)
