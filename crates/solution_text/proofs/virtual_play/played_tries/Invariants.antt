use Rattle.std.proofs.Common.{take, string_bytes}
use Rattle.solution_text.specs.Telling.{TellsPlayedTries}
use Rattle.solution_text.proofs.virtual_play.played_tries.Given as goal

-- the tries so far
abbrev pub invariant-loop-first_try : goal.invariant-loop-first_try
invariant-loop-first_try g l =
    record {
      goes : g.D.Decider.goes l.fn.decider l.decider;
      tells : TellsPlayedTries l.teller.notation l.root.board l.root.limit (take l.first_try-index l.tries) (string_bytes l.text);
    }
