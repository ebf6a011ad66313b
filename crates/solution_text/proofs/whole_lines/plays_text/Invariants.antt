use Rattle.std.proofs.Common.{take, string_bytes}
use Rattle.solution_text.specs.Telling.{TellsKeys}
use Rattle.solution_text.proofs.whole_lines.plays_text.Given as goal

-- the keys so far
abbrev pub invariant-loop-key : goal.invariant-loop-key
invariant-loop-key g l =
    record {
      goes : g.D.Decider.goes l.fn.decider l.decider;
      tells : TellsKeys l.teller.notation l.teller.set l.root.board l.root.limit (take l.key-index l.keys) (string_bytes l.text);
    }
