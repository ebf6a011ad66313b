use Rattle.std.proofs.Common.{take}
use Rattle.problems.specs.Answer.{Wins}
use Rattle.solutions.proofs.Lists.{PicksMoves}
use Rattle.solutions.proofs.continuing.continuations_of.Given as goal

-- the jobs so far that win
abbrev pub invariant-loop-job : goal.invariant-loop-job
invariant-loop-job g l =
    record {
      goes : g.D.Decider.goes l.fn.decider l.decider;
      picks : PicksMoves l.root.board.game (Wins l.root.goal l.root.board l.plies) (take l.job l.root.moves.items) l.moves.items;
    }
