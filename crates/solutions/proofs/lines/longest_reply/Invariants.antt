use Rattle.std.proofs.Common.{All, take, ◌-◌}
use Rattle.solutions.specs.Lines.{IsMet}
use Rattle.solutions.proofs.lines.longest_reply.Given as goal

-- the replies so far are met in two plies less
abbrev pub invariant-loop-reply : goal.invariant-loop-reply
invariant-loop-reply g l =
    record {
      goes : g.D.Decider.goes l.fn.decider l.decider;
      met : All (IsMet l.goal l.board (l.plies - 2)) (take l.reply-index l.reply-items);
    }
