use Rattle.std.proofs.Common.{◌-◌, ◌*◌, ◌+◌, ◌≤◌, length, All}
use Rattle.wintree.proofs.Common.{depth, ArePlansIn, Stands, AreRepliesAhead, Spans, listed_text}
use Rattle.wintree.proofs.read.+reader.Given as goal

abbrev pub decreases-tree_at : goal.decreases-tree_at
decreases-tree_at g l = 2 * (32 - l.inside)

abbrev pub decreases-replies_at : goal.decreases-replies_at
decreases-replies_at g l = 2 * (32 - l.inside) + 1

-- what was read are replies with commas, and more replies are ahead
abbrev pub invariant-replies_at-loop-replies : goal.invariant-replies_at-loop-replies
invariant-replies_at-loop-replies g l =
    record {
      later : l.at ≤ l.start;
      spans : Spans l.bytes l.at l.start (listed_text l.replies.items);
      stands : Stands l.bytes l.start l.inside (AreRepliesAhead l.inside);
      room : All (λ reply. depth reply.1 + l.inside ≤ 32) l.replies.items;
      plans : ArePlansIn l.replies.items;
    }

abbrev pub decreases-replies_at-loop-replies : goal.decreases-replies_at-loop-replies
decreases-replies_at-loop-replies g l = length l.bytes - l.start
