use Rattle.std.proofs.Common.{◌≡◌, ◌≤◌, max, drop}
use Rattle.wintree.specs.Plan.{deepest_in, ArePlansIn}
use Rattle.wintree.proofs.tree.deepest.Given as goal

abbrev pub invariant-loop-reply : goal.invariant-loop-reply
invariant-loop-reply g l =
    record {
      greatest : max l.deepest (deepest_in (drop l.reply-index l.replies)) ≡ deepest_in l.replies;
      limit : l.deepest ≤ 32;
      moves : ArePlansIn (drop l.reply-index l.replies) → ArePlansIn l.replies;
    }
