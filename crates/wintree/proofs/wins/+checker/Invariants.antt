use Rattle.std.proofs.Common.{◌≡◌, ◌+◌, ◌*◌, max, drop}
use Rattle.wintree.proofs.Common.{depth, deepest_in, AllWin, highest_in}
use Rattle.wintree.proofs.wins.+checker.Given as goal

abbrev pub decreases-height_or_flaw : goal.decreases-height_or_flaw
decreases-height_or_flaw g l = 2 * depth l.tree.now

abbrev pub decreases-highest_or_flaw : goal.decreases-highest_or_flaw
decreases-highest_or_flaw g l = 2 * deepest_in l.replies.now + 1

-- all win where those that are left do
abbrev pub invariant-highest_or_flaw-loop-reply : goal.invariant-highest_or_flaw-loop-reply
invariant-highest_or_flaw-loop-reply g l =
    record {
      left : AllWin l.goal l.position (drop l.reply-index l.replies) → AllWin l.goal l.position l.replies;
      highest : max l.highest (highest_in (drop l.reply-index l.replies)) ≡ highest_in l.replies;
    }
