use Rattle.std.proofs.Common.{◌≢◌, ℕ, ◌<◌, Some, slice_get}
use Rattle.wintree.proofs.Common.{moves_in}
use Rattle.wintree.proofs.wins.is_among.Given as goal

-- no reply so far is the move
abbrev pub invariant-loop-reply : goal.invariant-loop-reply
invariant-loop-reply g l = (k : ℕ) → k < l.reply-index → slice_get (moves_in l.replies) k ≢ Some l.m
