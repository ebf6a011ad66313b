use Rattle.std.proofs.Common.{◌≡◌, ◌-◌, length}
use Rattle.verifying.proofs.Common.{AreApart, MeetsReply}
use Rattle.verifying.proofs.Making.{IsLeft}
use Rattle.verifying.proofs.yes_claims.wins_after.Given as goal

-- what is left to tell are the replies from here on
abbrev pub invariant-loop-i : goal.invariant-loop-i
invariant-loop-i g l = record {
  same_length : length l.words ≡ length l.replies.items;
  apart : AreApart l.claims;
  left : IsLeft (MeetsReply l.goal l.board (l.plies - 2)) l.replies.items l.words l.fn.claims l.i l.claims;
}
