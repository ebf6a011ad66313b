use Rattle.std.proofs.Common.{◌≡◌, length}
use Rattle.verifying.proofs.Common.{AreApart, FailsBecause}
use Rattle.verifying.proofs.Making.{IsLeft}
use Rattle.verifying.proofs.no_claims.all_fail.Given as goal

-- what is left to tell are the moves from here on
abbrev pub invariant-loop-i : goal.invariant-loop-i
invariant-loop-i g l = record {
  same_length : length l.words ≡ length l.moves;
  apart : AreApart l.claims;
  left : IsLeft (FailsBecause l.goal l.claim.position l.claim.plies) l.moves l.words l.fn.claims l.i l.claims;
}
