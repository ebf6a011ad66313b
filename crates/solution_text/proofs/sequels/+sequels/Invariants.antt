use Rattle.std.proofs.Common.{◌+◌, ◌*◌, take, string_bytes}
use Rattle.solution_text.proofs.Told.{TellsOver}
use Rattle.solution_text.proofs.sequels.+sequels.Given as goal

abbrev pub decreases-sequel_text : goal.decreases-sequel_text
decreases-sequel_text g l = 4 * l.found.now.plies

abbrev pub decreases-play_text : goal.decreases-play_text
decreases-play_text g l = 4 * l.left + 3

abbrev pub decreases-long_text : goal.decreases-long_text
decreases-long_text g l = 4 * l.plies + 1

abbrev pub decreases-reply_text : goal.decreases-reply_text
decreases-reply_text g l = 4 * l.limit + 1

abbrev pub decreases-sequels_text : goal.decreases-sequels_text
decreases-sequels_text g l = 4 * l.limit + 2

-- the replies so far
abbrev pub invariant-sequels_text-loop-reply : goal.invariant-sequels_text-loop-reply
invariant-sequels_text-loop-reply g l =
    record {
      goes : g.D.Decider.goes l.fn.decider l.decider;
      tells : TellsOver l.fn.teller.notation l.fn.teller.number l.fn.teller.set l.board l.limit (take l.reply-index l.reply-items) (string_bytes l.text);
    }
