use Rattle.batches.proofs.BatchLemmas.{line_reply}
use Rattle.batches.proofs.batch.next_text.Goals as goal

pub returns-in-End : goal.returns-in-End
returns-in-End g c = λ line next. rw c.in-End.is at next

pub returns-in_ok-line_text-in-Line : goal.returns-in_ok-line_text-in-Line
returns-in_ok-line_text-in-Line g c =
    λ line next. line_reply c.args.batch.now c.in-Line.line _ line (rw c.in-Line.is at next) (rw (← c.as_slice.ensures.value) c.in_ok-line_text-in-Line.ensures)
