-- What is shown of a search within its limits.
use Rattle.std.specs.Prelude.{◌≡◌, ℕ, List, MatchOption}
use Rattle.board.specs.Board.{PlainBoard}
use Rattle.rules.specs.declared.goal.Goal.{Goal}
use Rattle.problems.specs.declared.answer.Answer.{Answer}
use Rattle.problems.specs.Answer.{IsAnswer}
use Rattle.command_line.specs.declared.line.Limits.{Limits}
use Rattle.refusals.specs.Reply.{Reply, answered, refused}
use Rattle.refusals.specs.Outcome.{IsReplyAt}
use Rattle.answer_texts.specs.Answers.{answer_text}
use Rattle.context.specs.Limits.{fault_of, refusal_of_solve}

-- what is shown where all these values are taken, or the refusal of the first that isn't
abbrev pub ShowsWithin : Limits → (Reply → Type 0) → Reply → Type 0
ShowsWithin limits Shows reply = MatchOption (fault_of limits) (Shows reply) (λ fault. reply ≡ refused (refusal_of_solve fault))

-- the answer for a goal within the limit, or the refusal of the limits
abbrev pub ShowsAnswer : Goal → PlainBoard → Limits → Reply → Type 0
ShowsAnswer goal b limits reply = ShowsWithin limits
    (λ reply. (answer : Answer) × IsAnswer goal b limits.limit answer × (reply ≡ answered (answer_text goal answer))) reply

-- the reply to a solve of the position of this text
abbrev pub ShowsPosition : Goal → Limits → List ℕ → Reply → Type 0
ShowsPosition goal limits text reply = IsReplyAt text (λ b. ShowsAnswer goal b limits) reply
