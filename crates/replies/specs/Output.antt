-- What the program writes for a line, and the status that it ends with.
use Rattle.std.specs.Prelude.{◌≡◌, ◌⊎◌, ℕ, List, [], ◌≢◌, ◌≤◌, nat_lt, length, Option, Some, MatchBool, SomeIff}
use Rattle.board.specs.Board.{PlainBoard}
use Rattle.rules.specs.declared.goal.Goal.{Goal}
use Rattle.rules.specs.declared.goal.Goal.TheVariants as goal
use Rattle.rules.specs.Order.{ListsLawful}
use Rattle.rules.specs.Squares.{Ply}
use Rattle.problems.specs.Answer.{IsFewest, ForcesNothing}
use Rattle.problems.specs.declared.key.Key.{Key}
use Rattle.problems.specs.Keys.{ListsKeys}
use Rattle.searcher.specs.Best.{IsBest}
use Rattle.wintree.specs.declared.fault.TreeFault.{TreeFault}
use Rattle.wintree.specs.declared.fault.TreeFault.TheVariants as tree
use Rattle.wintree.specs.Offset.{IsFaultOf}
use Rattle.wintree.specs.Plan.{Plan, depth}
use Rattle.wintree.specs.Text.{TreeText, text as plan_text}
use Rattle.wintree.specs.Wins.{Wins, height}
use Rattle.answer_texts.specs.Answers.{checked_text, keys_text, moves_text, none_text}
use Rattle.devices.specs.Input.{without_line_feed}
use Rattle.refusals.specs.Refusal.{refusal_of_tree}
use Rattle.refusals.specs.Reply.{Reply, answered, refused, line_of}
use Rattle.command_line.specs.declared.line.Line.{Line}
use Rattle.command_line.specs.declared.line.Limits.{Limits}
use Rattle.command_line.specs.declared.line.Action.{Action}
use Rattle.command_line.specs.declared.line.Action.TheVariants.{Solve, Keys, Moves, Tree, Check}
use Rattle.refusals.specs.declared.refusal.Refusal.TheVariants.{TooLong}
use Rattle.refusals.specs.Outcome.{IsSoundText, IsReplyAt}
use Rattle.context.specs.Shown.{ShowsAnswer, ShowsWithin}

-- ---- the reply to each command, at a position

-- the first moves that force a goal within the limit, in order, each with its plies; or the refusal of the limits
abbrev pub ShowsKeys : Goal → PlainBoard → Limits → Reply → Type 0
ShowsKeys goal b limits reply = ShowsWithin limits
    (λ reply. (keys : List Key) × ListsKeys goal b limits.limit keys × (reply ≡ answered (keys_text limits.limit keys))) reply

-- the text of the best plan, where the goal is forced in some number of plies up to the limit, or that it is in none
abbrev pub ShowsBest : Goal → PlainBoard → ℕ → Reply → Type 0
ShowsBest goal b limit reply =
    ((plies : ℕ) × (plies ≤ limit) × IsFewest goal b plies × ((plan : Plan) × IsBest goal b plan × (reply ≡ answered (line_of (plan_text plan)))))
    ⊎ (ForcesNothing goal b limit × (reply ≡ answered (none_text limit)))

-- the same, or the refusal of the first value that is outside its limits
abbrev pub ShowsPlanFound : Goal → PlainBoard → Limits → Reply → Type 0
ShowsPlanFound goal b limits reply = ShowsWithin limits (ShowsBest goal b limits.limit) reply

-- the lawful moves, in order
abbrev pub ShowsMoves : PlainBoard → Reply → Type 0
ShowsMoves b reply = (moves : List Ply) × ListsLawful b moves × (reply ≡ answered (moves_text moves))

-- the height of a plan that wins for the goal, or that it doesn't win
abbrev pub ShowsPlan : Goal → PlainBoard → Plan → Reply → Type 0
ShowsPlan goal b plan reply =
    (plies : Option ℕ) × SomeIff plies (Wins goal b plan) (height plan) × (reply ≡ answered (checked_text plies))

-- the text is that of the plan, in which at most 32 of the attacker's moves are nested
abbrev pub IsTreeText : List ℕ → Plan → Type 0
IsTreeText text plan = TreeText text plan × (depth plan ≤ 32)

-- the text is no such plan's, and this is its fault
abbrev pub IsTreeFault : List ℕ → TreeFault → Type 0
IsTreeFault text fault = IsFaultOf text fault × (fault ≢ tree.NoMemory)

-- what is said of the text's plan, or the refusal of the text's fault
abbrev pub ShowsTree : Goal → PlainBoard → List ℕ → Reply → Type 0
ShowsTree goal b text reply =
    ((plan : Plan) × IsTreeText text plan × ShowsPlan goal b plan reply)
    ⊎ ((fault : TreeFault) × IsTreeFault text fault × (reply ≡ refused (refusal_of_tree fault)))

-- the same of the input without a line feed at its end, or that the input is too long: more than 1,048,576 bytes
abbrev pub ShowsCheck : Goal → PlainBoard → List ℕ → Reply → Type 0
ShowsCheck goal b input reply =
    MatchBool (nat_lt 1048576 (length input)) (reply ≡ refused TooLong) (ShowsTree goal b (without_line_feed input) reply)

-- the reply of the command
abbrev pub ShowsCommand : PlainBoard → Action → List ℕ → Reply → Type 0
ShowsCommand b (Solve goal limits) input reply = ShowsAnswer goal b limits reply
ShowsCommand b (Keys goal limits) input reply = ShowsKeys goal b limits reply
ShowsCommand b Moves input reply = ShowsMoves b reply
ShowsCommand b (Tree goal limits) input reply = ShowsPlanFound goal b limits reply
ShowsCommand b (Check goal) input reply = ShowsCheck goal b input reply

-- ---- the output of a line

-- the reply to a line with this input: its command's at the sound position of its text, or the refusal of its text's fault
abbrev pub IsOutput : Line → List ℕ → Reply → Type 0
IsOutput line input reply = IsReplyAt line.fen.now (λ b. ShowsCommand b line.action input) reply

-- what is known of the input that a command reads: all but `check` read none
abbrev pub input_of : Action → Option (List ℕ) → Option (List ℕ)
input_of (Check goal) known = known
input_of _ known = Some []

-- the line reads the input: it is a `check` at a sound position
abbrev pub MayRead : Line → Type 0
MayRead line = ((goal : Goal) × (line.action ≡ Check goal)) × ((b : PlainBoard) × IsSoundText line.fen.now b)
