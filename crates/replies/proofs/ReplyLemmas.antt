-- A reply, from what its parts give.
use Rattle.std.proofs.Common.{◌≡◌, ◌≤◌, ◌⊎◌, ℕ, nat_lt, MatchBool, List, [], Option, Some, Result, Ok, Err, IsErr, IsErrAnd, length, inl, inr, refl, sym, ap, subst}
use Rattle.std.proofs.lemmas.Bool.{le-ltb, lt-ltb}
use Rattle.board.specs.Board.{PlainBoard}
use Rattle.board.specs.declared.fault.FenFault.{FenFault}
use Rattle.rules.specs.Reading.{IsSoundFault}
use Rattle.devices.specs.Input.{IsInput, IsTooLong, OfInput}
use Rattle.refusals.specs.Outcome.{Gives, GivesIfRead, reply_fault_of, IsSoundText}
use Rattle.replies.specs.Outcome.{GivesReply}
use Rattle.replies.specs.Output.{IsOutput, ShowsCommand, input_of}
use Rattle.rules.specs.declared.goal.Goal.{Goal}
use Rattle.command_line.specs.declared.line.Action.TheVariants.{Solve, Keys, Moves, Tree, Check}
use Rattle.refusals.specs.Reply.{Reply, refused}
use Rattle.refusals.specs.Refusal.{refusal_of_fen}
use Rattle.command_line.specs.declared.line.Line.{Line}
use Rattle.command_line.specs.declared.line.Action.{Action}
use Rattle.refusals.specs.declared.refusal.Refusal.{Refusal}
use Rattle.refusals.specs.declared.refusal.Refusal.TheVariants.{NoMemory, TooLong}
use Rattle.devices.specs.declared.transfer.InputFault.{InputFault}
use Rattle.devices.specs.declared.transfer.InputFault.TheVariants as input
use Rattle.refusals.specs.declared.reply_fault.ReplyFault.{ReplyFault}
use Rattle.refusals.specs.declared.reply_fault.ReplyFault.TheVariants.{Refused, ReadFailed}
use Rattle.devices.proofs.InputLemmas.{of_any, of_input_then}
use Rattle.refusals.proofs.OutcomeLemmas.{refusal_gives}

-- a text of a fault is refused, whatever the input
pub fault_gives : {B : Type 0} (bytes : B → List ℕ) (line : Line) (known : Option (List ℕ)) (r : Result B ReplyFault) (fault : FenFault)
    → IsSoundFault line.fen.now fault → IsErr r × IsErrAnd r (λ told. told ≡ Refused (refusal_of_fen fault)) → GivesReply bytes line known r
fault_gives bytes line known r fault is err =
    of_any (input_of line.action known) _
    (λ input. refusal_gives bytes (IsOutput line input) r (refusal_of_fen fault) (inr (inr (fault, is, refl))) err)

-- the reply of the command at the sound position of the line is the line's output
output_at : (line : Line) (input : List ℕ) (b : PlainBoard) (action : Action) (reply : Reply) → IsSoundText line.fen.now b → line.action ≡ action
    → ShowsCommand b action input reply → IsOutput line input reply
output_at line input b action reply sound is shows = inl (b, sound, subst (λ a. ShowsCommand b a input reply) (sym is) shows)

-- what a command gives at the sound position of the line, a reply gives
gives_at : {B : Type 0} (bytes : B → List ℕ) (line : Line) (input : List ℕ) (b : PlainBoard) (action : Action) (r : Result B ReplyFault)
    → IsSoundText line.fen.now b → line.action ≡ action → GivesIfRead bytes (ShowsCommand b action input) r → GivesIfRead bytes (IsOutput line input) r
gives_at bytes line input b action (Ok text) sound is gives = output_at line input b action _ sound is gives
gives_at bytes line input b action (Err (Refused refusal)) sound is (inl none) = inl none
gives_at bytes line input b action (Err (Refused refusal)) sound is (inr shows) = inr (output_at line input b action _ sound is shows)
gives_at bytes line input b action (Err ReadFailed) sound is gives = tt

-- the same with the input that the command reads
pub gives_reply : {B : Type 0} (bytes : B → List ℕ) (line : Line) (known : Option (List ℕ)) (b : PlainBoard) (action : Action) (r : Result B ReplyFault)
    → IsSoundText line.fen.now b → line.action ≡ action → OfInput (input_of action known) (λ input. GivesIfRead bytes (ShowsCommand b action input) r)
    → GivesReply bytes line known r
gives_reply {B} bytes line known b action r sound is gives =
    subst (λ a. OfInput (input_of a known) (λ input. GivesIfRead bytes (IsOutput line input) r)) (sym is)
    (of_input_then (input_of action known) _ _ gives (λ input one. gives_at bytes line input b action r sound is one))

-- the same of a command that reads no input
pub gives_unread : {B : Type 0} (bytes : B → List ℕ) (line : Line) (known : Option (List ℕ)) (b : PlainBoard) (action : Action) (r : Result B ReplyFault)
    → IsSoundText line.fen.now b → line.action ≡ action → input_of action known ≡ Some [] → GivesIfRead bytes (ShowsCommand b action []) r
    → GivesReply bytes line known r
gives_unread {B} bytes line known b action r sound is none gives =
    gives_reply bytes line known b action r sound is
    (subst (λ o. OfInput o (λ input. GivesIfRead bytes (ShowsCommand b action input) r)) (sym none) ([], refl, gives))

-- the same where no read is to fail
pub gives_output : {B : Type 0} (bytes : B → List ℕ) (line : Line) (input : List ℕ) (b : PlainBoard) (action : Action) (r : Result B Refusal)
    → IsSoundText line.fen.now b → line.action ≡ action → Gives bytes (ShowsCommand b action input) r → Gives bytes (IsOutput line input) r
gives_output bytes line input b action (Ok text) sound is gives = output_at line input b action _ sound is gives
gives_output bytes line input b action (Err refusal) sound is (inl none) = inl none
gives_output bytes line input b action (Err refusal) sound is (inr shows) = inr (output_at line input b action _ sound is shows)

-- ---- an input of so many bytes at most

-- what is so of an input that isn't too long
abbrev IfFits : ℕ → (List ℕ → Reply → Type 0) → List ℕ → Reply → Type 0
IfFits most ShowsCommand input reply = MatchBool (nat_lt most (length input)) (reply ≡ refused TooLong) (ShowsCommand input reply)

shows_fit : (most : ℕ) (ShowsCommand : List ℕ → Reply → Type 0) (input : List ℕ) (reply : Reply) → length input ≤ most → ShowsCommand input reply → IfFits most ShowsCommand input reply
shows_fit most ShowsCommand input reply fits shows = rw (le-ltb most (length input) fits) shows

-- what is refused of the input that was read is refused of the reader's input
pub input_refused : {B : Type 0} (bytes : B → List ℕ) (most : ℕ) (ShowsCommand : List ℕ → Reply → Type 0) (known : Option (List ℕ)) (read : List ℕ) (r : Result B ReplyFault) (refusal : Refusal)
    → IsInput most known read → (refusal ≡ NoMemory) ⊎ ShowsCommand read (refused refusal)
    → IsErr r × IsErrAnd r (λ fault. fault ≡ Refused refusal)
    → OfInput known (λ input. GivesIfRead bytes (IfFits most ShowsCommand input) r)
input_refused {B} bytes most ShowsCommand known read r refusal is right err =
    let here : GivesIfRead bytes (IfFits most ShowsCommand read) r = refusal_gives bytes (IfFits most ShowsCommand read) r refusal
    (elim right [ inl none ↦ inl none | inr shows ↦ inr (shows_fit most ShowsCommand read (refused refusal) is.0 shows) ]) err in
    (read, is.1, here)

-- an input that wasn't taken is too long, or memory is wanting, or a read failed
pub input_unread : {B : Type 0} (bytes : B → List ℕ) (most : ℕ) (ShowsCommand : List ℕ → Reply → Type 0) (known : Option (List ℕ)) (r : Result B ReplyFault) (fault : InputFault)
    → (fault ≡ input.TooLong → IsTooLong most known) → IsErr r × IsErrAnd r (λ told. told ≡ reply_fault_of fault)
    → OfInput known (λ input. GivesIfRead bytes (IfFits most ShowsCommand input) r)
input_unread bytes most ShowsCommand known (Ok text) fault long err = absurd err.1
input_unread bytes most ShowsCommand known (Err (Refused refusal)) input.TooLong long err =
    let same : TooLong ≡ refusal = cc in
    of_input_then known _ _ (long refl) (λ read big. inr (rw (lt-ltb most (length read) big) (ap refused (sym same))))
input_unread bytes most ShowsCommand known (Err (Refused refusal)) input.NoMemory long err = of_any known _ (λ read. inl cc)
input_unread bytes most ShowsCommand known (Err (Refused refusal)) input.ReadFailed long err = absurd cc
input_unread bytes most ShowsCommand known (Err ReadFailed) fault long err = of_any known _ (λ read. tt)

-- a command that is no check reads no input
pub reads_none : (action : Action) (known : Option (List ℕ)) → ((goal : Goal) → action ≡ Check goal → ⊥) → input_of action known ≡ Some []
reads_none (Check goal) known none = absurd (none goal refl)
reads_none (Solve goal limits) known none = refl
reads_none (Keys goal limits) known none = refl
reads_none (Tree goal limits) known none = refl
reads_none Moves known none = refl
