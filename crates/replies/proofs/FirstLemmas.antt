-- The tree of a first move.
use Rattle.std.proofs.Common.{◌≡◌, ◌∙◌, ℕ, List, None, Some, Result, Vec, inl, inr, refl, sym, subst, vec_items}
use Rattle.board.specs.Board.{PlainBoard}
use Rattle.rules.specs.Squares.{Ply}
use Rattle.rules.specs.Moves.{IsMove}
use Rattle.rules.specs.declared.goal.Goal.{Goal}
use Rattle.wintree.specs.Plan.{Plan}
use Rattle.searcher.specs.First.{IsOpened, IsOpenedJob}
use Rattle.replies.specs.First.{IsFirstReply, IsUnmet, MissesAt, MissesJob, MissesWithin, ShowsFirst, ShowsJob, ShowsTreeFound}
use Rattle.context.specs.Naming.{NamesJob}
use Rattle.std.specs.declared.alloc.Global.{Global}
use Rattle.wintree.specs.Text.{text as plan_text}
use Rattle.problems.specs.Roots.{IsJobOf}
use Rattle.problems.specs.Answer.{ForcesNothing, IsAnswer}
use Rattle.problems.specs.Problems.{IsProblemOf}
use Rattle.problems.specs.declared.answer.Answer.{Answer}
use Rattle.problems.specs.declared.answer.Answer.TheVariants.{NoneWithin}
use Rattle.problems.specs.declared.problem.Problem.{Problem}
use Rattle.problems.specs.declared.root.Root.{Root}
use Rattle.command_line.specs.declared.line.Limits.{Limits}
use Rattle.command_line.specs.declared.line.NamedMove.{NamedMove}
use Rattle.refusals.specs.Reply.{Reply, answered, line_of}
use Rattle.refusals.specs.declared.refusal.Refusal.{Refusal}
use Rattle.refusals.specs.Outcome.{Gives, IsSoundText}
use Rattle.answer_texts.specs.Answers.{none_text}
use Rattle.context.specs.Limits.{fault_of}
use Rattle.context.proofs.NamingLemmas.{job_lawful}
use Rattle.context.proofs.ShownLemmas.{gives_weaker}

-- ---- a reply

-- what is found of a move is shown
found_shown : (goal : Goal) (b : PlainBoard) (m : Ply) (limits : Limits) (limit : ℕ) (plan : Plan) → fault_of limits ≡ None → limit ≡ limits.limit
    → IsOpened goal b m limit (Some plan) → ShowsTreeFound goal b m limits (answered (line_of (plan_text plan)))
found_shown goal b m limits limit plan none same is = rw none (inl (plan, subst (λ n. IsOpened goal b m n (Some plan)) same is, refl))

nothing_shown : (goal : Goal) (b : PlainBoard) (m : Ply) (limits : Limits) (limit : ℕ) (reply : Reply) → fault_of limits ≡ None → limit ≡ limits.limit
    → IsOpened goal b m limit None → reply ≡ answered (none_text limit) → ShowsTreeFound goal b m limits reply
nothing_shown goal b m limits limit reply none same is text =
    rw none (inr (subst (λ n. IsOpened goal b m n None) same is, subst (λ n. reply ≡ answered (none_text n)) same text))

pub tree_shown : (r : Root) (job : ℕ) (limits : Limits) (plan : Plan) (text : List ℕ) → fault_of limits ≡ None → r.limit ≡ limits.limit
    → IsOpenedJob r job (Some plan) → text ≡ line_of (plan_text plan) → ShowsJob r job limits (answered text)
tree_shown r job limits plan text none same is written = λ m at.
    subst (λ t. ShowsTreeFound r.goal r.board m limits (answered t)) (sym written) (found_shown r.goal r.board m limits r.limit plan none same (is m at))

pub none_shown : (r : Root) (job : ℕ) (limits : Limits) (result : Result (Vec ℕ Global) Refusal) → fault_of limits ≡ None → r.limit ≡ limits.limit
    → IsOpenedJob r job None → Gives vec_items (λ reply. reply ≡ answered (none_text r.limit)) result → Gives vec_items (ShowsJob r job limits) result
none_shown r job limits result none same is gives =
    gives_weaker vec_items (λ reply. reply ≡ answered (none_text r.limit)) (ShowsJob r job limits) result
    (λ reply text m at. nothing_shown r.goal r.board m limits r.limit reply none same (is m at) text) gives

-- what takes no number of plies up to the root's limit misses
pub job_missed : (r : Root) (job limit : ℕ) → r.limit ≡ limit → IsOpenedJob r job None → MissesJob r job limit
job_missed r job limit same is = λ m at. subst (λ n. IsOpened r.goal r.board m n None) same (is m at)

pub named_missed : (name : List ℕ) (limit : ℕ) (r : Root) (job : ℕ) → IsJobOf r job → NamesJob r.moves.items name job → MissesJob r job limit
    → MissesWithin r.goal r.board limit name
named_missed name limit r job is (m, at, named) misses = (m, job_lawful r job m is at, named, misses m at)

-- of the lawful move of the name
pub named_shown : (name : List ℕ) (limits : Limits) (r : Root) (job : ℕ) (result : Result (Vec ℕ Global) Refusal) → IsJobOf r job
    → NamesJob r.moves.items name job → Gives vec_items (ShowsJob r job limits) result → Gives vec_items (ShowsFirst r.goal r.board name limits) result
named_shown name limits r job result is (m, at, named) gives =
    gives_weaker vec_items (ShowsJob r job limits) (ShowsFirst r.goal r.board name limits) result
    (λ reply shows. inl (m, job_lawful r job m is at, named, shows m at)) gives

pub missed_at_text : (played : NamedMove) (goal : Goal) (limits : Limits) (b : PlainBoard) (r : Root) → IsSoundText played.fen.now b → r.goal ≡ goal → r.board ≡ b
    → MissesWithin r.goal r.board limits.limit played.name.now → MissesAt played goal limits
missed_at_text played goal limits b r sound same_goal same_board misses = (
  b,
  sound,
  subst (λ x. MissesWithin goal x limits.limit played.name.now) same_board (subst (λ g. MissesWithin g r.board limits.limit played.name.now) same_goal misses),
)

-- the answer behind a reply is that there is none
pub unmet : (goal : Goal) (q : PlainBoard) (r : Ply) (behind position : PlainBoard) (limit : ℕ) (p : Problem) (answer : Answer) (within : ℕ) → IsMove q r behind
    → position ≡ behind → IsProblemOf position goal limit p → answer ≡ NoneWithin within → IsAnswer p.goal p.position p.limit answer → IsUnmet goal q limit r
unmet goal q r behind position limit p answer within moves at is none found = (
  behind,
  moves,
  subst (λ (x : Goal × PlainBoard × ℕ). ForcesNothing x.0 x.1 x.2) (λ i. (is.plays_for i, (is.position ∙ at) i, is.within i))
      (subst (IsAnswer p.goal p.position p.limit) none found).1,
)

-- at the sound position
pub first_at_text : (played : NamedMove) (goal : Goal) (limits : Limits) (b : PlainBoard) (r : Root) (result : Result (Vec ℕ Global) Refusal)
    → IsSoundText played.fen.now b → r.goal ≡ goal → r.board ≡ b → Gives vec_items (ShowsFirst r.goal r.board played.name.now limits) result
    → Gives vec_items (IsFirstReply played goal limits) result
first_at_text played goal limits b r result sound same_goal same_board gives =
    gives_weaker vec_items (ShowsFirst r.goal r.board played.name.now limits) (IsFirstReply played goal limits) result
    (λ reply shows. inl (
      b,
      sound,
      subst (λ x. ShowsFirst goal x played.name.now limits reply) same_board
          (subst (λ g. ShowsFirst g r.board played.name.now limits reply) same_goal shows),
    )) gives
