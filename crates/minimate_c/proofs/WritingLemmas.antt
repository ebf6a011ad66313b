-- How what is written comes about.
use Rattle.std.proofs.Common.{◌≡◌, inl, inr, ℕ, ◌≤◌, List, [], ◌∷◌, Bool, sym, subst, refl, Option, None, Some, Result, Ok, Err, IfOk, IfErr}
use Rattle.board.specs.Board.{PlainBoard}
use Rattle.rules.specs.declared.goal.Goal.{Goal}
use Rattle.problems.specs.Answer.{ForcesNothing, IsFewest}
use Rattle.problems.specs.declared.key.Key.{Key}
use Rattle.problems.specs.Keys.{ListsKeys}
use Rattle.searcher.specs.Best.{IsBest}
use Rattle.wintree.specs.Plan.{Plan}
use Rattle.wintree.specs.Text.{text as plan_text}
use Rattle.refusals.specs.Reply.{line_of}
use Rattle.answer_texts.specs.Answers.{none_text, keys_text}
use Rattle.searcher.specs.declared.halt.Halt.{Halt}
use Rattle.searcher.specs.declared.halt.Halt.TheVariants.{Stopped, NoMemory}
use Rattle.problems.specs.declared.problem.Problem.{Problem}
use Rattle.solver.specs.declared.solver.Solver.{Solver}
use Rattle.solver.specs.Stopping.{IsStopped, Hears}
use Rattle.minimate_c.specs.declared.writing.SolverText.{SolverText}
use Rattle.calls.specs.Calls.{goal_of}
use Rattle.minimate_c.specs.Putting.{FindsTold, IsProblemAsked, IsUnasked, PutsTold, number_of, keys_number}
use Rattle.minimate_c.specs.Written.{KeysTold, some_keys, no_keys, TreeTold, some_tree, no_tree, IsTold, IsWhy, refused, another_limit, stopped, no_memory, WritesTold, written, too_long, untold, no_solver}

-- the keys are told by their number and their text
told_keys : (goal : Goal) (b : PlainBoard) (limit : ℕ) (list : List Key) → ListsKeys goal b limit list → KeysTold goal b limit (keys_number list) (keys_text limit list)
told_keys goal b limit [] lists = no_keys lists
told_keys goal b limit (key ∷ list) lists = some_keys lists

pub keys_tell : (goal : Goal) (b : PlainBoard) (limit : ℕ) (list : List Key) (number : ℕ) (items : List ℕ) → ListsKeys goal b limit list
    → number ≡ keys_number list → items ≡ keys_text limit list → KeysTold goal b limit number items
keys_tell goal b limit list number items lists is_number is_text =
    subst (λ (p : ℕ × List ℕ). KeysTold goal b limit p.0 p.1) (λ i. (sym is_number i, sym is_text i)) (told_keys goal b limit list lists)

-- that nothing is forced is told
pub none_tells : (goal : Goal) (b : PlainBoard) (limit within : ℕ) (items : List ℕ) → within ≡ limit → ForcesNothing goal b limit → items ≡ none_text within
    → TreeTold goal b limit 1 items
none_tells goal b limit within items same none is =
    subst (TreeTold goal b limit 1) (sym (subst (λ (n : ℕ). items ≡ none_text n) same is)) (no_tree none)

-- the best plan is told
pub tree_tells : (goal : Goal) (b : PlainBoard) (limit plies : ℕ) (plan : Plan) (items : List ℕ) → plies ≤ limit → IsFewest goal b plies → IsBest goal b plan
    → items ≡ line_of (plan_text plan) → TreeTold goal b limit 0 items
tree_tells goal b limit plies plan items within fewest best is = subst (TreeTold goal b limit 0) (sym is) (some_tree plies plan within fewest best)

-- why a search ended is told
pub halt_tells : (text : List ℕ) (limit : ℕ) (S : Type 0) (halt : Halt) (number : ℕ) → (halt ≡ Stopped → S) → number ≡ number_of halt → IsWhy text limit S number
halt_tells text limit S Stopped number stops is = subst (IsWhy text limit S) (sym is) (stopped (stops refl))
halt_tells text limit S NoMemory number stops is = subst (IsWhy text limit S) (sym is) no_memory

-- there is no problem to tell of
pub unasked_tells : (text : List ℕ) (limit : ℕ) (S : Type 0) (number : ℕ) → IsUnasked text limit number → IsWhy text limit S number
unasked_tells text limit S number (inl (fault, is, same)) = subst (IsWhy text limit S) (sym same) (refused fault is)
unasked_tells text limit S number (inr (none, same)) = subst (IsWhy text limit S) (sym same) (another_limit none)

-- what is told of a problem is told of what was asked
pub told_as_asked : (Is : Goal → PlainBoard → ℕ → ℕ → List ℕ → Type 0) (text : List ℕ) (stale : Bool) (limit : ℕ) (p : Problem) (number : ℕ) (reply : List ℕ)
    → IsProblemAsked text (goal_of stale) limit p → Is p.goal p.position p.limit number reply → IsTold Is text stale limit number reply
told_as_asked Is text stale limit p number reply (b, is_at, is) right =
    record { position = b; is_at = is_at; within = is.searched; right = rw (is.plays_for, is.position, is.within) at right }

-- what a solver that is held finds to tell
pub finds_told : (Is : Goal → PlainBoard → ℕ → ℕ → List ℕ → Type 0) (text : List ℕ) (stale : Bool) (limit : ℕ) (was held : Option Solver) (before after : Solver)
    (found : Result SolverText ℕ) → was ≡ Some before → held ≡ Some after → Hears before after → IfOk found (λ told. IsTold Is text stale limit told.number told.text.items)
    → IfErr found (IsWhy text limit (IsStopped after)) → FindsTold Is text stale limit was held found
finds_told Is text stale limit was held before after (Ok told) is_before is_after hears right why =
    subst (λ (p : Option Solver × Option Solver). FindsTold Is text stale limit p.0 p.1 (Ok told)) (λ i. (sym is_before i, sym is_after i)) (hears, right)
finds_told Is text stale limit was held before after (Err number) is_before is_after hears right why =
    subst (λ (p : Option Solver × Option Solver). FindsTold Is text stale limit p.0 p.1 (Err number)) (λ i. (sym is_before i, sym is_after i)) (hears, why)

-- there is no solver
pub none_finds : (Is : Goal → PlainBoard → ℕ → ℕ → List ℕ → Type 0) (text : List ℕ) (stale : Bool) (limit : ℕ) (was held : Option Solver)
    → was ≡ None → FindsTold Is text stale limit was held (Err 5)
none_finds Is text stale limit was held empty = subst (λ (o : Option Solver). FindsTold Is text stale limit o held (Err 5)) (sym empty) refl

-- what is told is written, or why nothing is
pub are_written : (Is : Goal → PlainBoard → ℕ → ℕ → List ℕ → Type 0) (text : List ℕ) (stale : Bool) (limit : ℕ) (old : List ℕ) (was held : Option Solver)
    (found : Result SolverText ℕ) (number : ℕ) (new : List ℕ) (long : ℕ)
    → FindsTold Is text stale limit was held found → PutsTold found old number new long → WritesTold Is text stale limit old was held number new long
are_written Is text stale limit old None held found number new long none puts =
    let (same, is, zero) = subst (λ (f : Result SolverText ℕ). PutsTold f old number new long) none puts in
    subst (λ (p : ℕ × List ℕ × ℕ). WritesTold Is text stale limit old None held p.0 p.1 p.2) (λ i. (sym is i, sym same i, sym zero i)) no_solver
are_written Is text stale limit old (Some before) None found number new long finds puts = absurd finds
are_written Is text stale limit old (Some before) (Some after) (Ok told) number new long (hears, right) (inl fits, is_long) =
    subst (λ (p : ℕ × List ℕ × ℕ). WritesTold Is text stale limit old (Some before) (Some after) p.0 p.1 p.2)
    (λ i. (sym fits.2 i, sym fits.1 i, sym is_long i)) (written hears right fits.0)
are_written Is text stale limit old (Some before) (Some after) (Ok told) number new long (hears, right) (inr small, is_long) =
    subst (λ (p : ℕ × List ℕ × ℕ). WritesTold Is text stale limit old (Some before) (Some after) p.0 p.1 p.2)
    (λ i. (sym small.2 i, sym small.1 i, sym is_long i)) (too_long hears right small.0)
are_written Is text stale limit old (Some before) (Some after) (Err why) number new long (hears, is) (same, is_why, zero) =
    subst (λ (p : ℕ × List ℕ × ℕ). WritesTold Is text stale limit old (Some before) (Some after) p.0 p.1 p.2)
    (λ i. (sym is_why i, sym same i, sym zero i)) (untold hears is)
