-- How a reply comes about.
use Rattle.std.proofs.Common.{◌≡◌, ℕ, List, Bool, inl, inr, sym, subst, Option, None, Some}
use Rattle.rules.specs.declared.goal.Goal.{Goal}
use Rattle.problems.specs.declared.answer.Answer.{Answer}
use Rattle.problems.specs.declared.answer.Answer.TheVariants as answer
use Rattle.problems.specs.declared.problem.Problem.{Problem}
use Rattle.problems.specs.Answer.{IsAnswer}
use Rattle.solver.specs.declared.solver.Solver.{Solver}
use Rattle.solver.specs.Stopping.{IsStopped, Hears}
use Rattle.calls.specs.Calls.{goal_of}
use Rattle.minimate_c.specs.declared.found.Win.{Win}
use Rattle.minimate_c.specs.Asked.{TellsAnswer, Replies, forced, none_within, AsksSolver, asked, no_solver, refused, another_limit}
use Rattle.minimate_c.specs.Putting.{IsProblemAsked, IsUnasked}

-- the problem's answer, told in numbers
pub answered : (text : List ℕ) (goal : Goal) (limit : ℕ) (Stopped : Type 0) (p : Problem) (a : Answer) (old : Win) (number : ℕ) (found : Win)
    → IsProblemAsked text goal limit p → IsAnswer p.goal p.position p.limit a → TellsAnswer a old number found → Replies text goal limit Stopped old number found
answered text goal limit Stopped p (answer.Mate plies first) old number found (b, is_at, is) right told =
    subst (λ (n : ℕ × Win). Replies text goal limit Stopped old n.0 n.1) (λ i. (sym told.0 i, sym told.1 i))
    (forced b is_at is.searched (rw (is.plays_for, is.position, is.within) at right))
answered text goal limit Stopped p (answer.NoneWithin n) old number found (b, is_at, is) right told =
    let here : IsAnswer goal b limit (answer.NoneWithin n) = rw (is.plays_for, is.position, is.within) at right in
    subst (λ (m : ℕ × Win). Replies text goal limit Stopped old m.0 m.1) (λ i. (sym told.0 i, sym told.1 i))
    (none_within b is_at is.searched (subst (λ (k : ℕ). IsAnswer goal b limit (answer.NoneWithin k)) here.0 here))

-- there is no problem to ask about
pub unanswered : (text : List ℕ) (goal : Goal) (limit : ℕ) (Stopped : Type 0) (old : Win) (number : ℕ) → IsUnasked text limit number → Replies text goal limit Stopped old number old
unanswered text goal limit Stopped old number (inl (fault, is, same)) = subst (λ (n : ℕ). Replies text goal limit Stopped old n old) (sym same) (refused fault is)
unanswered text goal limit Stopped old number (inr (none, same)) = subst (λ (n : ℕ). Replies text goal limit Stopped old n old) (sym same) (another_limit none)

-- the reply of the solver that is held
pub of_held : (text : List ℕ) (stale : Bool) (limit : ℕ) (was held : Option Solver) (before s : Solver) (old : Win) (number : ℕ) (found : Win)
    → was ≡ Some before → held ≡ Some s → Hears before s → Replies text (goal_of stale) limit (IsStopped s) old number found → AsksSolver text stale limit old was held number found
of_held text stale limit was held before s old number found is_before is_held hears r =
    subst (λ (p : Option Solver × Option Solver). AsksSolver text stale limit old p.0 p.1 number found) (λ i. (sym is_before i, sym is_held i)) (asked hears r)

-- there is none
pub of_none : (text : List ℕ) (stale : Bool) (limit : ℕ) (was held : Option Solver) (old : Win) → was ≡ None → AsksSolver text stale limit old was held 5 old
of_none text stale limit was held old empty = subst (λ (b : Option Solver). AsksSolver text stale limit old b held 5 old) (sym empty) no_solver
