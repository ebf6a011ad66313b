-- What a round's end says of the root's moves, and of the answer.
use mathlib.Core.Logic.{dite}
use native.Mathlib.Decide.{ℕ_discrete}
use Rattle.std.proofs.Common.{◌≡◌, ℕ, ◌+◌, ◌-◌, ◌*◌, ◌<◌, ◌≤◌, ◌⊎◌, inl, inr, refl, sym, ap, subst, ◌∙◌, arith, List, length, get_or, Some, Bool, Contains, ◌↔◌, IsTrue, slice_get}
use Rattle.std.proofs.lemmas.Option.{slice_get_read, get_or_from_slice_get}
use Rattle.board.specs.Board.{PlainBoard}
use Rattle.rules.specs.Squares.{Ply}
use Rattle.rules.specs.declared.goal.Goal.{Goal}
use Rattle.rules.specs.Moves.{IsLawful, IsMove}
use Rattle.rules.specs.Order.{IsPlyBefore, ListsLawful}
use Rattle.problems.specs.declared.question.Question.{Question}
use Rattle.problems.specs.Questions.{IsForced, question}
use Rattle.problems.specs.Answer.{Wins, IsLeastWin, ForcesNothing, IsAnswer}
use Rattle.problems.specs.declared.answer.Answer.TheVariants.{Mate}
use Rattle.problems.proofs.Winning.{wins_by, forced_by, next_round}
use Rattle.problems.specs.Tried.{ListsAll}
use Rattle.problems.specs.declared.root.Root.{Root}
use Rattle.problems.specs.Jobs.{JobWins}
use Rattle.problems.specs.Roots.{IsQuestionOf, WinsIn, IsLeast, NoneWins}
use Rattle.rules.proofs.Lists.{split3}

pub same_some : (l m : Ply) → Some l ≡ Some m → l ≡ m
same_some l m e = cc

-- the move that is read at a job
pub move_at : (xs ys : List Ply) (at job : ℕ) (m : Ply) → ys ≡ xs → at ≡ job → m ≡ get_or ys at m → m ≡ get_or xs job m
move_at xs ys at job m same here is = is ∙ (λ i. get_or (same i) (here i) m)

pub got_at : (xs : List Ply) (job : ℕ) (m : Ply) → job < length xs → m ≡ get_or xs job m → slice_get xs job ≡ Some m
got_at xs job m h is = slice_get_read xs (length xs) job m refl h is

-- a move on the list is lawful
pub listed_move : (b : PlainBoard) (xs : List Ply) → ListsAll b xs → (i : ℕ) (m : Ply) → i < length xs → m ≡ get_or xs i m → IsLawful b m
listed_move b xs lists i m h is = (lists m).0 (i, h, sym is)

pub lawful_job : (b : PlainBoard) (xs : List Ply) → ListsLawful b xs → (job : ℕ) (m : Ply) → job < length xs → m ≡ get_or xs job m → IsLawful b m
lawful_job b xs lists = listed_move b xs lists.exact

module _ (goal : Goal) (b : PlainBoard) (n : ℕ) (xs : List Ply) where
  job_move : (job : ℕ) (m : Ply) → slice_get xs job ≡ Some m → JobWins goal b n xs job → Wins goal b n m
  job_move job m at (l, also, w) = subst (Wins goal b n) (same_some l m (sym also ∙ at)) w

  -- a job wins where its move does
  job_by : (job : ℕ) (m : Ply) (answer : Bool) → slice_get xs job ≡ Some m → (IsTrue answer ↔ Wins goal b n m) → IsTrue answer ↔ JobWins goal b n xs job
  job_by job m answer at h = (λ yes. (m, at, h.0 yes), λ w. h.1 (job_move job m at w))

  module _ (lists : ListsLawful b xs) where
    listed : (m : Ply) → Wins goal b n m → Contains xs m
    listed m (q, move, f) = (lists.exact m).1 (q, move)

    job_of : (m : Ply) → Wins goal b n m → (among : Contains xs m) → JobWins goal b n xs among.0
    job_of m w (j, in_list, e) = (m, slice_get_read xs (length xs) j m refl in_list (sym e), w)

    -- the least job that wins has the least move that wins
    pub least_move : (job : ℕ) (m : Ply) → m ≡ get_or xs job m → IsLeast (JobWins goal b n xs) (length xs) job → IsLeastWin goal b n m
    least_move job m is end = record {
      wins = job_move job m at end.1;
      least = λ l w. least l w (listed l w);
    }
      where
        at : slice_get xs job ≡ Some m
        at = slice_get_read xs (length xs) job m refl end.0 is

        least : (l : Ply) → Wins goal b n l → Contains xs l → (l ≡ m) ⊎ IsPlyBefore b.game m l
        least l w (j, in_list, e) = elim (split3 job j) [
          | inl after ↦ inr (subst (IsPlyBefore b.game m) e (subst (λ x. IsPlyBefore b.game x (get_or xs j l)) (get_or_from_slice_get xs job m l at) (lists.ordered job j l after in_list)))
          | inr (inl same) ↦ inl (sym e ∙ ap (λ k. get_or xs k l) (sym same) ∙ get_or_from_slice_get xs job m l at)
          | inr (inr before) ↦ absurd (end.2 j before (job_of l w (j, in_list, e)))
        ]

    -- where no job wins, no move does
    pub none_moves : NoneWins (JobWins goal b n xs) (length xs) → (m : Ply) → Wins goal b n m → ⊥
    none_moves none m w = let among = listed m w in none among.0 among.1 (job_of m w among)

-- what is asked of a job is asked after its move
pub asked_after : (r : Root) (job : ℕ) (m : Ply) (p : PlainBoard) (q : Question) → slice_get r.moves.items job ≡ Some m → IsMove r.board m p
    → q ≡ question p r.board.mover r.goal → IsQuestionOf r job q
asked_after r job m p q at move is = subst (IsQuestionOf r job) (sym is) (m, at, move, refl)

-- a job wins where the goal is forced from the position that its move leads to
pub job_after : (r : Root) (n job : ℕ) (q : Question) (answer : Bool) → IsQuestionOf r job q → (IsTrue answer ↔ IsForced q (n - 1)) → IsTrue answer ↔ WinsIn r n job
job_after r n job q answer (m, at, move, is) h =
    job_by r.goal r.board n r.moves.items job m answer at
    (wins_by r.goal r.board n m q.position answer move (subst (λ (o : Question). IsTrue answer ↔ IsForced o (n - 1)) is h))

-- after rounds in vain, the first that has a winning job gives the answer
pub answered : (goal : Goal) (b : PlainBoard) (xs : List Ply) → ListsLawful b xs → (r n limit job : ℕ) (m : Ply) → n ≡ 2 * r + 1 → n ≤ limit → ForcesNothing goal b (2 * r)
    → m ≡ get_or xs job m → IsLeast (JobWins goal b n xs) (length xs) job → IsAnswer goal b limit (Mate n m)
answered goal b xs lists r n limit job m odd within nothing is end =
    let least = least_move goal b n xs lists job m is end in (
      within,
      record { forced = forced_by goal b n m (omega (arith, odd)) least.wins; fewer = λ k lt f. nothing k (omega (arith, odd, lt)) f },
      least,
    )

-- one round more in vain
pub more_rounds : (goal : Goal) (b : PlainBoard) (xs : List Ply) → ListsLawful b xs → (r n : ℕ) → n ≡ 2 * r + 1 → ForcesNothing goal b (2 * r)
    → NoneWins (JobWins goal b n xs) (length xs) → ForcesNothing goal b (2 * (r + 1))
more_rounds goal b xs lists r n odd nothing none =
    next_round goal b r nothing (subst (λ (k : ℕ). (m : Ply) → Wins goal b k m → ⊥) odd (none_moves goal b n xs lists none))

-- none of the jobs below one, nor that one
pub none_next : (win : ℕ → Type 0) (i : ℕ) → (win i → ⊥) → ((k : ℕ) → k < i → win k → ⊥) → (k : ℕ) → k < i + 1 → win k → ⊥
none_next win i last before k h w = dite (ℕ_discrete k i)
    (λ e. last (subst win e w))
    (λ other. before k (omega (arith, h, other)) w)
