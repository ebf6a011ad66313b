-- The play behind a first move that is given, from what its parts give.
use Rattle.std.proofs.Common.{◌≡◌, ◌≤◌, ◌∙◌, ℕ, List, None, Some, Result, Vec, inl, inr, refl, slice_get, subst, sym, vec_items}
use Rattle.std.proofs.lemmas.Option.{same_Some}
use Rattle.std.specs.declared.alloc.Global.{Global}
use Rattle.rules.specs.Squares.{Ply}
use Rattle.problems.specs.Answer.{IsFewest, ForcesNothing}
use Rattle.problems.specs.Roots.{IsJobOf}
use Rattle.problems.specs.declared.root.Root.{Root}
use Rattle.algebraic.specs.declared.symbols.Symbols.{Symbols}
use Rattle.solution_text.specs.WholeText.{IsFirstSolution}
use Rattle.command_line.specs.declared.line.Limits.{Limits}
use Rattle.refusals.specs.Reply.{answered}
use Rattle.refusals.specs.declared.refusal.Refusal.{Refusal}
use Rattle.refusals.specs.Outcome.{Gives}
use Rattle.answer_texts.specs.Answers.{none_text}
use Rattle.context.specs.Naming.{NamesJob}
use Rattle.context.specs.Limits.{fault_of}
use Rattle.context.proofs.NamingLemmas.{job_lawful}
use Rattle.context.proofs.ShownLemmas.{gives_weaker}
use Rattle.composing.specs.Solution.{ShowsFirstNamed, ShowsFirstOf}

module _ (symbols : Symbols) (r : Root) (job : ℕ) (limits : Limits) where
  -- the play behind it
  pub play_shown : (plies : ℕ) (text : List ℕ) → fault_of limits ≡ None → plies ≤ limits.limit → IsFewest r.goal r.board plies
      → (m : Ply) × (slice_get r.moves.items job ≡ Some m) × IsFirstSolution symbols r.goal r.board m text → ShowsFirstOf symbols r job limits (answered text)
  play_shown plies text none within fewest (m, at, is) = λ n also.
      let same : m ≡ n = same_Some m n (sym at ∙ also) in
      rw none (inl (plies, within, fewest, (text, subst (λ x. IsFirstSolution symbols r.goal r.board x text) same is, refl)))

  -- that nothing is forced
  pub nothing_shown : (limit : ℕ) (result : Result (Vec ℕ Global) Refusal) → fault_of limits ≡ None → limit ≡ limits.limit
      → ForcesNothing r.goal r.board limits.limit → Gives vec_items (λ reply. reply ≡ answered (none_text limit)) result
      → Gives vec_items (ShowsFirstOf symbols r job limits) result
  nothing_shown limit result none same nothing gives =
      gives_weaker vec_items (λ reply. reply ≡ answered (none_text limit)) (ShowsFirstOf symbols r job limits) result
      (λ reply text m at. rw none (inr (nothing, subst (λ n. reply ≡ answered (none_text n)) same text))) gives

  -- of the lawful move of the name
  pub named_shown : (name : List ℕ) (result : Result (Vec ℕ Global) Refusal) → IsJobOf r job → NamesJob r.moves.items name job
      → Gives vec_items (ShowsFirstOf symbols r job limits) result → Gives vec_items (ShowsFirstNamed symbols r.goal r.board limits name) result
  named_shown name result is (m, at, named) gives =
      gives_weaker vec_items (ShowsFirstOf symbols r job limits) (ShowsFirstNamed symbols r.goal r.board limits name) result
      (λ reply shows. inl (m, job_lawful r job m is at, named, shows m at)) gives
