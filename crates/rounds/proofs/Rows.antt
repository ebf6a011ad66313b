-- A row of verdicts, read and written at a job.
use Rattle.std.proofs.Common.{◌≡◌, ℕ, zero, suc, ◌<◌, ◌≤◌, List, length, get_or, replicate, refl, sym, ap, subst, ◌∙◌, arith}
use Rattle.std.proofs.lemmas.List.{length-set, get_or-set_same, get_or-set_other, get_or_default}
use mathlib.Core.Logic.{dite}
use native.Mathlib.Decide.{ℕ_discrete}
use lib.ListN.{set}
use Rattle.rounds.specs.declared.share.Verdict.{Verdict}
use Rattle.rounds.specs.declared.share.Verdict.TheVariants.{Open, Wins, Loses}
use Rattle.rounds.specs.Verdicts.{IsVerdictRight, AreRight}
use Rattle.rounds.specs.Shares.{KnowsWins}

loses_apart : Loses ≡ Wins → ⊥
loses_apart e = cc

open_apart : Open ≡ Wins → ⊥
open_apart e = cc

all_open : (n k : ℕ) → get_or (replicate n Open) k Open ≡ Open
all_open zero k = refl
all_open (suc n) zero = refl
all_open (suc n) (suc k) = all_open n k

open_row : (row : List Verdict) (n : ℕ) → row ≡ replicate n Open → (k : ℕ) → get_or row k Open ≡ Open
open_row row n e k = ap (λ r. get_or r k Open) e ∙ all_open n k

-- nothing is found yet
pub fresh_right : (win : ℕ → Type 0) (row : List Verdict) (n : ℕ) → row ≡ replicate n Open → AreRight win row
fresh_right win row n e k = subst (IsVerdictRight (win k)) (sym (open_row row n e k)) tt

pub fresh_knows : (row : List Verdict) (n known : ℕ) → row ≡ replicate n Open → KnowsWins row known
fresh_knows row n known e k wins = absurd (open_apart (sym (open_row row n e k) ∙ wins))

module _ (win : ℕ → Type 0) (row : List Verdict) (right : AreRight win row) where
  -- what is read of a job is right
  pub row_says : (at job n : ℕ) (v : Verdict) → at ≡ job → length row ≡ n → job < n → v ≡ get_or row at v → IsVerdictRight (win job) v
  row_says at job n v same count h e =
      subst (IsVerdictRight (win job)) (get_or_default row job Open v (omega (arith, count, h)) ∙ sym (e ∙ ap (λ i. get_or row i v) same)) (right job)

  row_right : (job : ℕ) (v : Verdict) → job < length row → IsVerdictRight (win job) v → AreRight win (set row job v)
  row_right job v h is k = dite (ℕ_discrete k job)
      (λ e. subst (λ i. IsVerdictRight (win i) (get_or (set row job v) i Open)) (sym e) (subst (IsVerdictRight (win job)) (sym (get_or-set_same row job v Open h)) is))
      (λ other. subst (IsVerdictRight (win k)) (sym (get_or-set_other row job k v Open other)) (right k))

  -- a row with one right verdict more
  pub row_with : (at job n : ℕ) (v : Verdict) → at ≡ job → length row ≡ n → job < n → IsVerdictRight (win job) v → (length (set row at v) ≡ n) × AreRight win (set row at v)
  row_with at job n v same count h is = (
    length-set row at v ∙ count,
    subst (λ i. AreRight win (set row i v)) (sym same) (row_right job v (omega (arith, count, h)) is),
  )

-- one job more is found to win, and is known
pub knows_win : (row : List Verdict) (a b at job : ℕ) → at ≡ job → b ≤ a → b ≤ job → KnowsWins row a → KnowsWins (set row at Wins) b
knows_win row a b at job same falls lowered knows k e = dite (ℕ_discrete k at)
    (λ here. omega (arith, here, same, lowered))
    (λ other. omega (arith, falls, knows k (sym (get_or-set_other row at k Wins Open other) ∙ e)))

-- one job more is found to lose
pub knows_loss : (row : List Verdict) (a b at : ℕ) → at < length row → b ≤ a → KnowsWins row a → KnowsWins (set row at Loses) b
knows_loss row a b at inside falls knows k e = dite (ℕ_discrete k at)
    (λ here. absurd (loses_apart (sym (get_or-set_same row at Loses Open inside) ∙ ap (λ i. get_or (set row at Loses) i Open) (sym here) ∙ e)))
    (λ other. omega (arith, falls, knows k (sym (get_or-set_other row at k Loses Open other) ∙ e)))
