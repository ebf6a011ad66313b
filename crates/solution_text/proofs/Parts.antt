-- A whole solution from its parts, or the beginning of one.
use Rattle.std.proofs.Common.{◌≡◌, ℕ, suc, zero, ◌<◌, List, [], ◌∷◌, ◌++◌, length, take, append_assoc, arith, refl, sym, ◌∙◌, ap, subst}
use Rattle.solution_text.proofs.Common.{PlainBoard, Ply, Notation, headline, IsWholeSolution, TellsKeys}
use Rattle.solutions.specs.declared.extras.Extras.{Extras}
use Rattle.solution_text.specs.WholeText.{held_against}
use Rattle.solution_text.specs.Cut.{IsBeginning, IsCutSolution}
use Rattle.solution_text.proofs.Played.{whole_told}

-- a list, parted before one of its elements
parted : {X : Type 0} (xs : List X) (i : ℕ) → i < length xs → (x : X) × (others : List X) × (take i xs ++ x ∷ others ≡ xs)
parted [] i below = absurd (omega (arith, below))
parted (x ∷ xs) zero below = (x, xs, refl)
parted (x ∷ xs) (suc i) below = let (y, others, is) = parted xs i (omega (arith, below)) in (y, others, ap (λ l. x ∷ l) is)

module _ (notation : Notation) (b : PlainBoard) (n : ℕ) (extras : Extras) (keys : List Ply) (beginning lines : List ℕ) where
  -- all keys are told
  pub all_told : IsBeginning notation b n extras keys beginning → TellsKeys notation (held_against b n extras.set_play) b n keys lines
      → IsWholeSolution notation.symbols notation.goal b extras (beginning ++ lines)
  all_told (fewest, lists, set_play, set_told, tries, tries_told, is) told =
      let head = headline notation.goal extras.sooner n (length keys) in
      whole_told notation b n extras keys head set_play tries lines (beginning ++ lines) fewest lists refl set_told tries_told told
      (ap (λ l. l ++ lines) is ∙ append_assoc head (set_play ++ tries) lines ∙ ap (λ l. head ++ l) (append_assoc set_play tries lines))

  -- some are left
  pub some_told : (i : ℕ) → i < length keys → IsBeginning notation b n extras keys beginning → TellsKeys notation (held_against b n extras.set_play) b n (take i keys) lines
      → IsCutSolution notation.symbols notation.goal b extras (beginning ++ lines)
  some_told i below begins told =
      let (next, others, is) = parted keys i below in
      (n, take i keys, next, others, beginning, subst (λ l. IsBeginning notation b n extras l beginning) (sym is) begins, lines, told, refl)
