-- What the set play has for a reply, beside the play behind a key.
use Rattle.std.proofs.Common.{◌≡◌, ℕ, inl, Option, None, Some, List, [], refl, sym, subst}
use Rattle.solution_text.proofs.Common.{PlainBoard, Ply, Notation}
use Rattle.solutions.specs.Changes.{IsSetMove}
use Rattle.solution_text.specs.declared.posed.Posed.{Posed}
use Rattle.solution_text.specs.WholeText.{IsBesideText, IsChangedText}

module _ (notation : Notation) (set : Option Posed) (r : Ply) (p : PlainBoard) (moves : List Ply) (text : List ℕ) where
  -- none is asked for
  pub not_asked : ((posed : Posed) → set ≡ Some posed → ⊥) → text ≡ [] → IsChangedText notation set r p moves text
  not_asked none is = by_set set none
    where
      by_set : (set : Option Posed) → ((posed : Posed) → set ≡ Some posed → ⊥) → IsChangedText notation set r p moves text
      by_set None none = is
      by_set (Some posed) none = absurd (none posed refl)

  module _ (posed : Posed) (asked : set ≡ Some posed) where
    -- it meets the reply
    pub met_there : (c : PlainBoard) (s : Ply) → IsSetMove notation.goal posed.board posed.plies r c s → IsBesideText notation p moves c s text → IsChangedText notation set r p moves text
    met_there c s is beside = subst (λ (o : Option Posed). IsChangedText notation o r p moves text) (sym asked) (inl (c, s, is, beside))
