-- How the set play meets a reply.
use Rattle.std.proofs.Common.{◌≡◌, ℕ, ◌-◌, ◌≤◌, sym, subst}
use Rattle.solutions.proofs.Common.{PlainBoard, Goal, Ply, IsMove, IsLawful, one_after, ForcesNothing, IsFewest, IsLeastWin, passed}
use Rattle.rules.specs.Reach.{IsSound}
use Rattle.rules.specs.Forces.{Forces}
use Rattle.solutions.specs.Changes.{IsSetMove}

module _ (goal : Goal) (b : PlainBoard) (n : ℕ) (r : Ply) where
  -- it doesn't where the pass isn't sound
  pub none_unsound : (IsSound (passed b) → ⊥) → (c : PlainBoard) (s : Ply) → IsSetMove goal b n r c s → ⊥
  none_unsound not c s is = not is.sound

  -- nor where the reply isn't lawful after it
  pub none_unlawful : (IsLawful (passed b) r → ⊥) → (c : PlainBoard) (s : Ply) → IsSetMove goal b n r c s → ⊥
  none_unlawful not c s is = not (c, is.reply)

  -- nor where nothing is forced behind the reply
  pub none_forced_there : (p : PlainBoard) → IsMove (passed b) r p → ForcesNothing goal p (n - 2) → (c : PlainBoard) (s : Ply) → IsSetMove goal b n r c s → ⊥
  none_forced_there p reply nothing c s is =
      let same = one_after (passed b) r c p is.reply reply in
      nothing is.plies is.few (subst (λ (x : PlainBoard). Forces goal x.mover x is.plies) same is.fewest.forced)

  -- and else it does by the first continuation there
  pub first_there : (p c : PlainBoard) (k : ℕ) (s : Ply) → IsMove (passed b) r p → IsSound (passed b) → c ≡ p → k ≤ n - 2 → IsFewest goal p k → IsLeastWin goal p k s → IsSetMove goal b n r c s
  first_there p c k s reply sound same few fewest least =
      subst (λ (x : PlainBoard). IsSetMove goal b n r x s) (sym same) (record { sound = sound; reply = reply; plies = k; few = few; fewest = fewest; first = least })
