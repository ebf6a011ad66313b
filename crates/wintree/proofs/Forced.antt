-- What a plan wins is forced.
use Rattle.std.proofs.Common.{◌≡◌, ℕ, zero, suc, ◌+◌, ◌-◌, ◌≤◌, max, true, false, [], subst, inl, inr, arith, Contains}
use Rattle.board.specs.declared.game.Side.{Side}
use Rattle.board.specs.Games.{is_same_side}
use Rattle.wintree.proofs.Common.{PlainBoard, Ply, IsMove, Goal, Forces, IsReached, one_after, End, Plan, ends, splits, Replies, last, more, Wins, EachWins, EndsAt, moves_of, height, highest}
use Rattle.rules.specs.declared.goal.Goal.TheVariants as goals
use Rattle.rules.proofs.Forcing.{to_own, to_other, turn-own, turn-other, same_side-self, Forces-more}
use Rattle.wintree.specs.declared.tree.End.TheVariants as ending
use Rattle.wintree.proofs.Listings.{among_first, among_more}

reached : (goal : Goal) (b : PlainBoard) (end : End) → EndsAt goal b end → IsReached goal b
reached goals.Mate b ending.Mate e = e
reached goals.MateOrStale b ending.Mate e = inl e
reached goals.Mate b ending.Stale e = absurd e
reached goals.MateOrStale b ending.Stale e = inr e

some_reply : (replies : Replies) → (r : Ply) × Contains (moves_of replies) r
some_reply (last r plan) = (r, among_first r [])
some_reply (more r plan replies) = (r, among_first r (moves_of replies))

module _ (goal : Goal) (side : Side) where
  forced_later : (b : PlainBoard) (d n k : ℕ) → k ≡ d + n → Forces goal side b n → Forces goal side b k
  forced_later b zero n k is f = subst (Forces goal side b) (omega (arith, is)) f
  forced_later b (suc d) n zero is f = absurd (omega (arith, is))
  forced_later b (suc d) n (suc k) is f = Forces-more goal side b k (forced_later b d n k (omega (arith, is)) f)

  -- what is forced within n plies is forced within any more
  forced_within : (b : PlainBoard) (n k : ℕ) → n ≤ k → Forces goal side b n → Forces goal side b k
  forced_within b n k within f = forced_later b (k - n) n k (omega arith) f

  mutual
    pub forced : (b : PlainBoard) (plan : Plan) → is_same_side side b.mover ≡ true → Wins goal b plan → Forces goal side b (height plan)
    forced b (ends m end) own w = to_own _ _ _ own (m, w.0, w.1, to_other _ _ _ (turn-own side b m w.0 w.1 own) (reached goal w.0 end w.2))
    forced b (splits m replies) own w =
        let other = turn-own side b m w.0 w.1 own in
        let some = some_reply replies in
        to_own _ _ _ own (m, w.0, w.1, to_other _ _ _ other (inr ((some.0, (w.2.exact some.0).0 some.1), λ r p move. forced_each w.0 replies other w.3 r p move ((w.2.exact r).1 (p, move)))))

    forced_each : (q : PlainBoard) (replies : Replies) → is_same_side side q.mover ≡ false → EachWins goal q replies → (r : Ply) (p : PlainBoard) → IsMove q r p → Contains (moves_of replies) r → Forces goal side p (highest replies)
    forced_each q (last s plan) other w r p move among =
        let below : Forces goal side w.0 (height plan) = forced w.0 plan (turn-other side q s w.0 w.1 other) w.2 in
        elim (among_more s [] r among) as (λ _. Forces goal side p (height plan)) [
          | inl e ↦ subst (λ x. Forces goal side x (height plan)) (one_after q r w.0 p (subst (λ x. IsMove q x w.0) e w.1) move) below
          | inr none ↦ absurd (omega (arith, none.1))
        ]
    forced_each q (more s plan replies) other w r p move among =
        let here = w.0 in
        let below : Forces goal side here.0 (height plan) = forced here.0 plan (turn-other side q s here.0 here.1 other) here.2 in
        let top = max (height plan) (highest replies) in
        elim (among_more s (moves_of replies) r among) as (λ _. Forces goal side p top) [
          | inl e ↦ forced_within p (height plan) top (omega arith) (subst (λ x. Forces goal side x (height plan)) (one_after q r here.0 p (subst (λ x. IsMove q x here.0) e here.1) move) below)
          | inr later ↦ forced_within p (highest replies) top (omega arith) (forced_each q replies other w.1 r p move later)
        ]

-- for the side to move
pub forced_for_mover : (goal : Goal) (b : PlainBoard) (plan : Plan) → Wins goal b plan → Forces goal b.mover b (height plan)
forced_for_mover goal b plan w = forced goal b.mover b plan (same_side-self b.mover) w
