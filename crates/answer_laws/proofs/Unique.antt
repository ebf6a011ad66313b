-- A position has one best plan.
use Rattle.std.proofs.Common.{◌≡◌, ℕ, ◌<◌, length, refl, sym, ap, ap₂, subst, inl, inr, arith}
use Rattle.board.specs.Board.{PlainBoard}
use Rattle.rules.specs.Squares.{Ply}
use Rattle.rules.specs.Moves.{IsMove, IsLawful}
use Rattle.rules.specs.declared.goal.Goal.{Goal}
use Rattle.rules.specs.declared.goal.Goal.TheVariants.{Mate, MateOrStale}
use Rattle.rules.specs.Order.{ListsLawful}
use Rattle.rules.proofs.Keeps.{one_after}
use Rattle.problems.specs.Answer.{IsLeastWin}
use Rattle.wintree.specs.declared.tree.End.{End}
use Rattle.wintree.specs.declared.tree.End.TheVariants as ending
use Rattle.wintree.specs.Plan.{Plan, ends, splits, Replies, last, more}
use Rattle.wintree.specs.Wins.{EndsAt, moves_of}
use Rattle.wintree.proofs.Listings.{lower_once, one_list}
use Rattle.searcher.specs.Best.{IsBestMove, IsBest, EachBest}
use Rattle.searcher.proofs.Forcing.{fewest_most}
use Rattle.searcher.proofs.Fewest.{first_reply}

-- ---- one best move

pub one_least : (goal : Goal) (b : PlainBoard) (n : ℕ) (l m : Ply) → IsLeastWin goal b n l → IsLeastWin goal b n m → l ≡ m
one_least goal b n l m a c = elim (c.least l a.wins) [
  | inl same ↦ same
  | inr after ↦ elim (a.least m c.wins) as (λ _. l ≡ m) [
    | inl same ↦ sym same
    | inr before ↦ absurd (lower_once _ _ _ _ _ _ after before)
  ]
]

one_best_move : (goal : Goal) (b : PlainBoard) (l m : Ply) → IsBestMove goal b l → IsBestMove goal b m → l ≡ m
one_best_move goal b l m a c =
    let least = fewest_most goal b a.0 c.0 a.1 c.1.forced in
    let most = fewest_most goal b c.0 a.0 c.1 a.1.forced in
    let same : c.0 ≡ a.0 = omega (arith, least, most) in
    one_least goal b a.0 l m a.2 (subst (λ n. IsLeastWin goal b n m) same c.2)

-- ---- one end

no_reply : (goal : Goal) (q : PlainBoard) (end : End) → EndsAt goal q end → (r : Ply) → IsLawful q r → ⊥
no_reply goal q ending.Mate e = e.no_move
no_reply Mate q ending.Stale e = absurd e
no_reply MateOrStale q ending.Stale e = e.no_move

one_end : (goal : Goal) (q : PlainBoard) (d e : End) → EndsAt goal q d → EndsAt goal q e → d ≡ e
one_end goal q ending.Mate ending.Mate a c = refl
one_end Mate q ending.Mate ending.Stale a c = absurd c
one_end MateOrStale q ending.Mate ending.Stale a c = absurd (c.no_check a.check)
one_end Mate q ending.Stale ending.Mate a c = absurd a
one_end MateOrStale q ending.Stale ending.Mate a c = absurd (a.no_check c.check)
one_end goal q ending.Stale ending.Stale a c = refl

-- ---- one plan

some_of : (replies : Replies) → 0 < length (moves_of replies)
some_of (last r plan) = omega arith
some_of (more r plan replies) = omega arith

-- where a move leads is the same both times
here : (goal : Goal) (b : PlainBoard) (l m : Ply) (p q : PlainBoard) → l ≡ m → IsMove b l p → IsMove b m q → p ≡ q
here goal b l m p q same a c = one_after b m p q (subst (λ x. IsMove b x p) same a) c

mutual
  pub one_best : (goal : Goal) (b : PlainBoard) (plan other : Plan) → IsBest goal b plan → IsBest goal b other → plan ≡ other
  one_best goal b (ends l d) (ends m e) a c =
      let move = one_best_move goal b l m a.0 c.0 in
      let leads = here goal b l m a.1.0 c.1.0 move a.1.1 c.1.1 in
      ap₂ ends move (one_end goal c.1.0 d e (subst (λ (x : PlainBoard). EndsAt goal x d) leads a.1.2) c.1.2)
  one_best goal b (ends l d) (splits m replies) a c =
      let leads = here goal b l m a.1.0 c.1.0 (one_best_move goal b l m a.0 c.0) a.1.1 c.1.1 in
      let some = first_reply goal c.1.0 replies c.1.3 in
      absurd (no_reply goal c.1.0 d (subst (λ (x : PlainBoard). EndsAt goal x d) leads a.1.2) some.0 some.1)
  one_best goal b (splits l replies) (ends m e) a c =
      let leads = here goal b l m a.1.0 c.1.0 (one_best_move goal b l m a.0 c.0) a.1.1 c.1.1 in
      let some = first_reply goal a.1.0 replies a.1.3 in
      absurd (no_reply goal a.1.0 e (subst (λ (x : PlainBoard). EndsAt goal x e) (sym leads) c.1.2) some.0 some.1)
  one_best goal b (splits l replies) (splits m others) a c =
      let move = one_best_move goal b l m a.0 c.0 in
      let leads = here goal b l m a.1.0 c.1.0 move a.1.1 c.1.1 in
      let each = subst (λ (x : PlainBoard). EachBest goal x replies) leads a.1.3 in
      let lists = one_list c.1.0 (moves_of replies) (moves_of others) (subst (λ (x : PlainBoard). ListsLawful x (moves_of replies)) leads a.1.2) c.1.2 in
      ap₂ splits move (one_each goal c.1.0 replies others lists each c.1.3)

  one_each : (goal : Goal) (q : PlainBoard) (replies others : Replies) → moves_of replies ≡ moves_of others → EachBest goal q replies → EachBest goal q others → replies ≡ others
  one_each goal q (last r plan) (last s other) same a c =
      let reply : r ≡ s = cc in
      let leads = here goal q r s a.0 c.0 reply a.1 c.1 in
      ap₂ last reply (one_best goal c.0 plan other (subst (λ (x : PlainBoard). IsBest goal x plan) leads a.2) c.2)
  one_each goal q (last r plan) (more s other others) same a c = absurd (omega (arith, ap length same, some_of others))
  one_each goal q (more r plan replies) (last s other) same a c = absurd (omega (arith, ap length same, some_of replies))
  one_each goal q (more r plan replies) (more s other others) same a c =
      let reply : r ≡ s = cc in
      let rest : moves_of replies ≡ moves_of others = cc in
      let leads = here goal q r s a.0.0 c.0.0 reply a.0.1 c.0.1 in
      let below = one_best goal c.0.0 plan other (subst (λ (x : PlainBoard). IsBest goal x plan) leads a.0.2) c.0.2 in
      let later = one_each goal q replies others rest a.1 c.1 in
      λ i. more (reply i) (below i) (later i)
