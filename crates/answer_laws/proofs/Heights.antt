-- The height, the depth and the text of a plan that wins.
use Rattle.std.proofs.Common.{◌≡◌, ◌≤◌, ℕ, ◌+◌, ◌*◌, refl, subst, arith}
use Rattle.board.specs.Board.{PlainBoard}
use Rattle.rules.specs.declared.goal.Goal.{Goal}
use Rattle.rules.specs.Squares.{Ply}
use Rattle.rules.proofs.Naming.{ply_of_lawful}
use Rattle.problems.specs.declared.answer.Answer.TheVariants.{Mate}
use Rattle.problems.specs.Answer.{IsFewest, IsLeastWin, IsAnswer}
use Rattle.wintree.specs.Plan.{Plan, ends, splits, Replies, last, more, depth, deepest, IsPlan, ArePlans}
use Rattle.wintree.specs.Text.{text, TreeText}
use Rattle.wintree.specs.Wins.{Wins, EachWins, height, highest}
use Rattle.wintree.proofs.Forced.{forced_for_mover}
use Rattle.searcher.specs.Best.{IsBestMove, IsBest}
use Rattle.searcher.proofs.Forcing.{fewest_most}
use Rattle.searcher.proofs.Fewest.{best_plan}
use Rattle.answer_laws.specs.Plans.{opening_move}
use Rattle.answer_laws.proofs.OneAnswer.{one_fewest}
use Rattle.answer_laws.proofs.Unique.{one_least}

-- ---- heights

mutual
  pub twice_as_high : (plan : Plan) → height plan + 1 ≡ 2 * depth plan
  twice_as_high (ends m end) = omega arith
  twice_as_high (splits m replies) = omega (arith, twice_as_highest replies)

  twice_as_highest : (replies : Replies) → highest replies + 1 ≡ 2 * deepest replies
  twice_as_highest (last r plan) = twice_as_high plan
  twice_as_highest (more r plan replies) = omega (arith, twice_as_high plan, twice_as_highest replies)

pub no_sooner : (goal : Goal) (b : PlainBoard) (plan : Plan) (n : ℕ) → Wins goal b plan → IsFewest goal b n → n ≤ height plan
no_sooner goal b plan n w fewest = fewest_most goal b n (height plan) fewest (forced_for_mover goal b plan w)

-- ---- the moves of a plan that wins

mutual
  plan_of_moves : (goal : Goal) (b : PlainBoard) (plan : Plan) → Wins goal b plan → IsPlan plan
  plan_of_moves goal b (ends m end) w = ply_of_lawful b m (w.0, w.1)
  plan_of_moves goal b (splits m replies) w = (ply_of_lawful b m (w.0, w.1), plans_of_moves goal w.0 replies w.3)

  plans_of_moves : (goal : Goal) (q : PlainBoard) (replies : Replies) → EachWins goal q replies → ArePlans replies
  plans_of_moves goal q (last r plan) w = (ply_of_lawful q r (w.0, w.1), plan_of_moves goal w.0 plan w.2)
  plans_of_moves goal q (more r plan replies) w = (ply_of_lawful q r (w.0.0, w.0.1), plan_of_moves goal w.0.0 plan w.0.2, plans_of_moves goal q replies w.1)

pub wins_have_text : (goal : Goal) (b : PlainBoard) (plan : Plan) → Wins goal b plan → TreeText (text plan) plan
wins_have_text goal b plan w = (plan_of_moves goal b plan w, refl)

-- ---- the best plan

best_move : (goal : Goal) (b : PlainBoard) (plan : Plan) → IsBest goal b plan → IsBestMove goal b (opening_move plan)
best_move goal b (ends m end) best = best.0
best_move goal b (splits m replies) best = best.0

pub best_begins : (goal : Goal) (b : PlainBoard) (limit plies : ℕ) (first : Ply) (plan : Plan) → IsAnswer goal b limit (Mate plies first) → IsBest goal b plan → opening_move plan ≡ first
best_begins goal b limit plies first plan answer best =
    let move = best_move goal b plan best in
    let same = one_fewest goal b move.0 plies move.1 answer.1 in
    one_least goal b plies (opening_move plan) first (subst (λ n. IsLeastWin goal b n (opening_move plan)) same move.2) answer.2

pub best_is_read : (goal : Goal) (b : PlainBoard) (plan : Plan) (n : ℕ) → IsBest goal b plan → IsFewest goal b n → n ≤ 63 → TreeText (text plan) plan × (depth plan ≤ 32)
best_is_read goal b plan n best fewest within =
    let won = best_plan goal b plan best n fewest in
    (wins_have_text goal b plan won.0, omega (arith, won.1, within, twice_as_high plan))
