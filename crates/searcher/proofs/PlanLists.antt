-- The best plan of a list of replies.
use Rattle.std.proofs.Common.{◌≡◌, ℕ, suc, ◌+◌, ◌-◌, ◌*◌, ◌<◌, ◌≤◌, List, [], ◌∷◌, ◌++◌, length, take, get_or, map, All, refl, sym, ap, ◌∙◌, subst, arith}
use Rattle.std.proofs.lemmas.List.{map-append}
use Rattle.std.proofs.lemmas.List.Elements.{recursion_from_All, All-push}
use Rattle.std.proofs.Math.Seq.{take-suc}
use Rattle.std.specs.List.{AllByRecursion}
use Rattle.board.specs.Board.{PlainBoard}
use Rattle.rules.specs.Squares.{Ply}
use Rattle.rules.specs.Moves.{IsMove, IsLawful}
use Rattle.rules.specs.Order.{ListsLawful}
use Rattle.rules.specs.declared.goal.Goal.{Goal}
use Rattle.wintree.specs.Plan.{Plan, ends, splits, depth, deepest_in, replies_of, plan_of}
use Rattle.wintree.specs.Wins.{EndsAt, moves_of}
use Rattle.wintree.proofs.Lists.{depth-plan_of}
use Rattle.searcher.specs.Best.{IsBestMove, IsBest, EachBest, IsBestAfter}
use Rattle.searcher.specs.First.{IsBestOf}

-- the replies, without their plans
abbrev pub replies_in : List (Ply × Plan) → List Ply
replies_in list = map (λ reply. reply.0) list

pub moves_of-replies_of : (first : Ply × Plan) (others : List (Ply × Plan)) → moves_of (replies_of first others) ≡ replies_in (first ∷ others)
moves_of-replies_of first [] = refl
moves_of-replies_of first (next ∷ others) = ap (λ ms. first.0 ∷ ms) (moves_of-replies_of next others)

module _ (goal : Goal) (q : PlainBoard) where
  -- each reply's plan is the best
  abbrev pub AreBest : List (Ply × Plan) → Type 0
  AreBest list = All (λ reply. IsBestAfter goal q reply.0 reply.1) list

  each_of : (first : Ply × Plan) (others : List (Ply × Plan)) → AllByRecursion (λ reply. IsBestAfter goal q reply.0 reply.1) (first ∷ others) → EachBest goal q (replies_of first others)
  each_of first [] each = each.0
  each_of first (next ∷ others) each = (each.0, each_of next others each.1)

  -- where a reply is lawful, some is listed
  pub some_listed : (list : List (Ply × Plan)) → ((r : Ply) × IsLawful q r) → ListsLawful q (replies_in list) → 0 < length list
  some_listed [] some lists = let none = (lists.exact some.0).1 some.1 in absurd (omega (arith, none.1))
  some_listed (first ∷ others) some lists = omega arith

  pub node_of : (b : PlainBoard) (m : Ply) (list : List (Ply × Plan)) → IsMove b m q → 0 < length list → ListsLawful q (replies_in list) → AreBest list → IsBestOf goal b m (plan_of m list)
  node_of b m [] move some lists each = absurd (omega (arith, some))
  node_of b m (first ∷ others) move some lists each =
      (refl, (q, move, subst (ListsLawful q) (sym (moves_of-replies_of first others)) lists, each_of first others (recursion_from_All _ (first ∷ others) each)))

-- the plan of a best move is the best
pub best_of : (goal : Goal) (b : PlainBoard) (m : Ply) (plan : Plan) → IsBestMove goal b m → IsBestOf goal b m plan → IsBest goal b plan
best_of goal b m (ends l end) best (same, is) =
    (subst (IsBestMove goal b) (sym same) best, subst (λ (x : Ply). (q : PlainBoard) × IsMove b x q × EndsAt goal q end) (sym same) is)
best_of goal b m (splits l replies) best (same, is) = (
  subst (IsBestMove goal b) (sym same) best,
  subst (λ (x : Ply). (q : PlainBoard) × IsMove b x q × ListsLawful q (moves_of replies) × EachBest goal q replies) (sym same) is,
)

-- ---- depths

-- each plan is at most so deep
abbrev pub AreShallow : ℕ → List (Ply × Plan) → Type 0
AreShallow n list = All (λ reply. 2 * depth reply.1 ≤ n + 1) list

deepest_limit : (n : ℕ) (list : List (Ply × Plan)) → AllByRecursion (λ reply. 2 * depth reply.1 ≤ n + 1) list → 2 * deepest_in list ≤ n + 1
deepest_limit n [] each = omega arith
deepest_limit n (first ∷ others) each = omega (arith, each.0, deepest_limit n others each.1)

pub node_depth : (m : Ply) (list : List (Ply × Plan)) (limit : ℕ) → 2 ≤ limit → 0 < length list → AreShallow (limit - 2) list → 2 * depth (plan_of m list) ≤ limit + 1
node_depth m list limit two some shallow =
    let each = deepest_limit (limit - 2) list (recursion_from_All _ list shallow) in
    let is = depth-plan_of m list some in
    omega arith

pub node_room : (list : List (Ply × Plan)) (n : ℕ) → n ≤ 61 → AreShallow n list → All (λ reply. depth reply.1 ≤ 31) list
node_room list n within shallow k d lt = let each = shallow k d lt in omega arith

-- ---- one reply more

pub replies_more : (list all : List (Ply × Plan)) (r : Ply) (plan : Plan) (moves : List Ply) (i : ℕ) → all ≡ list ++ (r, plan) ∷ [] → replies_in list ≡ take i moves → i < length moves → r ≡ get_or moves i r → replies_in all ≡ take (i + 1) moves
replies_more list all r plan moves i is before lt at =
    let up : suc i ≡ i + 1 = omega arith in
    ap replies_in is ∙ map-append (λ reply. reply.0) list ((r, plan) ∷ []) ∙ ap (λ ms. ms ++ r ∷ []) before
    ∙ ap (λ x. take i moves ++ x ∷ []) at ∙ sym (take-suc moves i r lt) ∙ ap (λ k. take k moves) up

pub best_more : (goal : Goal) (q : PlainBoard) (list all : List (Ply × Plan)) (r : Ply) (plan : Plan) → all ≡ list ++ (r, plan) ∷ [] → AreBest goal q list → IsBestAfter goal q r plan → AreBest goal q all
best_more goal q list all r plan is each best = subst (AreBest goal q) (sym is) (All-push (λ reply. IsBestAfter goal q reply.0 reply.1) list (r, plan) each best)

pub shallow_more : (n : ℕ) (list all : List (Ply × Plan)) (r : Ply) (plan : Plan) → all ≡ list ++ (r, plan) ∷ [] → AreShallow n list → 2 * depth plan ≤ n + 1 → AreShallow n all
shallow_more n list all r plan is each within = subst (AreShallow n) (sym is) (All-push (λ reply. 2 * depth reply.1 ≤ n + 1) list (r, plan) each within)
