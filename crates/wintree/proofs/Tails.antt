-- The text of a list of replies, as it is written.
use Rattle.std.proofs.Common.{◌≡◌, ℕ, ◌<◌, List, [], ◌∷◌, ◌++◌, length, refl, sym, ap, ◌∙◌, append_assoc, arith}
use Rattle.wintree.proofs.Common.{Ply, Plan, replies_of, plan_of, move_text, text, replies_text, closed_text, listed_text}

tail_of : (first : Ply × Plan) (others : List (Ply × Plan)) → move_text first.0 ++ 58 ∷ (text first.1 ++ closed_text 44 others) ≡ replies_text (replies_of first others) ++ 125 ∷ []
tail_of first [] = simp append_assoc
tail_of first (next ∷ others) = simp append_assoc (ap (λ xs. move_text first.0 ++ 58 ∷ (text first.1 ++ 44 ∷ xs)) (tail_of next others))

-- it is all that follows the move
pub text-plan_of : (m : Ply) (replies : List (Ply × Plan)) → 0 < length replies → text (plan_of m replies) ≡ move_text m ++ closed_text 123 replies
text-plan_of m [] some = absurd (omega arith)
text-plan_of m (first ∷ others) some = simp append_assoc (ap (λ xs. move_text m ++ 123 ∷ xs) (sym (tail_of first others)))

regroup : (a b c d : List ℕ) → (a ++ 58 ∷ (b ++ 44 ∷ c)) ++ d ≡ a ++ 58 ∷ (b ++ 44 ∷ (c ++ d))
regroup a b c d = simp append_assoc

-- replies with commas, and then the last one
pub closed_last : (replies : List (Ply × Plan)) (mark : ℕ) (r : Ply) (plan : Plan) → closed_text mark (replies ++ (r, plan) ∷ []) ≡ mark ∷ (listed_text replies ++ (move_text r ++ 58 ∷ (text plan ++ 125 ∷ [])))
closed_last [] mark r plan = refl
closed_last (first ∷ others) mark r plan =
    ap (λ xs. mark ∷ (move_text first.0 ++ 58 ∷ (text first.1 ++ xs))) (closed_last others 44 r plan)
    ∙ ap (λ xs. mark ∷ xs) (sym (regroup (move_text first.0) (text first.1) (listed_text others) (move_text r ++ 58 ∷ (text plan ++ 125 ∷ []))))

pub listed_more : (replies : List (Ply × Plan)) (r : Ply) (plan : Plan) → listed_text (replies ++ (r, plan) ∷ []) ≡ listed_text replies ++ (move_text r ++ 58 ∷ (text plan ++ 44 ∷ []))
listed_more [] r plan = refl
listed_more (first ∷ others) r plan =
    ap (λ xs. move_text first.0 ++ 58 ∷ (text first.1 ++ 44 ∷ xs)) (listed_more others r plan)
    ∙ sym (regroup (move_text first.0) (text first.1) (listed_text others) (move_text r ++ 58 ∷ (text plan ++ 44 ∷ [])))
