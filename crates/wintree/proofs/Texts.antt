-- What stands ahead, a move at a time.
use Rattle.std.proofs.Common.{◌≡◌, ◌⊎◌, ℕ, suc, List, ◌∷◌, ◌++◌, refl, sym, ap, ◌∙◌, inl, inr, append_assoc}
use Rattle.wintree.proofs.Common.{Ply, IsPly, End, Plan, ends, splits, Replies, last, more, IsPlan, ArePlans, move_text, text, replies_text, end_text, AfterTree, IsTreeAhead, AreRepliesAhead}

-- after the attacker's move: an end and what follows the tree, or a brace and replies
abbrev pub AfterAttack : ℕ → List ℕ → Type 0
AfterAttack inside x =
    ((end : End) × (y : List ℕ) × (x ≡ end_text end ++ y) × AfterTree inside y) ⊎ ((y : List ℕ) × (x ≡ 123 ∷ y) × AreRepliesAhead (suc inside) y)

-- after a reply: a colon and a tree
abbrev pub AfterReply : ℕ → List ℕ → Type 0
AfterReply inside x = (y : List ℕ) × (x ≡ 58 ∷ y) × IsTreeAhead inside y

attack_of : (inside : ℕ) (x : List ℕ) (plan : Plan) (y : List ℕ) → x ≡ text plan ++ y → AfterTree inside y → IsPlan plan → (m : Ply) × (z : List ℕ) × (x ≡ move_text m ++ z) × AfterAttack inside z × IsPly m
attack_of inside x (ends m end) y e after plan = (m, end_text end ++ y, e ∙ append_assoc (move_text m) (end_text end) y, inl (end, y, refl, after), plan)
attack_of inside x (splits m replies) y e after plan =
    (m, 123 ∷ (replies_text replies ++ 125 ∷ y), e ∙ simp append_assoc, inr (replies_text replies ++ 125 ∷ y, refl, (replies, y, refl, after, plan.1)), plan.0)

pub attack_ahead : (inside : ℕ) (x : List ℕ) → IsTreeAhead inside x → (m : Ply) × (z : List ℕ) × (x ≡ move_text m ++ z) × AfterAttack inside z × IsPly m
attack_ahead inside x ahead = attack_of inside x ahead.0 ahead.1 ahead.2 ahead.3 ahead.4

pub tree_ahead : (inside : ℕ) (m : Ply) (z : List ℕ) → IsPly m → AfterAttack inside z → IsTreeAhead inside (move_text m ++ z)
tree_ahead inside m z ply (inl end) = (ends m end.0, end.1, ap (λ x. move_text m ++ x) end.2 ∙ sym (append_assoc (move_text m) (end_text end.0) end.1), end.3, ply)
tree_ahead inside m z ply (inr brace) =
    let replies = brace.2 in
    (splits m replies.0, replies.1, ap (λ x. move_text m ++ x) (brace.1 ∙ ap (λ x. 123 ∷ x) replies.2) ∙ simp append_assoc, replies.3, (ply, replies.4))

reply_of : (outer : ℕ) (x : List ℕ) (replies : Replies) (y : List ℕ) → x ≡ replies_text replies ++ 125 ∷ y → AfterTree outer y → ArePlans replies → (r : Ply) × (z : List ℕ) × (x ≡ move_text r ++ z) × AfterReply (suc outer) z × IsPly r
reply_of outer x (last r plan) y e after plans =
    (r, 58 ∷ (text plan ++ 125 ∷ y), e ∙ simp append_assoc, (text plan ++ 125 ∷ y, refl, (plan, 125 ∷ y, refl, inl (y, refl, after), plans.1)), plans.0)
reply_of outer x (more r plan replies) y e after plans =
    let rest = 44 ∷ (replies_text replies ++ 125 ∷ y) in
    (r, 58 ∷ (text plan ++ rest), e ∙ simp append_assoc, (text plan ++ rest, refl, (plan, rest, refl, inr (replies, y, refl, after, plans.2), plans.1)), plans.0)

pub reply_ahead : (outer : ℕ) (x : List ℕ) → AreRepliesAhead (suc outer) x → (r : Ply) × (z : List ℕ) × (x ≡ move_text r ++ z) × AfterReply (suc outer) z × IsPly r
reply_ahead outer x ahead = reply_of outer x ahead.0 ahead.1 ahead.2 ahead.3 ahead.4

replies_of_tree : (outer : ℕ) (r : Ply) (z : List ℕ) (plan : Plan) (w : List ℕ) → z ≡ 58 ∷ (text plan ++ w) → IsPly r → IsPlan plan → AfterTree (suc outer) w → AreRepliesAhead (suc outer) (move_text r ++ z)
replies_of_tree outer r z plan w e ply is_plan (inl brace) =
    (last r plan, brace.0, ap (λ x. move_text r ++ x) (e ∙ ap (λ x. 58 ∷ (text plan ++ x)) brace.1) ∙ simp append_assoc, brace.2, (ply, is_plan))
replies_of_tree outer r z plan w e ply is_plan (inr comma) =
    (more r plan comma.0, comma.1, ap (λ x. move_text r ++ x) (e ∙ ap (λ x. 58 ∷ (text plan ++ x)) comma.2) ∙ simp append_assoc, comma.3, (ply, is_plan, comma.4))

pub replies_ahead : (outer : ℕ) (r : Ply) (z : List ℕ) → IsPly r → AfterReply (suc outer) z → AreRepliesAhead (suc outer) (move_text r ++ z)
replies_ahead outer r z ply after =
    let tree = after.2 in replies_of_tree outer r z tree.0 tree.1 (after.1 ∙ ap (λ x. 58 ∷ x) tree.2) ply tree.4 tree.3
