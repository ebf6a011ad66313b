-- No text belongs to two plans.
use Rattle.std.proofs.Common.{◌≡◌, ℕ, List, [], ◌∷◌, ◌++◌, refl, sym, ap, ap₂, ◌∙◌, arith, append_assoc, None}
use Rattle.std.proofs.lemmas.List.{append-nil, append_cancel_right}
use Rattle.rules.specs.MoveText.{move_text}
use Rattle.rules.specs.Moves.{IsPly}
use Rattle.rules.specs.Squares.{Ply}
use Rattle.rules.proofs.Naming.{one_name}
use Rattle.wintree.specs.declared.tree.End.{End}
use Rattle.wintree.specs.declared.tree.End.TheVariants.{Mate, Stale}
use Rattle.wintree.specs.Ahead.{next_byte, promotion_of}
use Rattle.wintree.specs.Plan.{Plan, ends, splits, Replies, last, more, IsPlan, ArePlans}
use Rattle.wintree.specs.Text.{text, replies_text, end_text}
use Rattle.wintree.proofs.MoveTexts.{same_rest}
use Rattle.wintree.proofs.Turns.{same_head, same_tail, end_no_letter, end_no_brace}

-- two moves and what follows them
one_move : (m n : Ply) (x y : List ℕ) → IsPly m → IsPly n → promotion_of (next_byte x) ≡ None → promotion_of (next_byte y) ≡ None → move_text m ++ x ≡ move_text n ++ y → (m ≡ n) × (x ≡ y)
one_move m n x y ply other no_x no_y e =
    let rest : x ≡ y = same_rest m n x y (λ _. no_x) no_y e in
    (one_name m n ply other (append_cancel_right (move_text m) (move_text n) y (ap (λ z. move_text m ++ z) (sym rest) ∙ e)), rest)

one_end : (e f : End) (x y : List ℕ) → end_text e ++ x ≡ end_text f ++ y → (e ≡ f) × (x ≡ y)
one_end Mate Mate x y e = (refl, same_tail 35 35 x y e)
one_end Mate Stale x y e = absurd (omega (arith, same_head 35 61 x y e))
one_end Stale Mate x y e = absurd (omega (arith, same_head 61 35 x y e))
one_end Stale Stale x y e = (refl, same_tail 61 61 x y e)

end_split : (m : Ply) (end : End) (x : List ℕ) → text (ends m end) ++ x ≡ move_text m ++ (end_text end ++ x)
end_split m end x = append_assoc (move_text m) (end_text end) x

brace_split : (m : Ply) (replies : Replies) (x : List ℕ) → text (splits m replies) ++ x ≡ move_text m ++ 123 ∷ (replies_text replies ++ 125 ∷ x)
brace_split m replies x = simp append_assoc

last_split : (r : Ply) (plan : Plan) (x : List ℕ) → replies_text (last r plan) ++ x ≡ move_text r ++ 58 ∷ (text plan ++ x)
last_split r plan x = simp append_assoc

more_split : (r : Ply) (plan : Plan) (replies : Replies) (x : List ℕ) → replies_text (more r plan replies) ++ x ≡ move_text r ++ 58 ∷ (text plan ++ 44 ∷ (replies_text replies ++ x))
more_split r plan replies x = simp append_assoc

mutual
  one_plan : (a b : Plan) (x y : List ℕ) → IsPlan a → IsPlan b → text a ++ x ≡ text b ++ y → (a ≡ b) × (x ≡ y)
  one_plan (ends m e) (ends n f) x y p q is =
      let first = one_move m n (end_text e ++ x) (end_text f ++ y) p q (end_no_letter e x) (end_no_letter f y) (sym (end_split m e x) ∙ is ∙ end_split n f y) in
      let rest = one_end e f x y first.1 in (ap₂ ends first.0 rest.0, rest.1)
  one_plan (ends m e) (splits n others) x y p q is =
      let first = one_move m n (end_text e ++ x) (123 ∷ (replies_text others ++ 125 ∷ y)) p q.0 (end_no_letter e x) refl (sym (end_split m e x) ∙ is ∙ brace_split n others y) in
      absurd (end_no_brace e x _ first.1)
  one_plan (splits m replies) (ends n f) x y p q is =
      let first = one_move m n (123 ∷ (replies_text replies ++ 125 ∷ x)) (end_text f ++ y) p.0 q refl (end_no_letter f y) (sym (brace_split m replies x) ∙ is ∙ end_split n f y) in
      absurd (end_no_brace f y _ (sym first.1))
  one_plan (splits m replies) (splits n others) x y p q is =
      let first = one_move m n (123 ∷ (replies_text replies ++ 125 ∷ x)) (123 ∷ (replies_text others ++ 125 ∷ y)) p.0 q.0 refl refl (sym (brace_split m replies x) ∙ is ∙ brace_split n others y) in
      let rest = one_replies replies others (125 ∷ x) (125 ∷ y) p.1 q.1 (same_tail 123 123 _ _ first.1) (λ z e. omega (arith, same_head 125 44 x z e)) (λ z e. omega (arith, same_head 125 44 y z e)) in
      (ap₂ splits first.0 rest.0, same_tail 125 125 x y rest.1)

  -- no comma follows either
  one_replies : (a b : Replies) (x y : List ℕ) → ArePlans a → ArePlans b → replies_text a ++ x ≡ replies_text b ++ y → ((z : List ℕ) → x ≡ 44 ∷ z → ⊥) → ((z : List ℕ) → y ≡ 44 ∷ z → ⊥) → (a ≡ b) × (x ≡ y)
  one_replies (last r plan) (last s other) x y p q is no_x no_y =
      let first = one_move r s (58 ∷ (text plan ++ x)) (58 ∷ (text other ++ y)) p.0 q.0 refl refl (sym (last_split r plan x) ∙ is ∙ last_split s other y) in
      let rest = one_plan plan other x y p.1 q.1 (same_tail 58 58 _ _ first.1) in (ap₂ last first.0 rest.0, rest.1)
  one_replies (last r plan) (more s other others) x y p q is no_x no_y =
      let first = one_move r s (58 ∷ (text plan ++ x)) (58 ∷ (text other ++ 44 ∷ (replies_text others ++ y))) p.0 q.0 refl refl (sym (last_split r plan x) ∙ is ∙ more_split s other others y) in
      let rest = one_plan plan other x (44 ∷ (replies_text others ++ y)) p.1 q.1 (same_tail 58 58 _ _ first.1) in absurd (no_x _ rest.1)
  one_replies (more r plan replies) (last s other) x y p q is no_x no_y =
      let first = one_move r s (58 ∷ (text plan ++ 44 ∷ (replies_text replies ++ x))) (58 ∷ (text other ++ y)) p.0 q.0 refl refl (sym (more_split r plan replies x) ∙ is ∙ last_split s other y) in
      let rest = one_plan plan other (44 ∷ (replies_text replies ++ x)) y p.1 q.1 (same_tail 58 58 _ _ first.1) in absurd (no_y _ (sym rest.1))
  one_replies (more r plan replies) (more s other others) x y p q is no_x no_y =
      let first = one_move r s (58 ∷ (text plan ++ 44 ∷ (replies_text replies ++ x))) (58 ∷ (text other ++ 44 ∷ (replies_text others ++ y))) p.0 q.0 refl refl (sym (more_split r plan replies x) ∙ is ∙ more_split s other others y) in
      let below = one_plan plan other (44 ∷ (replies_text replies ++ x)) (44 ∷ (replies_text others ++ y)) p.1 q.1 (same_tail 58 58 _ _ first.1) in
      let rest = one_replies replies others x y p.2 q.2 (same_tail 44 44 _ _ below.1) no_x no_y in
      (ap (λ m. more m plan replies) first.0 ∙ ap (λ p. more s p replies) below.0 ∙ ap (more s other) rest.0, rest.1)

pub one_text : (a b : Plan) → IsPlan a → IsPlan b → text a ≡ text b → a ≡ b
one_text a b p q is = (one_plan a b [] [] p q (append-nil (text a) ∙ is ∙ sym (append-nil (text b)))).0
