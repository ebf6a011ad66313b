-- What is ahead once a byte was read.
use Rattle.std.proofs.Common.{◌≡◌, ◌↔◌, ◌⊎◌, ℕ, suc, List, [], ◌∷◌, ◌++◌, refl, sym, ap, ◌∙◌, subst, inl, inr, Some, None, arith}
use Rattle.wintree.proofs.Common.{Ply, IsPly, End, Mate, Stale, move_text, promotion_text, end_text, AfterTree, IsTreeAhead, AreRepliesAhead, promotion_of, next_byte}
use Rattle.wintree.proofs.MoveTexts.{same_rest}
use Rattle.wintree.proofs.Texts.{AfterAttack, AfterReply, attack_ahead, tree_ahead, reply_ahead, replies_ahead}

-- no letter of a promotion follows a move that has none
abbrev pub CanFollow : Ply → List ℕ → Type 0
CanFollow m x = promotion_text m.promotion ≡ [] → promotion_of (next_byte x) ≡ None

pub same_head : (a b : ℕ) (x y : List ℕ) → a ∷ x ≡ b ∷ y → a ≡ b
same_head a b x y e = cc

pub same_tail : (a b : ℕ) (x y : List ℕ) → a ∷ x ≡ b ∷ y → x ≡ y
same_tail a b x y e = cc

same_end : (e f : End) (x y : List ℕ) → end_text e ++ x ≡ end_text f ++ y → x ≡ y
same_end Mate Mate x y e = same_tail 35 35 x y e
same_end Mate Stale x y e = same_tail 35 61 x y e
same_end Stale Mate x y e = same_tail 61 35 x y e
same_end Stale Stale x y e = same_tail 61 61 x y e

pub end_no_brace : (e : End) (x y : List ℕ) → end_text e ++ x ≡ 123 ∷ y → ⊥
end_no_brace Mate x y e = omega (arith, same_head 35 123 x y e)
end_no_brace Stale x y e = omega (arith, same_head 61 123 x y e)

pub end_no_letter : (e : End) (x : List ℕ) → promotion_of (next_byte (end_text e ++ x)) ≡ None
end_no_letter Mate x = refl
end_no_letter Stale x = refl

attack_no_letter : (inside : ℕ) (x : List ℕ) → AfterAttack inside x → promotion_of (next_byte x) ≡ None
attack_no_letter inside x (inl end) = ap (λ y. promotion_of (next_byte y)) end.2 ∙ end_no_letter end.0 end.1
attack_no_letter inside x (inr brace) = ap (λ y. promotion_of (next_byte y)) brace.1

pub after_attack : (inside : ℕ) (m : Ply) (x : List ℕ) → CanFollow m x → IsTreeAhead inside (move_text m ++ x) → AfterAttack inside x
after_attack inside m x can ahead =
    let parts = attack_ahead inside (move_text m ++ x) ahead in
    subst (AfterAttack inside) (sym (same_rest m parts.0 x parts.1 can (attack_no_letter inside parts.1 parts.3) parts.2)) parts.3

pub after_reply : (outer : ℕ) (r : Ply) (x : List ℕ) → CanFollow r x → AreRepliesAhead (suc outer) (move_text r ++ x) → AfterReply (suc outer) x
after_reply outer r x can ahead =
    let parts = reply_ahead outer (move_text r ++ x) ahead in
    let colon = parts.3 in
    subst (AfterReply (suc outer)) (sym (same_rest r parts.0 x parts.1 can (ap (λ y. promotion_of (next_byte y)) colon.1) parts.2)) colon

end_only : (inside : ℕ) (end : End) (x : List ℕ) → AfterAttack inside (end_text end ++ x) → AfterTree inside x
end_only inside end x (inl other) = subst (AfterTree inside) (sym (same_end end other.0 x other.1 other.2)) other.3
end_only inside end x (inr brace) = absurd (end_no_brace end x brace.0 brace.1)

pub at_end : (inside : ℕ) (m : Ply) (end : End) (x : List ℕ) → IsPly m → IsTreeAhead inside (move_text m ++ (end_text end ++ x)) ↔ AfterTree inside x
at_end inside m end x ply = (
  λ ahead. end_only inside end x (after_attack inside m (end_text end ++ x) (λ _. end_no_letter end x) ahead),
  λ after. tree_ahead inside m (end_text end ++ x) ply (inl (end, x, refl, after)),
)

brace_only : (inside : ℕ) (x : List ℕ) → AfterAttack inside (123 ∷ x) → AreRepliesAhead (suc inside) x
brace_only inside x (inl end) = absurd (end_no_brace end.0 end.1 x (sym end.2))
brace_only inside x (inr brace) = subst (AreRepliesAhead (suc inside)) (sym (same_tail 123 123 x brace.0 brace.1)) brace.2

pub at_brace : (inside : ℕ) (m : Ply) → IsPly m → (x : List ℕ) → IsTreeAhead inside (move_text m ++ 123 ∷ x) ↔ AreRepliesAhead (suc inside) x
at_brace inside m ply x = (
  λ ahead. brace_only inside x (after_attack inside m (123 ∷ x) (λ _. refl) ahead),
  λ replies. tree_ahead inside m (123 ∷ x) ply (inr (x, refl, replies)),
)

pub at_colon : (outer : ℕ) (r : Ply) → IsPly r → (x : List ℕ) → AreRepliesAhead (suc outer) (move_text r ++ 58 ∷ x) ↔ IsTreeAhead (suc outer) x
at_colon outer r ply x = (
  λ ahead.
      let colon = after_reply outer r (58 ∷ x) (λ _. refl) ahead in
      subst (IsTreeAhead (suc outer)) (sym (same_tail 58 58 x colon.0 colon.1)) colon.2,
  λ tree. replies_ahead outer r (58 ∷ x) ply (x, refl, tree),
)

comma_only : (outer : ℕ) (x : List ℕ) → AfterTree (suc outer) (44 ∷ x) → AreRepliesAhead (suc outer) x
comma_only outer x (inl close) = absurd (omega (arith, same_head 44 125 x close.0 close.1))
comma_only outer x (inr comma) = (comma.0, comma.1, same_tail 44 44 x _ comma.2, comma.3, comma.4)

pub at_comma : (outer : ℕ) (x : List ℕ) → AfterTree (suc outer) (44 ∷ x) ↔ AreRepliesAhead (suc outer) x
at_comma outer x = (comma_only outer x, λ ahead. inr (ahead.0, ahead.1, ap (λ y. 44 ∷ y) ahead.2, ahead.3, ahead.4))

close_only : (outer : ℕ) (x : List ℕ) → AfterTree (suc outer) (125 ∷ x) → AfterTree outer x
close_only outer x (inl close) = subst (AfterTree outer) (sym (same_tail 125 125 x close.0 close.1)) close.2
close_only outer x (inr comma) = absurd (omega (arith, same_head 125 44 x _ comma.2))

pub at_close : (outer : ℕ) (x : List ℕ) → AfterTree (suc outer) (125 ∷ x) ↔ AfterTree outer x
at_close outer x = (close_only outer x, λ after. inl (x, refl, after))

-- ---- which bytes can come

pub attack_first : (inside : ℕ) (x : List ℕ) → AfterAttack inside x → (next_byte x ≡ Some 35) ⊎ ((next_byte x ≡ Some 61) ⊎ (next_byte x ≡ Some 123))
attack_first inside x (inl end) = end_first end.0 end.1 end.2
  where
    end_first : (e : End) (y : List ℕ) → x ≡ end_text e ++ y → (next_byte x ≡ Some 35) ⊎ ((next_byte x ≡ Some 61) ⊎ (next_byte x ≡ Some 123))
    end_first Mate y e = inl (ap next_byte e)
    end_first Stale y e = inr (inl (ap next_byte e))
attack_first inside x (inr brace) = inr (inr (ap next_byte brace.1))

pub after_first : (outer : ℕ) (x : List ℕ) → AfterTree (suc outer) x → (next_byte x ≡ Some 125) ⊎ (next_byte x ≡ Some 44)
after_first outer x (inl close) = inl (ap next_byte close.1)
after_first outer x (inr comma) = inr (ap next_byte comma.2)
