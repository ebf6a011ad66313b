-- How many braces a text's beginnings leave open.
use Rattle.std.proofs.Common.{◌≡◌, ℕ, zero, suc, ◌+◌, ◌-◌, ◌≤◌, List, [], ◌∷◌, ◌++◌, length, take, refl, sym, ap, ◌∙◌, subst, inl, inr, arith, append_assoc, length-append, Result, Ok, Err, IfErr, IsOkUnless, count_by, ◌==◌, take_all}
use Rattle.std.proofs.Math.Seq.{take-append-add}
use Rattle.wintree.proofs.Common.{take-append-le, End, Mate, Stale, Plan, ends, splits, Replies, last, more, depth, deepest, IsPlan, ArePlans, move_text, text, replies_text, end_text, TreeText, TreeFault, Grammar, Deep, NoMemory, IsDeep, IsFaultOf, IsPlain, count_append}
use Rattle.wintree.proofs.Places.{count_by-take-le}
use Rattle.wintree.proofs.MoveTexts.{plain_move}
use Rattle.wintree.proofs.Standing.{le_or_lt}

abbrev opened : List ℕ → ℕ
opened xs = count_by (λ b. b == 123) xs

abbrev closed : List ℕ → ℕ
closed xs = count_by (λ b. b == 125) xs

-- the text closes what it opens, and no beginning leaves more than n open
record Nests (n : ℕ) (xs : List ℕ) : Type 0 where
  whole : opened xs ≡ closed xs
  each : (k : ℕ) → opened (take k xs) ≤ closed (take k xs) + n

nests_plain : (n : ℕ) (xs : List ℕ) → IsPlain xs → Nests n xs
nests_plain n xs plain =
    record {
      whole = plain.0 ∙ sym plain.1;
      each = λ k. elim (le_or_lt k (length xs)) as (λ _. opened (take k xs) ≤ closed (take k xs) + n) [
        | inl within ↦ omega (arith, plain.0, count_by-take-le (λ b. b == 123) xs k (length xs) within, ap opened (take_all (length xs) xs (omega arith)))
        | inr beyond ↦ omega (arith, plain.0, ap opened (take_all k xs (omega arith)))
      ];
    }

nests_append : (n : ℕ) (xs ys : List ℕ) → Nests n xs → Nests n ys → Nests n (xs ++ ys)
nests_append n xs ys first second =
    record {
      whole = omega (arith, first.whole, second.whole, count_append (λ b. b == 123) xs ys, count_append (λ b. b == 125) xs ys);
      each = λ k. elim (le_or_lt k (length xs)) as (λ _. opened (take k (xs ++ ys)) ≤ closed (take k (xs ++ ys)) + n) [
        | inl within ↦ rw (take-append-le k xs ys within) (first.each k)
        | inr beyond ↦
            let rest = k - length xs in
            let split : take k (xs ++ ys) ≡ xs ++ take rest ys = ap (λ j. take j (xs ++ ys)) (omega arith) ∙ take-append-add xs ys rest in
            rw split (omega (arith, first.whole, second.each rest, count_append (λ b. b == 123) xs (take rest ys), count_append (λ b. b == 125) xs (take rest ys)))
      ];
    }

-- braces round a text
module _ (n : ℕ) (xs : List ℕ) (inner : Nests n xs) where
  in_at : (k : ℕ) → opened (take k (123 ∷ (xs ++ 125 ∷ []))) ≤ closed (take k (123 ∷ (xs ++ 125 ∷ []))) + suc n
  in_at zero = omega arith
  in_at (suc k) =
      let one = count_append (λ b. b == 123) (123 ∷ []) (take k (xs ++ 125 ∷ [])) in
      let none = count_append (λ b. b == 125) (123 ∷ []) (take k (xs ++ 125 ∷ [])) in
      elim (le_or_lt k (length xs)) as (λ _. opened (take (suc k) (123 ∷ (xs ++ 125 ∷ []))) ≤ closed (take (suc k) (123 ∷ (xs ++ 125 ∷ []))) + suc n) [
        | inl within ↦
            let front = take-append-le k xs (125 ∷ []) within in
            omega (arith, one, none, ap opened front, ap closed front, inner.each k)
        | inr beyond ↦
            let all : take k (xs ++ 125 ∷ []) ≡ xs ++ 125 ∷ [] = take_all k (xs ++ 125 ∷ []) (omega (arith, length-append xs (125 ∷ []))) in
            omega (arith, one, none, ap opened all, ap closed all, inner.whole, count_append (λ b. b == 123) xs (125 ∷ []), count_append (λ b. b == 125) xs (125 ∷ []))
      ]

  nests_in : Nests (suc n) (123 ∷ (xs ++ 125 ∷ []))
  nests_in =
      record {
        whole = omega (arith, inner.whole, count_append (λ b. b == 123) (123 ∷ []) (xs ++ 125 ∷ []), count_append (λ b. b == 125) (123 ∷ []) (xs ++ 125 ∷ []), count_append (λ b. b == 123) xs (125 ∷ []), count_append (λ b. b == 125) xs (125 ∷ []));
        each = in_at;
      }

plain_end : (end : End) → IsPlain (end_text end)
plain_end Mate = (refl, refl)
plain_end Stale = (refl, refl)

append_braces : (m xs : List ℕ) → m ++ 123 ∷ [] ++ xs ++ 125 ∷ [] ≡ m ++ 123 ∷ (xs ++ 125 ∷ [])
append_braces m xs = simp append_assoc

mutual
  some_depth_plan : (plan : Plan) → 1 ≤ depth plan
  some_depth_plan (ends m end) = omega arith
  some_depth_plan (splits m replies) = omega arith

  some_depth : (replies : Replies) → 1 ≤ deepest replies
  some_depth (last r plan) = some_depth_plan plan
  some_depth (more r plan replies) = omega (arith, some_depth_plan plan)

-- a tree of so many nested attacker's moves leaves fewer braces open
mutual
  nests_text : (plan : Plan) → (n : ℕ) → IsPlan plan → depth plan ≤ suc n → Nests n (text plan)
  nests_text (ends m end) n ply within = nests_append n (move_text m) (end_text end) (nests_plain n (move_text m) (plain_move m ply)) (nests_plain n (end_text end) (plain_end end))
  nests_text (splits m replies) zero plan within = absurd (omega (arith, some_depth replies))
  nests_text (splits m replies) (suc n) plan within =
      subst (Nests (suc n)) (sym (append_braces (move_text m) (replies_text replies)))
      (nests_append (suc n) (move_text m) (123 ∷ (replies_text replies ++ 125 ∷ [])) (nests_plain (suc n) (move_text m) (plain_move m plan.0)) (nests_in n (replies_text replies) (nests_replies replies n plan.1 (omega arith))))

  nests_replies : (replies : Replies) → (n : ℕ) → ArePlans replies → deepest replies ≤ suc n → Nests n (replies_text replies)
  nests_replies (last r plan) n plans within =
      nests_append n (move_text r ++ 58 ∷ []) (text plan) (nests_append n (move_text r) (58 ∷ []) (nests_plain n (move_text r) (plain_move r plans.0)) (nests_plain n (58 ∷ []) (refl, refl))) (nests_text plan n plans.1 within)
  nests_replies (more r plan replies) n plans within =
      nests_append n (move_text r ++ 58 ∷ [] ++ text plan ++ 44 ∷ []) (replies_text replies)
      (nests_append n (move_text r ++ 58 ∷ [] ++ text plan) (44 ∷ [])
      (nests_append n (move_text r ++ 58 ∷ []) (text plan) (nests_append n (move_text r) (58 ∷ []) (nests_plain n (move_text r) (plain_move r plans.0)) (nests_plain n (58 ∷ []) (refl, refl))) (nests_text plan n plans.1 (omega arith)))
      (nests_plain n (44 ∷ []) (refl, refl)))
      (nests_replies replies n plans.2 (omega arith))

-- the text of a tree of at most 32 nested attacker's moves isn't too deep
pub not_deep : (bytes : List ℕ) (plan : Plan) → IsPlan plan → bytes ≡ text plan → depth plan ≤ 32 → IsDeep bytes → ⊥
not_deep bytes plan is_plan is within deep =
    let nests = nests_text plan 31 is_plan within in
    let same = ap (take deep.0) is in
    omega (arith, nests.each deep.0, ap opened same, ap closed same, deep.3)

-- a fault of the bytes is none of a text within the limit
fault_none : (bytes : List ℕ) (fault : TreeFault) → IsFaultOf bytes fault → (plan : Plan) → depth plan ≤ 32 → TreeText bytes plan → fault ≡ NoMemory
fault_none bytes (Grammar g) f plan within is = absurd (f.2 (plan, is))
fault_none bytes Deep f plan within is = absurd (not_deep bytes plan is.0 is.1 within f)
fault_none bytes NoMemory f plan within is = refl

pub accepted : (bytes : List ℕ) (r : Result Plan TreeFault) → IfErr r (IsFaultOf bytes) → (plan : Plan) → depth plan ≤ 32 → TreeText bytes plan → IsOkUnless r NoMemory
accepted bytes (Ok tree) f plan within is = tt
accepted bytes (Err fault) f plan within is = fault_none bytes fault f plan within is
