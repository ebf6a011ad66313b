-- What the first line's texts are, and that each is of one answer at most.
use Rattle.std.proofs.Common.{◌≡◌, ◌≤◌, ℕ, ◌+◌, ◌/◌, ◌%◌, List, [], ◌∷◌, ◌++◌, refl, sym, ap, ◌∙◌, arith, codes, All, ◌<◌, ◌≢◌}
use Rattle.verifying.proofs.Common.{decimal_digit, decimal_step, decimal_injective, decimal, Ply, move_text, append_cancel_left, PlainBoard, Goal, Answer, Word, first_line, goal_text, IsInRange, HasNamedMove, ProveAnswer, IsCertificate, decimal_by_steps, All-cons, All-head, All-nil, All-push, All-tail}
use Rattle.rules.proofs.Naming.{one_name, ply_of_lawful}
use Rattle.rules.specs.declared.goal.Goal.TheVariants as goal
use Rattle.problems.specs.declared.answer.Answer.TheVariants as answer

-- ---- numbers

pub high_decimal : (n : ℕ) → 10 ≤ n → n ≤ 63 → decimal n ≡ (48 + n / 10) ∷ (48 + n % 10) ∷ []
high_decimal n large few = decimal_step n large (omega arith) ∙ ap (λ (x : List ℕ). x ++ (48 + n % 10) ∷ []) (decimal_digit (n / 10) (omega arith))

-- no digit is a byte below them
pub apart_decimal : (s n : ℕ) → s < 48 → n ≤ 63 → All (λ c. c ≢ s) (decimal n)
apart_decimal s n low few = decimal_by_steps (λ k digits. All (λ c. c ≢ s) digits)
    (λ k small. All-cons (λ c. c ≢ s) (48 + k) [] (λ e. omega (arith, low, e)) (All-nil (λ c. c ≢ s)))
    (λ k digits large all. All-push (λ c. c ≢ s) digits (48 + k % 10) all (λ e. omega (arith, low, e))) n (omega (arith, few))

-- two texts are one up to a byte that neither has in front of it
pub one_cut : (s : ℕ) (x y a b : List ℕ) → All (λ c. c ≢ s) x → All (λ c. c ≢ s) y → x ++ s ∷ a ≡ y ++ s ∷ b → (x ≡ y) × (a ≡ b)
one_cut s [] [] a b p q e = (refl, cc)
one_cut s [] (d ∷ y) a b p q e = let same : d ≡ s = cc in absurd (All-head (λ c. c ≢ s) d y q same)
one_cut s (c ∷ x) [] a b p q e = let same : c ≡ s = cc in absurd (All-head (λ c. c ≢ s) c x p same)
one_cut s (c ∷ x) (d ∷ y) a b p q e =
    let others : x ++ s ∷ a ≡ y ++ s ∷ b = cc in
    let rest = one_cut s x y a b (All-tail (λ c. c ≢ s) c x p) (All-tail (λ c. c ≢ s) d y q) others in
    (cc (rest.0), rest.1)

-- ---- answers

not_none : (goal : Goal) (n limit : ℕ) (m : Ply) → first_line goal (answer.Mate n m) ≡ first_line goal (answer.NoneWithin limit) → ⊥
not_none goal.Mate n limit m e = let head : ◌≡◌ {A = ℕ} 109 110 = cc in omega (arith, head)
not_none goal.MateOrStale n limit m e = let head : ◌≡◌ {A = ℕ} 103 110 = cc in omega (arith, head)

pub one_answer : (goal : Goal) (a b : Answer) → IsInRange a → IsInRange b → HasNamedMove a → HasNamedMove b → first_line goal a ≡ first_line goal b → a ≡ b
one_answer goal (answer.Mate n m) (answer.Mate k l) range also named named_too e =
    let both = one_cut 32 (decimal n) (decimal k) (move_text m) (move_text l) (apart_decimal 32 n (omega arith) range.1) (apart_decimal 32 k (omega arith) also.1) (append_cancel_left (goal_text goal) _ _ e) in
    ap (λ k. answer.Mate k m) (decimal_injective n k (omega (arith, range.1)) (omega (arith, also.1)) both.0) ∙ ap (λ (x : Ply). answer.Mate k x) (one_name m l named named_too both.1)
one_answer goal (answer.Mate n m) (answer.NoneWithin limit) range also named named_too e = absurd (not_none goal n limit m e)
one_answer goal (answer.NoneWithin limit) (answer.Mate k l) range also named named_too e = absurd (not_none goal k limit l (sym e))
one_answer goal (answer.NoneWithin limit) (answer.NoneWithin most) range also named named_too e =
    let same : limit ≡ most = decimal_injective limit most (omega (arith, range.1)) (omega (arith, also.1)) (append_cancel_left (codes "none within ") (decimal limit) (decimal most) e) in
    ap answer.NoneWithin same

-- ---- the move of a mate that is proved

proved_named : (goal : Goal) (b : PlainBoard) (told : Answer) (lines : List (List Word)) → ProveAnswer goal b told lines → HasNamedMove told
proved_named goal b (answer.Mate n first) lines ([], noes, is, (won, make, few), held) = absurd make
proved_named goal b (answer.Mate n first) lines (line ∷ yeas, noes, is, (won, (next, (place, words, spelled, at, some, q, move, win), rest), few), held) = ply_of_lawful b first (q, move)
proved_named goal b (answer.NoneWithin limit) lines prove = tt

pub certificate_named : (goal : Goal) (b : PlainBoard) (told : Answer) (text : List ℕ) → IsCertificate goal b told text → HasNamedMove told
certificate_named goal b told text certificate = proved_named goal b told certificate.lines certificate.prove
