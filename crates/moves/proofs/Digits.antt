-- Four bits of a word, and how an exclusive or changes them.
use Rattle.moves.proofs.Common.{◌≡◌, ◌≢◌, ℕ, ◌+◌, ◌-◌, ◌*◌, ◌/◌, ◌%◌, ◌^◌, ◌<◌, suc, sym, ap, subst, ◌∙◌, arith, inl, inr, pow-add, shl-shr, shr-shr, shr_le, xor_shr, xor_mod, shl_whole, cases_order, bit_xor, digit}
use Rattle.std.proofs.Math.Nat.{mul_assoc, mul-mod_left}
use Rattle.std.specs.Int.Bits.{xor_self, xor_assoc, xor_zero_l, xor_zero_r}

pub digit_xor : (a b i : ℕ) → digit (bit_xor a b) i ≡ bit_xor (digit a i) (digit b i)
digit_xor a b i = ap (λ n. n % 16) (xor_shr a b (4 * i)) ∙ xor_mod (a / 2 ^ (4 * i)) (b / 2 ^ (4 * i)) 4

digit_here : (x k : ℕ) → x < 16 → digit (x * 2 ^ (4 * k)) k ≡ x
digit_here x k h = ap (λ n. n % 16) (shl-shr x (4 * k)) ∙ omega (arith, h)

digit_above : (x k m : ℕ) → x < 16 → digit (x * 2 ^ (4 * k)) (k + suc m) ≡ 0
digit_above x k m h =
    let at : 4 * (k + suc m) ≡ 4 * k + (4 + 4 * m) = omega arith in
    let one : x * 2 ^ (4 * k) / 2 ^ (4 * (k + suc m)) ≡ x / 16 / 2 ^ (4 * m) =
    ap (λ e. x * 2 ^ (4 * k) / 2 ^ e) at ∙ sym (shr-shr (x * 2 ^ (4 * k)) (4 * k) (4 + 4 * m))
    ∙ ap (λ n. n / 2 ^ (4 + 4 * m)) (shl-shr x (4 * k)) ∙ sym (shr-shr x 4 (4 * m)) in
    omega (arith, one, shr_le (x / 16) (4 * m), h)

digit_below : (x i m : ℕ) → digit (x * 2 ^ (4 * (i + suc m))) i ≡ 0
digit_below x i m =
    let at : 4 * (i + suc m) ≡ (4 * m + 4) + 4 * i = omega arith in
    let split : x * 2 ^ (4 * (i + suc m)) ≡ (x * 2 ^ (4 * m) * 16) * 2 ^ (4 * i) =
    ap (λ e. x * 2 ^ e) at ∙ ap (λ p. x * p) (pow-add 2 (4 * m + 4) (4 * i) ∙ ap (λ p. p * 2 ^ (4 * i)) (pow-add 2 (4 * m) 4))
    ∙ sym (mul_assoc x (2 ^ (4 * m) * 16) (2 ^ (4 * i))) ∙ ap (λ p. p * 2 ^ (4 * i)) (sym (mul_assoc x (2 ^ (4 * m)) 16)) in
    ap (λ n. n / 2 ^ (4 * i) % 16) split ∙ ap (λ n. n % 16) (shl-shr (x * 2 ^ (4 * m) * 16) (4 * i)) ∙ mul-mod_left (x * 2 ^ (4 * m)) 16

digit_elsewhere : (x k i : ℕ) → x < 16 → i ≢ k → digit (x * 2 ^ (4 * k)) i ≡ 0
digit_elsewhere x k i h other = elim (cases_order i k) [
  | inl same ↦ absurd (other same)
  | inr (inl below) ↦ let e : k ≡ i + suc (k - i - 1) = omega arith in subst (λ n. digit (x * 2 ^ (4 * n)) i ≡ 0) (sym e) (digit_below x i (k - i - 1))
  | inr (inr above) ↦ let e : i ≡ k + suc (i - k - 1) = omega arith in subst (λ n. digit (x * 2 ^ (4 * k)) n ≡ 0) (sym e) (digit_above x k (i - k - 1) h)
]

-- the word after `word ^ (change << (4 * place))`, where change is the old code with the new one
module _ (word place code change moved : ℕ) (p : place < 16) (c : code < 16) (e : change ≡ bit_xor (digit word place) code) (small : change < 16) (m : moved ≡ change * 2 ^ (4 * place) % 2 ^ 64) where
  whole : moved ≡ change * 2 ^ (4 * place)
  whole = m ∙ shl_whole change 4 (4 * place) 64 small (omega arith)

  pub digit_there : digit (bit_xor word moved) place ≡ code
  digit_there =
      digit_xor word moved place
      ∙ ap (λ n. bit_xor (digit word place) (digit n place)) whole
      ∙ ap (λ n. bit_xor (digit word place) n) (digit_here change place small ∙ e)
      ∙ sym (xor_assoc (digit word place) (digit word place) code)
      ∙ ap (λ n. bit_xor n code) (xor_self (digit word place))
      ∙ xor_zero_l code

  pub digit_other : (i : ℕ) → i ≢ place → digit (bit_xor word moved) i ≡ digit word i
  digit_other i other =
      digit_xor word moved i
      ∙ ap (λ n. bit_xor (digit word i) (digit n i)) whole
      ∙ ap (λ n. bit_xor (digit word i) n) (digit_elsewhere change place i small other)
      ∙ xor_zero_r (digit word i)

-- a word moved down by whole digits
pub digit_shifted : (word places i : ℕ) → digit (word / 2 ^ (4 * places)) i ≡ digit word (places + i)
digit_shifted word places i = let at : 4 * places + 4 * i ≡ 4 * (places + i) = omega arith in ap (λ n. n % 16) (shr-shr word (4 * places) (4 * i) ∙ ap (λ e. word / 2 ^ e) at)
