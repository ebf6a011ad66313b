-- The words of one slot among those of the table.
use Rattle.std.proofs.Common.{◌≡◌, ◌≢◌, ℕ, zero, suc, ◌+◌, ◌*◌, ◌<◌, List, [], ◌∷◌, length, set, get_or, ap, subst, arith, get_or-set_other, get_or-set_same}
use Rattle.slots.specs.Rule.{gate_at, words_at}

pub word_of : (k i : ℕ) (ws : List ℕ) → i < 3 → get_or ws (4 * k + 1 + i) 0 ≡ get_or (words_at k ws) i 0
word_of k zero ws lt = let e : 4 * k + 1 + zero ≡ 4 * k + 1 = omega arith in ap (λ z. get_or ws z 0) e
word_of k (suc zero) ws lt = let e : 4 * k + 1 + suc zero ≡ 4 * k + 2 = omega arith in ap (λ z. get_or ws z 0) e
word_of k (suc (suc zero)) ws lt = let e : 4 * k + 1 + suc (suc zero) ≡ 4 * k + 3 = omega arith in ap (λ z. get_or ws z 0) e
word_of k (suc (suc (suc i))) ws lt = absurd (omega arith)

pub gate_set : (k x : ℕ) (ws : List ℕ) → 4 * k < length ws → (gate_at k (set ws (4 * k) x) ≡ x) × (words_at k (set ws (4 * k) x) ≡ words_at k ws)
gate_set k x ws lt = (
  get_or-set_same ws (4 * k) x 0 lt,
  λ j. get_or-set_other ws (4 * k) (4 * k + 1) x 0 (λ e. omega arith) j ∷ get_or-set_other ws (4 * k) (4 * k + 2) x 0 (λ e. omega arith) j ∷ get_or-set_other ws (4 * k) (4 * k + 3) x 0 (λ e. omega arith) j ∷ [],
)

pub word_set : (k i x : ℕ) (ws : List ℕ) → i < 3 → 4 * k + 1 + i < length ws → (gate_at k (set ws (4 * k + 1 + i) x) ≡ gate_at k ws) × (words_at k (set ws (4 * k + 1 + i) x) ≡ set (words_at k ws) i x)
word_set k zero x ws inn lt = let p : ℕ = 4 * k + 1 + zero in (
  get_or-set_other ws p (4 * k) x 0 (λ e. omega arith),
  λ j. (let e : p ≡ 4 * k + 1 = omega arith in subst (λ z. get_or (set ws p x) z 0 ≡ x) e (get_or-set_same ws p x 0 lt)) j ∷ get_or-set_other ws p (4 * k + 2) x 0 (λ e. omega arith) j ∷ get_or-set_other ws p (4 * k + 3) x 0 (λ e. omega arith) j ∷ [],
)
word_set k (suc zero) x ws inn lt = let p : ℕ = 4 * k + 1 + suc zero in (
  get_or-set_other ws p (4 * k) x 0 (λ e. omega arith),
  λ j. get_or-set_other ws p (4 * k + 1) x 0 (λ e. omega arith) j ∷ (let e : p ≡ 4 * k + 2 = omega arith in subst (λ z. get_or (set ws p x) z 0 ≡ x) e (get_or-set_same ws p x 0 lt)) j ∷ get_or-set_other ws p (4 * k + 3) x 0 (λ e. omega arith) j ∷ [],
)
word_set k (suc (suc zero)) x ws inn lt = let p : ℕ = 4 * k + 1 + suc (suc zero) in (
  get_or-set_other ws p (4 * k) x 0 (λ e. omega arith),
  λ j. get_or-set_other ws p (4 * k + 1) x 0 (λ e. omega arith) j ∷ get_or-set_other ws p (4 * k + 2) x 0 (λ e. omega arith) j ∷ (let e : p ≡ 4 * k + 3 = omega arith in subst (λ z. get_or (set ws p x) z 0 ≡ x) e (get_or-set_same ws p x 0 lt)) j ∷ [],
)
word_set k (suc (suc (suc i))) x ws inn lt = absurd (omega arith)

-- a word of another slot
pub slot_set : (j k i x : ℕ) (ws : List ℕ) → i < 4 → j ≢ k → (gate_at j (set ws (4 * k + i) x) ≡ gate_at j ws) × (words_at j (set ws (4 * k + i) x) ≡ words_at j ws)
slot_set j k i x ws inn ne = (
  get_or-set_other ws (4 * k + i) (4 * j) x 0 (λ e. ne (omega arith)),
  λ h. get_or-set_other ws (4 * k + i) (4 * j + 1) x 0 (λ e. ne (omega arith)) h ∷ get_or-set_other ws (4 * k + i) (4 * j + 2) x 0 (λ e. ne (omega arith)) h ∷ get_or-set_other ws (4 * k + i) (4 * j + 3) x 0 (λ e. ne (omega arith)) h ∷ [],
)

pub others_at : (n k i x : ℕ) (ws : List ℕ) (p : ℕ) → 4 * k + i ≡ p → i < 4 → (j : ℕ) → j < n → j ≢ k → (gate_at j (set ws p x) ≡ gate_at j ws) × (words_at j (set ws p x) ≡ words_at j ws)
others_at n k i x ws p e inn j _ ne = subst (λ z. (gate_at j (set ws z x) ≡ gate_at j ws) × (words_at j (set ws z x) ≡ words_at j ws)) e (slot_set j k i x ws inn ne)
