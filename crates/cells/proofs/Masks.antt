-- Runs of ones up to the lowest bit of a set, or down to the highest.
use Rattle.std.proofs.Common.{◌≡◌, ◌≢◌, ℕ, ◌+◌, ◌-◌, ◌*◌, ◌/◌, ◌%◌, ◌^◌, ◌<◌, ◌≤◌, zero, suc, sym, ap, subst, ◌∙◌, arith, ◌↔◌, ◌⊎◌, inl, inr, w64, IsTrue, not, eqb}
use native.Mathlib.Nat.{pow-suc}
use lib.Count.{count_leading_zeros, leading_top}
use Rattle.std.specs.Int.{bit_at, bit_not}
use Rattle.std.specs.Int.RustNames.{bit_and, bit_or}
use Rattle.std.specs.Int.Bits.{bit_xor}
use Rattle.std.proofs.lemmas.Bool.{cases_eq, cases_lt, false≢true, eq-eqb, eqb-true, not_from_true, not_from_false, false_from_ne_true}
use Rattle.std.proofs.lemmas.Nat.{or_lt, and_le_l, one_shl}
use Rattle.std.proofs.lemmas.Nat.Bits.{bit_at-zero, bit_at-lt, bit_at-suc, bit_at_lowest, bit_at_and, bit_at_or, bit_at_xor, bit_at_not, bit_at-pow_same, bit_at-pow_other, bit_at_ones, bit_at_above, bit_at-trailing_zeros, ones_shl, bit_at_mask_inside, bit_at_mask_below, bit_at_cat_high, bit_at_clear_same, bit_at_clear_other}
use Rattle.cells.specs.CellSets.{Has}

some_from : (n i : ℕ) → bit_at n i ≡ 1 → 0 < n
some_from n i h = elim (cases_lt 0 n) [
  | inl some ↦ some
  | inr none ↦
      let e : n ≡ 0 = omega (arith, none) in
      let z = bit_at-zero i in
      let there : bit_at 0 i ≡ 1 = subst (λ x. bit_at x i ≡ 1) e h in
      absurd (omega (arith, z, there))
]

-- a number and the one before it differ from the lowest bit down, and nowhere else
lowered : (j n : ℕ) → 0 < n → ((bit_at n j + bit_at (n - 1) j) % 2 ≡ 1) ↔ ((i : ℕ) → i < j → Has n i → ⊥)
lowered zero n some =
    let a = bit_at_lowest n in
    let b = bit_at_lowest (n - 1) in
    (λ _ i less there. absurd (omega (arith, less)), λ _. omega (arith, a, b, some))
lowered (suc j) n some =
    let a = bit_at-suc n j in
    let b = bit_at-suc (n - 1) j in
    let bottom = bit_at_lowest n in
    elim (cases_eq (n % 2) 1) [
      | inl odd ↦
          let same : (n - 1) / 2 ≡ n / 2 = omega (arith, odd) in
          let b' : bit_at (n - 1) (suc j) ≡ bit_at (n / 2) j = b ∙ ap (λ k. bit_at k j) same in (
            λ h. absurd (omega (arith, a, b', h)),
            λ clear. absurd (clear 0 (omega arith) (omega (arith, bottom, odd))),
          )
      | inr even ↦
          let same : (n - 1) / 2 ≡ n / 2 - 1 = omega (arith, even, some) in
          let b' : bit_at (n - 1) (suc j) ≡ bit_at (n / 2 - 1) j = b ∙ ap (λ k. bit_at k j) same in
          let half = lowered j (n / 2) (omega (arith, even, some)) in (
            λ h i less there. elim (cases_eq i 0) [
              | inl first ↦ let there' : bit_at n 0 ≡ 1 = subst (Has n) first there in omega (arith, bottom, even, there')
              | inr later ↦
                  let next : i ≡ suc (i - 1) = omega (arith, later) in
                  half.0 (omega (arith, a, b', h)) (i - 1) (omega (arith, less, later)) (sym (bit_at-suc n (i - 1)) ∙ subst (Has n) next there)
            ],
            λ clear. let w = half.1 (λ i less there. clear (suc i) (omega (arith, less)) (bit_at-suc n i ∙ there)) in omega (arith, a, b', w),
          )
    ]

pub up_to : (stops : ℕ) → stops < 2 ^ 64 → (j : ℕ) → j < 63 → Has (bit_xor stops ((stops + (2 ^ 64 - 1)) % 2 ^ 64)) j ↔ ((i : ℕ) → i < j → Has stops i → ⊥)
up_to stops fits j below =
    let e = bit_at_xor stops ((stops + (2 ^ 64 - 1)) % 2 ^ 64) j in
    elim (cases_lt 0 stops) [
      | inl some ↦
          let less : (stops + (2 ^ 64 - 1)) % 2 ^ 64 ≡ stops - 1 = omega (arith, some, fits) in
          let b : bit_at ((stops + (2 ^ 64 - 1)) % 2 ^ 64) j ≡ bit_at (stops - 1) j = ap (λ k. bit_at k j) less in
          let w = lowered j stops some in
          (λ h. w.0 (omega (arith, e, b, h)), λ clear. let x = w.1 clear in omega (arith, e, b, x))
      | inr none ↦
          let zero : stops ≡ 0 = omega (arith, none) in
          let a : bit_at stops j ≡ 0 = ap (λ k. bit_at k j) zero ∙ bit_at-zero j in
          let all : (stops + (2 ^ 64 - 1)) % 2 ^ 64 ≡ 2 ^ 64 - 1 = omega (arith, zero) in
          let b : bit_at ((stops + (2 ^ 64 - 1)) % 2 ^ 64) j ≡ 1 = ap (λ k. bit_at k j) all ∙ bit_at_ones 64 j (omega (arith, below)) in (
            λ _ i less there. let z = bit_at-zero i in let there' : bit_at 0 i ≡ 1 = subst (λ k. bit_at k i ≡ 1) zero there in omega (arith, z, there'),
            λ _. omega (arith, e, a, b),
          )
    ]

module _ (stops : ℕ) (fits : stops < 2 ^ 64) where
  -- the place of the highest bit, or 0
  high_is : (h : ℕ) × (count_leading_zeros 64 (bit_or stops 1) + suc h ≡ 64) × (2 ^ h ≤ bit_or stops 1) × (bit_or stops 1 < 2 ^ suc h)
  high_is =
      let bottom = bit_at_or stops 1 0 in
      let one = bit_at-pow_same 0 in
      let small = bit_at-lt stops 0 in
      leading_top 64 (bit_or stops 1) (some_from _ 0 (omega (arith, bottom, one, small))) (or_lt 64 stops 1 fits (omega arith))

  pub high_small : count_leading_zeros 64 (bit_or stops 1) < 64
  high_small = let w = high_is in omega (arith, w.1)

  pub down_to : (j : ℕ) → 0 < j → j < 64 → Has ((2 ^ 64 - 1) * 2 ^ (63 - count_leading_zeros 64 (bit_or stops 1)) % 2 ^ 64) j ↔ ((i : ℕ) → j < i → Has stops i → ⊥)
  down_to j some below =
      let (h, sum, least, most) = high_is in
      let within : h < 64 = omega (arith, sum) in
      let run : (2 ^ 64 - 1) * 2 ^ (63 - count_leading_zeros 64 (bit_or stops 1)) % 2 ^ 64 ≡ 2 ^ 64 - 2 ^ h =
      ap (λ k. (2 ^ 64 - 1) * 2 ^ k % 2 ^ 64) (omega (arith, sum)) ∙ ones_shl 64 h (omega (arith, within)) in
      let there : bit_at (bit_or stops 1) h ≡ 1 = top_bit h (bit_or stops 1) least most in (
        λ has i more stop.
            elim (cases_lt j h) [
              | inl under ↦
                  let z = bit_at_mask_below h 64 j under in
                  let has' : bit_at (2 ^ 64 - 2 ^ h) j ≡ 1 = subst (λ n. bit_at n j ≡ 1) run has in
                  omega (arith, z, has')
              | inr over ↦
                  let z = bit_at_above (bit_or stops 1) (suc h) i most (omega (arith, over, more)) in
                  let e = bit_at_or stops 1 i in
                  let o = bit_at-lt 1 i in
                  omega (arith, z, e, stop, o)
            ],
        λ clear. elim (cases_lt j h) [
          | inl under ↦
              let e = bit_at_or stops 1 h in
              let o = bit_at-pow_other 0 h (omega (arith, under, some)) in
              let s = bit_at-lt stops h in
              absurd (clear h under (omega (arith, there, e, o, s)))
          | inr over ↦ subst (λ n. bit_at n j ≡ 1) (sym run) (bit_at_mask_inside h 64 j over below)
        ],
      )
    where
      top_bit : (h n : ℕ) → 2 ^ h ≤ n → n < 2 ^ suc h → bit_at n h ≡ 1
      top_bit h n least most =
          let twice : 2 ^ suc h ≡ 2 ^ h * 2 = pow-suc 2 h in
          let parts : n ≡ 1 * 2 ^ h + (n - 2 ^ h) = omega (arith, least) in
          let none : h - h ≡ 0 = omega arith in
          ap (λ x. bit_at x h) parts ∙ bit_at_cat_high 1 h (n - 2 ^ h) h (omega (arith, least, most, twice)) (omega arith) ∙ ap (bit_at 1) none ∙ bit_at-pow_same 0

-- ---- sets joined

pub Has-and : (a b i : ℕ) → Has (bit_and a b) i ↔ (Has a i × Has b i)
Has-and a b i =
    let e = bit_at_and a b i in
    let p = bit_at-lt a i in
    let q = bit_at-lt b i in
    (λ h. (omega (arith, e, p, q, h), omega (arith, e, p, q, h)), λ w. omega (arith, e, p, q, w.0, w.1))

pub Has-or : (a b i : ℕ) → Has (bit_or a b) i ↔ (Has a i ⊎ Has b i)
Has-or a b i =
    let e = bit_at_or a b i in
    let p = bit_at-lt a i in
    let q = bit_at-lt b i in (
      λ h. elim (cases_eq (bit_at a i) 1) [ inl x ↦ inl x | inr other ↦ inr (omega (arith, e, p, q, h, other)) ],
      λ w. elim w [ inl x ↦ omega (arith, e, p, q, x) | inr y ↦ omega (arith, e, p, q, y) ],
    )

-- a set without another
pub Has-minus : (a b i : ℕ) → a < 2 ^ 64 → b < 2 ^ 64 → Has (bit_and a (bit_not w64 b)) i ↔ (Has a i × (Has b i → ⊥))
Has-minus a b i fa fb = elim (cases_lt i 64) [
  | inl low ↦
      let n = bit_at_not w64 b i fb low in
      let q = bit_at-lt b i in (
        λ h. let w = (Has-and a (bit_not w64 b) i).0 h in (w.0, λ there. let x = w.1 in omega (arith, n, x, there)),
        λ w. (Has-and a (bit_not w64 b) i).1 (w.0, elim (cases_eq (bit_at b i) 1) [ inl there ↦ absurd (w.1 there) | inr other ↦ omega (arith, n, q, other) ]),
      )
  | inr high ↦
      let z = bit_at_above a 64 i fa high in (
        λ h. let w = (Has-and a (bit_not w64 b) i).0 h in let x = w.0 in absurd (omega (arith, z, x)),
        λ w. let x = w.0 in absurd (omega (arith, z, x)),
      )
]

pub Has-zero : (i : ℕ) → Has 0 i → ⊥
Has-zero i h = let z = bit_at-zero i in omega (arith, z, h)

-- a set without one cell
pub Has-clear : (n k i : ℕ) → n < 2 ^ 64 → k < 64 → Has (bit_and n (bit_not w64 (1 * 2 ^ k % 2 ^ 64))) i ↔ (Has n i × (i ≢ k))
Has-clear n k i fits low = elim (cases_lt i 64) [
  | inl small ↦ elim (cases_eq i k) [
    | inl same ↦ (
      λ h. let z = bit_at_clear_same w64 n k low in let h' : bit_at (bit_and n (bit_not w64 (1 * 2 ^ k % 2 ^ 64))) k ≡ 1 = subst (λ x. bit_at (bit_and n (bit_not w64 (1 * 2 ^ k % 2 ^ 64))) x ≡ 1) same h in absurd (omega (arith, z, h')),
      λ w. absurd (w.1 same),
    )
    | inr other ↦ let e = bit_at_clear_other w64 n k low i small other in (λ h. (sym e ∙ h, other), λ w. e ∙ w.0)
  ]
  | inr high ↦
      let z = bit_at_above n 64 i fits high in (
        λ h. let w = (Has-and n _ i).0 h in let x = w.0 in absurd (omega (arith, z, x)),
        λ w. let x = w.0 in absurd (omega (arith, z, x)),
      )
]

-- a set without its lowest cell
pub Has-rest : (n low : ℕ) → 0 < n → Has n low → ((i : ℕ) → i < low → Has n i → ⊥) → (i : ℕ) → Has (bit_and n (n - 1)) i ↔ (Has n i × (i ≢ low))
Has-rest n low some there least i =
    let differ = lowered i n some in
    let p = bit_at-lt n i in
    let q = bit_at-lt (n - 1) i in (
      λ h.
          let (x, y) = (Has-and n (n - 1) i).0 h in (
            x,
            λ same. let d = differ.1 (λ k less. least k (omega (arith, same, less))) in omega (arith, x, y, d),
          ),
      λ w. elim (cases_lt low i) [
        | inr near ↦ absurd (least i (let other = w.1 in omega (arith, near, other)) w.0)
        | inl past ↦ elim (cases_eq (bit_at (n - 1) i) 1) [
          | inl one ↦ (Has-and n (n - 1) i).1 (w.0, one)
          | inr none ↦ let x = w.0 in absurd (differ.0 (omega (arith, p, q, x, none)) low past there)
        ]
      ],
    )

pub and_fits : (n m : ℕ) → n < 2 ^ 64 → bit_and n m < 2 ^ 64
and_fits n m fits = let l = and_le_l n m in omega (arith, l, fits)

-- four sets joined
pub Has-four : (a b c d i : ℕ) → Has (bit_or (bit_or (bit_or a b) c) d) i ↔ (Has a i ⊎ (Has b i ⊎ (Has c i ⊎ Has d i)))
Has-four a b c d i = (
  λ h. elim ((Has-or (bit_or (bit_or a b) c) d i).0 h) [
    | inl x ↦ elim ((Has-or (bit_or a b) c i).0 x) [
      | inl y ↦ elim ((Has-or a b i).0 y) [ inl z ↦ inl z | inr z ↦ inr (inl z) ]
      | inr y ↦ inr (inr (inl y))
    ]
    | inr x ↦ inr (inr (inr x))
  ],
  λ w. elim w [
    | inl x ↦ (Has-or (bit_or (bit_or a b) c) d i).1 (inl ((Has-or (bit_or a b) c i).1 (inl ((Has-or a b i).1 (inl x)))))
    | inr (inl x) ↦ (Has-or (bit_or (bit_or a b) c) d i).1 (inl ((Has-or (bit_or a b) c i).1 (inl ((Has-or a b i).1 (inr x)))))
    | inr (inr (inl x)) ↦ (Has-or (bit_or (bit_or a b) c) d i).1 (inl ((Has-or (bit_or a b) c i).1 (inr x)))
    | inr (inr (inr x)) ↦ (Has-or (bit_or (bit_or a b) c) d i).1 (inr x)
  ],
)

-- each set with what it has
pub four-are : (A B C D : ℕ → Type 0) (a b c d : ℕ) → ((i : ℕ) → Has a i ↔ A i) → ((i : ℕ) → Has b i ↔ B i) → ((i : ℕ) → Has c i ↔ C i) → ((i : ℕ) → Has d i ↔ D i)
    → (i : ℕ) → Has (bit_or (bit_or (bit_or a b) c) d) i ↔ (A i ⊎ (B i ⊎ (C i ⊎ D i)))
four-are A B C D a b c d p q r s i =
    let w = Has-four a b c d i in (
      λ h. elim (w.0 h) [
        | inl x ↦ inl ((p i).0 x)
        | inr (inl x) ↦ inr (inl ((q i).0 x))
        | inr (inr (inl x)) ↦ inr (inr (inl ((r i).0 x)))
        | inr (inr (inr x)) ↦ inr (inr (inr ((s i).0 x)))
      ],
      λ h. w.1 (elim h [
        | inl x ↦ inl ((p i).1 x)
        | inr (inl x) ↦ inr (inl ((q i).1 x))
        | inr (inr (inl x)) ↦ inr (inr (inl ((r i).1 x)))
        | inr (inr (inr x)) ↦ inr (inr (inr ((s i).1 x)))
      ]),
    )

-- a set of one cell
pub Has-single : (k : ℕ) → k < 64 → (i : ℕ) → Has (1 * 2 ^ k % 2 ^ 64) i ↔ (k ≡ i)
Has-single k low i =
    let e = one_shl k 64 low in
    elim (cases_eq i k) [
      | inl same ↦ (λ _. sym same, λ _. ap (λ n. bit_at n i) e ∙ subst (λ x. bit_at (2 ^ k) x ≡ 1) (sym same) (bit_at-pow_same k))
      | inr other ↦ let z = bit_at-pow_other k i other in (
        λ h. let h' : bit_at (2 ^ k) i ≡ 1 = ap (λ n. bit_at n i) (sym e) ∙ h in absurd (omega (arith, z, h')),
        λ same. absurd (other (sym same)),
      )
    ]

-- a set that isn't 0 has its lowest cell
pub lowest-has : (a : ℕ) → a < 2 ^ 64 → (a ≡ 0 → ⊥) → (i : ℕ) × Has a i
lowest-has a fits some = elim (cases_lt 0 a) [
  | inl more ↦ let w = bit_at-trailing_zeros w64 a more fits in (_, w.1)
  | inr none ↦ absurd (some (omega (arith, none)))
]

pub not-zero : (n : ℕ) → IsTrue (not (eqb n 0)) ↔ (n ≡ 0 → ⊥)
not-zero n = (
  λ e zero. false≢true (sym (not_from_true (eqb n 0) (eq-eqb n 0 zero)) ∙ e),
  λ h. not_from_false (eqb n 0) (false_from_ne_true (eqb n 0) (λ t. h (eqb-true n 0 t))),
)

-- a set without one of its cells is less
pub less_cleared : (set to : ℕ) → to < 64 → bit_at set to ≡ 1 → bit_and set (bit_not w64 (1 * 2 ^ to % 2 ^ 64)) < set
less_cleared set to wide has =
    let le = and_le_l set (bit_not w64 (1 * 2 ^ to % 2 ^ 64)) in
    let gone = bit_at_clear_same w64 set to wide in
    elim (cases_lt (bit_and set (bit_not w64 (1 * 2 ^ to % 2 ^ 64))) set) [
      | inl less ↦ less
      | inr more ↦
          let same : bit_and set (bit_not w64 (1 * 2 ^ to % 2 ^ 64)) ≡ set = omega (arith, le, more) in
          let here : bit_at (bit_and set (bit_not w64 (1 * 2 ^ to % 2 ^ 64))) to ≡ 1 = ap (λ x. bit_at x to) same ∙ has in
          absurd (omega (arith, gone, here))
    ]
