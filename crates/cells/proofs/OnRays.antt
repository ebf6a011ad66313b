-- The tables of rays: each has the next cell and the ray from there, so all the cells that way.
use Rattle.std.proofs.Common.{◌≡◌, ℕ, ◌+◌, ◌-◌, ◌/◌, ◌%◌, ◌^◌, ◌<◌, ◌≤◌, zero, suc, refl, sym, ap, subst, ◌∙◌, arith, ◌↔◌, ◌⊎◌, inl, inr, Bool, true, false, ◌&&◌, ◌||◌, not, cond, ltb, leb, eqb, List, [], get_or}
use Rattle.std.specs.Int.{bit_at}
use Rattle.std.specs.Int.RustNames.{bit_or}
use Rattle.std.proofs.lemmas.Int.{ints}
use Rattle.std.proofs.lemmas.Bool.{cases_eq, cases_lt, and_parts, and_from, lt-ltb, le-leb, ltb-true, leb-true, eqb-true, false≢true}
use Rattle.std.proofs.lemmas.Nat.Bits.{bit_at-zero, bit_at-lt, bit_at_or, bit_at_above, bit_at-pow_same, bit_at-pow_other}
use Rattle.board.specs.declared.game.Game.{Game}
use Rattle.board.specs.declared.game.Game.TheVariants.{LosAlamos, Gardner}
use Rattle.board.specs.Games.{width_of}
use Rattle.cells.specs.declared.tables.Way.{Way}
use Rattle.cells.specs.declared.tables.Way.TheVariants.{North, South, East, West, NorthEast, SouthWest, NorthWest, SouthEast}
use Rattle.cells.specs.declared.tables.TheConstants.{NORTH, SOUTH, EAST, WEST, NORTH_EAST, SOUTH_WEST, NORTH_WEST, SOUTH_EAST}
use Rattle.cells.specs.Mailbox.{IsCell}
use Rattle.cells.specs.CellSets.{Has}
use Rattle.cells.specs.Ways.{IsNext, IsOnRay, rises, set_in, board_number}
use Rattle.cells.specs.Ways.IsOnRay.{next, beyond}
use Rattle.cells.proofs.CellNumbers.{cell_cases, cell_small}

-- ---- a test of all numbers below one

unfoldable pub all_below : (ℕ → Bool) → ℕ → Bool
all_below p zero = true
all_below p (suc n) = p n && all_below p n

pub below-all : (p : ℕ → Bool) (n : ℕ) → all_below p n ≡ true → (i : ℕ) → i < n → p i ≡ true
unfolding all_below
below-all p zero e i h = absurd (omega (arith, h))
below-all p (suc n) e i h =
    let w = and_parts (p n) (all_below p n) e in
    elim (cases_eq i n) [
      | inl same ↦ subst (λ k. p k ≡ true) (sym same) w.0
      | inr other ↦ below-all p n w.1 i (omega (arith, h, other))
    ]

-- ---- cells

abbrev pub is_cell : Game → ℕ → Bool
is_cell g i = leb 17 i && (ltb ((i - 17) % 8) (width_of g) && ltb ((i - 17) / 8) (width_of g))

pub cell-is : (g : Game) (i : ℕ) → IsCell g i → is_cell g i ≡ true
cell-is g i c = and_from _ _ (le-leb _ _ c.above) (and_from _ _ (lt-ltb _ _ c.on_board.file) (lt-ltb _ _ c.on_board.rank))

pub is-cell : (g : Game) (i : ℕ) → is_cell g i ≡ true → IsCell g i
is-cell g i e =
    let w = and_parts (leb 17 i) _ e in
    let v = and_parts (ltb ((i - 17) % 8) (width_of g)) _ w.1 in
    record { above = leb-true _ _ w.0; on_board = record { file = ltb-true _ _ v.0; rank = ltb-true _ _ v.1 } }

pub no-cell : (g : Game) (i : ℕ) → (IsCell g i → ⊥) → is_cell g i ≡ false
no-cell g i none = off (is_cell g i) (λ e. none (is-cell g i e))
  where
    off : (r : Bool) → (r ≡ true → ⊥) → r ≡ false
    off true h = absurd (h refl)
    off false h = refl

-- ---- a set with one cell more

pub Has-more : (k set j : ℕ) → Has (bit_or (2 ^ k) set) j ↔ ((k ≡ j) ⊎ Has set j)
Has-more k set j = elim (cases_eq j k) [
  | inl same ↦ (
    λ _. inl (sym same),
    λ _. let e = bit_at_or (2 ^ k) set j in let p : bit_at (2 ^ k) j ≡ 1 = subst (λ n. bit_at (2 ^ k) n ≡ 1) (sym same) (bit_at-pow_same k) in let q = bit_at-lt set j in omega (arith, e, p, q),
  )
  | inr other ↦
      let e = bit_at_or (2 ^ k) set j in let p = bit_at-pow_other k j other in let q = bit_at-lt set j in (
        λ h. inr (omega (arith, e, p, q, h)),
        λ h. elim h [ inl same ↦ absurd (other (sym same)) | inr x ↦ omega (arith, e, p, q, x) ],
      )
]

pub Has-none : (j : ℕ) → Has 0 j → ⊥
Has-none j h = let z = bit_at-zero j in omega (arith, z, h)

-- ---- the next cell

abbrev pub next_of : Way → ℕ → ℕ
next_of North i = i + 8
next_of South i = i - 8
next_of East i = i + 1
next_of West i = i - 1
next_of NorthEast i = i + 9
next_of SouthWest i = i - 9
next_of NorthWest i = i + 7
next_of SouthEast i = i - 7

pub next-is : (way : Way) (i j : ℕ) → 17 ≤ i → IsNext way i j → next_of way i ≡ j
next-is North i j h e = omega (arith, ints, e)
next-is South i j h e = omega (arith, ints, e)
next-is East i j h e = omega (arith, ints, e)
next-is West i j h e = omega (arith, ints, e)
next-is NorthEast i j h e = omega (arith, ints, e)
next-is SouthWest i j h e = omega (arith, ints, e)
next-is NorthWest i j h e = omega (arith, ints, e)
next-is SouthEast i j h e = omega (arith, ints, e)

pub is-next : (way : Way) (i : ℕ) → 17 ≤ i → IsNext way i (next_of way i)
is-next North i h = omega (arith, ints)
is-next South i h = omega (arith, ints)
is-next East i h = omega (arith, ints)
is-next West i h = omega (arith, ints)
is-next NorthEast i h = omega (arith, ints)
is-next SouthWest i h = omega (arith, ints)
is-next NorthWest i h = omega (arith, ints)
is-next SouthEast i h = omega (arith, ints)

-- how far a cell is from the end of its way, at most
abbrev pub room : Way → ℕ → ℕ
room way i = cond (rises way) (64 - i) i

room-next : (way : Way) (i : ℕ) → 17 ≤ i → i < 63 → room way (next_of way i) < room way i
room-next North i h l = omega arith
room-next South i h l = omega arith
room-next East i h l = omega arith
room-next West i h l = omega arith
room-next NorthEast i h l = omega arith
room-next SouthWest i h l = omega arith
room-next NorthWest i h l = omega arith
room-next SouthEast i h l = omega arith

-- ---- a table: what stands at a cell is the next cell, and what stands there

abbrev pub ray_at : List (List ℕ) → Way → Game → ℕ → ℕ
ray_at table way g i = cond (is_cell g (next_of way i)) (bit_or (2 ^ next_of way i) (set_in table g (next_of way i))) 0

abbrev pub is_ray : List (List ℕ) → Way → Game → ℕ → Bool
is_ray table way g i = not (is_cell g i) || eqb (set_in table g i) (ray_at table way g i)

-- checked for each cell
abbrev pub table_of : Way → List (List ℕ)
table_of North = NORTH
table_of South = SOUTH
table_of East = EAST
table_of West = WEST
table_of NorthEast = NORTH_EAST
table_of SouthWest = SOUTH_WEST
table_of NorthWest = NORTH_WEST
table_of SouthEast = SOUTH_EAST

all_rays : (way : Way) (g : Game) → all_below (is_ray (table_of way) way g) 64 ≡ true
unfolding all_below
all_rays North LosAlamos = refl
all_rays North Gardner = refl
all_rays South LosAlamos = refl
all_rays South Gardner = refl
all_rays East LosAlamos = refl
all_rays East Gardner = refl
all_rays West LosAlamos = refl
all_rays West Gardner = refl
all_rays NorthEast LosAlamos = refl
all_rays NorthEast Gardner = refl
all_rays SouthWest LosAlamos = refl
all_rays SouthWest Gardner = refl
all_rays NorthWest LosAlamos = refl
all_rays NorthWest Gardner = refl
all_rays SouthEast LosAlamos = refl
all_rays SouthEast Gardner = refl

ray-at : (way : Way) (g : Game) (i : ℕ) → IsCell g i → set_in (table_of way) g i ≡ ray_at (table_of way) way g i
ray-at way g i c =
    let e = below-all (is_ray (table_of way) way g) 64 (all_rays way g) i (let s = cell_small g i c in omega arith) in
    eqb-true _ _ (tested (is_cell g i) _ (cell-is g i c) e)
  where
    tested : (p q : Bool) → p ≡ true → (not p || q) ≡ true → q ≡ true
    tested true q h e = e
    tested false q h e = absurd (false≢true h)

-- where the next cell is one of the board, and where it isn't
ray-on : (way : Way) (g : Game) (i : ℕ) → IsCell g i → IsCell g (next_of way i) → set_in (table_of way) g i ≡ bit_or (2 ^ next_of way i) (set_in (table_of way) g (next_of way i))
ray-on way g i c d = ray-at way g i c ∙ ap (λ r. cond r (bit_or (2 ^ next_of way i) (set_in (table_of way) g (next_of way i))) 0) (cell-is g (next_of way i) d)

ray-off : (way : Way) (g : Game) (i : ℕ) → IsCell g i → (IsCell g (next_of way i) → ⊥) → set_in (table_of way) g i ≡ 0
ray-off way g i c d = ray-at way g i c ∙ ap (λ r. cond r (bit_or (2 ^ next_of way i) (set_in (table_of way) g (next_of way i))) 0) (no-cell g (next_of way i) d)

-- ---- so it has all the cells that way

on-ray : (fuel : ℕ) (way : Way) (g : Game) (i j : ℕ) → room way i < fuel → IsCell g i → Has (set_in (table_of way) g i) j → IsOnRay g way i j
on-ray zero way g i j h c has = absurd (omega (arith, h))
on-ray (suc fuel) way g i j h c has = elim (cell_cases g (next_of way i)) [
  | inl d ↦
      let step = is-next way i c.above in
      elim ((Has-more (next_of way i) _ j).0 (subst (λ s. Has s j) (ray-on way g i c d) has)) [
        | inl same ↦ next (subst (IsNext way i) same step) (subst (IsCell g) same d)
        | inr more ↦
            let less = room-next way i c.above (cell_small g i c) in
            beyond step d (on-ray fuel way g (next_of way i) j (omega (arith, h, less)) d more)
      ]
  | inr off ↦ absurd (Has-none j (subst (λ s. Has s j) (ray-off way g i c off) has))
]

has-ray : (way : Way) (g : Game) (i j : ℕ) → IsCell g i → IsOnRay g way i j → Has (set_in (table_of way) g i) j
has-ray way g i j c (next a d) =
    let e = next-is way i j c.above a in
    subst (λ s. Has s j) (sym (ray-on way g i c (subst (IsCell g) (sym e) d))) ((Has-more (next_of way i) _ j).1 (inl e))
has-ray way g i j c (beyond {k = k} a d more) =
    let e = next-is way i k c.above a in
    subst (λ s. Has s j) (sym (ray-on way g i c (subst (IsCell g) (sym e) d))) ((Has-more (next_of way i) _ j).1 (inr (subst (λ x. Has (set_in (table_of way) g x) j) (sym e) (has-ray way g k j d more))))

pub IsOnRay-table : (way : Way) (g : Game) (i j : ℕ) → IsCell g i → Has (set_in (table_of way) g i) j ↔ IsOnRay g way i j
IsOnRay-table way g i j c = (on-ray (suc (room way i)) way g i j (omega arith) c, has-ray way g i j c)

-- as a table of one way is read
pub IsOnRay-entry : (way w : Way) → way ≡ w → (g : Game) (n i j : ℕ) → n ≡ board_number g → IsCell g i → Has (get_or (get_or (table_of w) n []) i 0) j ↔ IsOnRay g way i j
IsOnRay-entry way w e g n i j f c =
    subst (λ x. Has (get_or (get_or (table_of w) n []) i 0) j ↔ IsOnRay g x i j) (sym e)
    (subst (λ k. Has (get_or (get_or (table_of w) k []) i 0) j ↔ IsOnRay g w i j) (sym f) (IsOnRay-table w g i j c))

-- ---- the cells of a board

abbrev pub los_alamos_cells : ℕ
los_alamos_cells = 9114861777597628416

abbrev pub gardner_cells : ℕ
gardner_cells = 17519885609205760

is_in : ℕ → Game → ℕ → Bool
is_in set g i = eqb (bit_at set i) (cond (is_cell g i) 1 0)

all_in : all_below (is_in los_alamos_cells LosAlamos) 64 ≡ true
unfolding all_below is_in
all_in = refl

all_in_gardner : all_below (is_in gardner_cells Gardner) 64 ≡ true
unfolding all_below is_in
all_in_gardner = refl

in-cells : (set : ℕ) (g : Game) → set < 2 ^ 64 → all_below (is_in set g) 64 ≡ true → (i : ℕ) → Has set i ↔ IsCell g i
unfolding is_in
in-cells set g fits all i = elim (cases_lt i 64) [
  | inl low ↦ let e = eqb-true _ _ (below-all (is_in set g) 64 all i low) in elim (cell_cases g i) [
    | inl c ↦ (λ _. c, λ _. e ∙ ap (λ r. cond r 1 0) (cell-is g i c))
    | inr off ↦ let z : bit_at set i ≡ 0 = e ∙ ap (λ r. cond r 1 0) (no-cell g i off) in (λ h. absurd (omega (arith, z, h)), λ c. absurd (off c))
  ]
  | inr high ↦ let z = bit_at_above set 64 i fits high in (λ h. absurd (omega (arith, z, h)), λ c. let s = cell_small g i c in absurd (omega (arith, s, high)))
]

pub cells-los_alamos : (i : ℕ) → Has los_alamos_cells i ↔ IsCell LosAlamos i
cells-los_alamos = in-cells los_alamos_cells LosAlamos (omega arith) all_in

pub cells-gardner : (i : ℕ) → Has gardner_cells i ↔ IsCell Gardner i
cells-gardner = in-cells gardner_cells Gardner (omega arith) all_in_gardner
