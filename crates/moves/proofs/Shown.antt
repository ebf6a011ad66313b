-- What the sets of a board show, and what a move does to them.
use Rattle.moves.proofs.Common.{◌≡◌, ℕ, ◌^◌, ◌<◌, ◌+◌, ◌*◌, ◌%◌, w64, IsTrue, refl, sym, ap, subst, ◌∙◌, arith, ◌↔◌, ◌⊎◌, inl, inr, Bool, true, Option, Some, None, bit_not, bit_and, bit_or, cases_eq, false≢true, same_Some, Side, Man, squares_of, PlainBoard, unit_on, is_of_side, IsPosition, Class, Sets, Place, Ply, IsOnBoard, square_number, unit_at, IsPseudoLegal, placed, after, cell_of, place_in, IsCell, Has, IsOf, StandsAs, Holds, Shows, HasMoved, HasAdded, set_of, AreMoved, IsCell-cell_of, place_in-cell_of, cell_of-place_in, to_on_board, same_number, number_within, Has-or, Has-zero, Has-clear, Has-minus, and_fits}
use Rattle.board.specs.declared.game.Side.TheVariants as side
use Rattle.moves.specs.declared.sets.Class.TheVariants.{White, Black}
use Rattle.cells.proofs.Reached.{same_cell}
use Rattle.moves.proofs.Guarding.{own_unit_side, is_own}
use Rattle.moves.proofs.Pins.{no_unit}
use Rattle.moves.proofs.Laying.{unit_at-to, unit_at-from, unit_at-other}

-- ---- units of a side

side_is : (s : Side) → (s ≡ side.White) ⊎ (s ≡ side.Black)
side_is side.White = inl refl
side_is side.Black = inr refl

taken_by : (o : Option Man) → (o ≡ None → ⊥) → (u : Man) × (o ≡ Some u)
taken_by None h = absurd (h refl)
taken_by (Some u) h = (u, refl)

of_side : (s : Side) (o : Option Man) → is_of_side s o ≡ true → (u : Man) × (o ≡ Some u) × (u.side ≡ s)
of_side s None e = absurd (false≢true e)
of_side s (Some u) e = (u, refl, own_unit_side s u e)

module _ (b : PlainBoard) (s : Sets) (shows : Shows b s) where
  pub taken-shown : (i : ℕ) → Has (bit_or s.white s.black) i ↔ (IsCell b.game i × (unit_at b (place_in i) ≡ None → ⊥))
  taken-shown i = (
    λ h. elim ((Has-or s.white s.black i).0 h) [
      | inl w ↦ let (c, at) = (shows White i).0 w in (c, λ none. no_unit (sym none ∙ at.stands))
      | inr w ↦ let (c, at) = (shows Black i).0 w in (c, λ none. no_unit (sym none ∙ at.stands))
    ],
    λ (c, some).
        let (u, e) = taken_by (unit_at b (place_in i)) some in
        (Has-or s.white s.black i).1 (elim (side_is u.side) [
          | inl white ↦ inl ((shows White i).1 (c, record { unit = u; stands = e; is = white }))
          | inr black ↦ inr ((shows Black i).1 (c, record { unit = u; stands = e; is = black }))
        ]),
  )

pub side-shown : (b : PlainBoard) (class : Class) (s : Side) (set : ℕ) → ((u : Man) → IsOf class u ↔ (u.side ≡ s)) → Holds b class set → (i : ℕ) → Has set i ↔ (IsCell b.game i × (is_of_side s (unit_at b (place_in i)) ≡ true))
side-shown b class s set is holds i = (
  λ h. let (c, at) = (holds i).0 h in (c, ap (is_of_side s) at.stands ∙ is_own s at.unit ((is at.unit).0 at.is)),
  λ (c, e). let (u, stands, own) = of_side s (unit_at b (place_in i)) e in (holds i).1 (c, record { unit = u; stands = stands; is = (is u).1 own }),
)

-- ---- a move

module _ (b : PlainBoard) (m : Ply) (u : Man) (is : IsPosition b) (p : IsPseudoLegal b m u) where
  to : IsOnBoard b.game m.to
  to = to_on_board b m u p

  -- the set of a class after the move has what stands there then
  pub Holds-after : (class : Class) (set more : ℕ) → Holds b class set → ((i : ℕ) → Has more i ↔ HasMoved set class (cell_of m.from) (cell_of m.to) (placed u m) i) → Holds (after b m u) class more
  Holds-after class set more holds moved i = (
    λ h. elim ((moved i).0 h) [
      | inl (has, far, apart) ↦
          let (c, at) = (holds i).0 has in
          (c, record { unit = at.unit; stands = unit_at-other b m u is p (place_in i) c.on_board (not_from c far) (not_to c apart) ∙ at.stands; is = at.is })
      | inr (same, of) ↦ (subst (IsCell b.game) (sym same) (IsCell-cell_of b.game m.to to), record { unit = placed u m; stands = ap (unit_at (after b m u)) (ap place_in same ∙ place_in-cell_of b.game m.to to) ∙ unit_at-to b m u is p; is = of })
    ],
    λ (c, at). elim (cases_eq i (cell_of m.to)) [
      | inl same ↦
          let there : placed u m ≡ at.unit = same_Some (placed u m) at.unit (sym (unit_at-to b m u is p) ∙ ap (unit_at (after b m u)) (sym (ap place_in same ∙ place_in-cell_of b.game m.to to)) ∙ at.stands) in
          (moved i).1 (inr (same, subst (IsOf class) (sym there) at.is))
      | inr apart ↦ elim (cases_eq i (cell_of m.from)) [
        | inl same ↦ absurd (no_unit (sym (unit_at-from b m u is p) ∙ ap (unit_at (after b m u)) (sym (ap place_in same ∙ place_in-cell_of b.game m.from p.on_board)) ∙ at.stands))
        | inr far ↦ (moved i).1 (inl ((holds i).1 (c, record { unit = at.unit; stands = sym (unit_at-other b m u is p (place_in i) c.on_board (not_from c far) (not_to c apart)) ∙ at.stands; is = at.is }), far, apart))
      ]
    ],
  )
    where
      not_from : IsCell b.game i → (i ≡ cell_of m.from → ⊥) → place_in i ≡ m.from → ⊥
      not_from c far e = far (same_cell b.game i (cell_of m.from) c (IsCell-cell_of b.game m.from p.on_board) (e ∙ sym (place_in-cell_of b.game m.from p.on_board)))

      not_to : IsCell b.game i → (i ≡ cell_of m.to → ⊥) → place_in i ≡ m.to → ⊥
      not_to c far e = far (same_cell b.game i (cell_of m.to) c (IsCell-cell_of b.game m.to to) (e ∙ sym (place_in-cell_of b.game m.to to)))

  pub Shows-after : (s t : Sets) → Shows b s → AreMoved s t (cell_of m.from) (cell_of m.to) (placed u m) → Shows (after b m u) t
  Shows-after s t h a = λ class. Holds-after class (set_of s class) (set_of t class) (h class) (a class)

-- ---- a position's units, square by square

-- the set has the cells of the class's units on the squares numbered below n
abbrev pub HeldBelow : PlainBoard → Class → ℕ → ℕ → Type 0
HeldBelow b class set n = (i : ℕ) → Has set i ↔ ((IsCell b.game i × StandsAs b class (place_in i)) × (square_number b.game (place_in i) < n))

pub HeldBelow-start : (b : PlainBoard) (class : Class) (set : ℕ) → set ≡ 0 → HeldBelow b class set 0
HeldBelow-start b class set e i = (λ h. absurd (Has-zero i (subst (λ n. Has n i) e h)), λ w. let l = w.1 in absurd (omega (arith, l)))

pub HeldBelow-none : (b : PlainBoard) (class : Class) (set n : ℕ) → unit_on b n ≡ None → HeldBelow b class set n → HeldBelow b class set (n + 1)
HeldBelow-none b class set n none held i = (
  λ h. let w = (held i).0 h in let l = w.1 in (w.0, omega (arith, l)),
  λ w. elim (cases_eq (square_number b.game (place_in i)) n) [
    | inl same ↦ absurd (no_unit (sym none ∙ ap (unit_on b) (sym same) ∙ w.0.1.stands))
    | inr other ↦ let l = w.1 in (held i).1 (w.0, omega (arith, l, other))
  ],
)

pub HeldBelow-unit : (b : PlainBoard) (class : Class) (set more n : ℕ) (s : Place) (u : Man) → IsOnBoard b.game s → square_number b.game s ≡ n → unit_on b n ≡ Some u
    → ((i : ℕ) → Has more i ↔ HasAdded set class (cell_of s) u i) → HeldBelow b class set n → HeldBelow b class more (n + 1)
HeldBelow-unit b class set more n s u on number stands added held i = (
  λ h. elim ((added i).0 h) [
    | inl x ↦ let w = (held i).0 x in let l = w.1 in (w.0, omega (arith, l))
    | inr (told, same) ↦
        let place : place_in i ≡ s = ap place_in (sym same) ∙ place_in-cell_of b.game s on in
        let at : square_number b.game (place_in i) ≡ n = ap (square_number b.game) place ∙ number in (
          (subst (IsCell b.game) same (IsCell-cell_of b.game s on), record { unit = u; stands = ap (unit_on b) at ∙ stands; is = told }),
          omega (arith, at),
        )
  ],
  λ w. elim (cases_eq (square_number b.game (place_in i)) n) [
    | inl same ↦
        let place : place_in i ≡ s = same_number b.game (place_in i) s w.0.0.on_board on (same ∙ sym number) in
        let there : u ≡ w.0.1.unit = same_Some u w.0.1.unit (sym stands ∙ ap (unit_on b) (sym same) ∙ w.0.1.stands) in
        (added i).1 (inr (subst (IsOf class) (sym there) w.0.1.is, ap cell_of (sym place) ∙ cell_of-place_in b.game i w.0.0))
    | inr other ↦ let l = w.1 in (added i).1 (inl ((held i).1 (w.0, omega (arith, l, other))))
  ],
)

pub HeldBelow-all : (b : PlainBoard) (class : Class) (set n : ℕ) → n ≡ squares_of b.game → HeldBelow b class set n → Holds b class set
HeldBelow-all b class set n all held i = (
  λ h. ((held i).0 h).0,
  λ w. (held i).1 (w, subst (λ k. square_number b.game (place_in i) < k) (sym all) (number_within b.game (place_in i) w.0.on_board)),
)

-- each set has the cells of its class on the squares numbered below n
abbrev pub ShownBelow : PlainBoard → Sets → ℕ → Type 0
ShownBelow b s n = (class : Class) → HeldBelow b class (set_of s class) n

-- ---- a class after a move

pub HasMoved-cells : (set from to : ℕ) (class : Class) (u : Man) (r : Bool) (more : ℕ) → set < 2 ^ 64 → from < 63 → to < 63 → (IsTrue r ↔ IsOf class u)
    → ((i : ℕ) → Has more i ↔ (Has (bit_and (bit_and set (bit_not w64 (1 * 2 ^ from % 2 ^ 64))) (bit_not w64 (1 * 2 ^ to % 2 ^ 64))) i ⊎ (IsTrue r × (to ≡ i)))) → (i : ℕ) → Has more i ↔ HasMoved set class from to u i
HasMoved-cells set from to class u r more fits f t is added i =
    let first = Has-clear set from i fits (omega (arith, f)) in
    let second = Has-clear (bit_and set (bit_not w64 (1 * 2 ^ from % 2 ^ 64))) to i (and_fits set _ fits) (omega (arith, t)) in (
      λ h. elim ((added i).0 h) [
        | inl x ↦ let w = second.0 x in let v = first.0 w.0 in inl (v.0, v.1, w.1)
        | inr y ↦ inr (sym y.1, is.0 y.0)
      ],
      λ h. (added i).1 (elim h [
        | inl x ↦ inl (second.1 (first.1 (x.0, x.1), x.2))
        | inr y ↦ inr (is.1 y.1, sym y.0)
      ]),
    )

-- ---- empty cells

pub none_from : (o : Option Man) → ((o ≡ None → ⊥) → ⊥) → o ≡ None
none_from None h = refl
none_from (Some u) h = absurd (h (λ e. no_unit (sym e)))

pub empty-shown : (b : PlainBoard) (all taken : ℕ) → all < 2 ^ 64 → taken < 2 ^ 64 → ((i : ℕ) → Has all i ↔ IsCell b.game i) → ((i : ℕ) → Has taken i ↔ (IsCell b.game i × (unit_at b (place_in i) ≡ None → ⊥)))
    → (i : ℕ) → Has (bit_and all (bit_not w64 taken)) i ↔ (IsCell b.game i × (unit_at b (place_in i) ≡ None))
empty-shown b all taken fa ft cells units i =
    let w = Has-minus all taken i fa ft in (
      λ h. let (a, none) = w.0 h in let c = (cells i).0 a in (c, none_from _ (λ some. none ((units i).1 (c, some)))),
      λ (c, e). w.1 ((cells i).1 c, λ t. ((units i).0 t).1 e),
    )
