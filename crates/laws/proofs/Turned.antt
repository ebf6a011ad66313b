-- A turned board turned back, and what stands on it.
use Rattle.std.proofs.Common.{get_or-set_other, get_or-set_same, ◌≡◌, ℕ, ◌<◌, ◌≤◌, ◌⊎◌, inl, inr, refl, sym, ap, subst, ◌∙◌, arith, Bool, true, false, length, Option, Some, None}
use Rattle.laws.proofs.Common.{set, length-set, Game, LosAlamos, Gardner, Pawn, Man, squares_of, PlainBoard, unit_on, Place, Ply, IsOnBoard, square_number, unit_at, placed, after, same_place, same_number, number_within, Turning, turned_place, turned_units, IsTurned, KeepsAhead, MayTurn}
use Rattle.laws.proofs.Squares.{back_over, back_of, turned_on_board, turned_back, turned_there, back_side}

-- ---- back

back_units : (t : Turning) (o : Option Man) → turned_units (back_of t) (turned_units t o) ≡ o
back_units t None = refl
back_units t (Some u) = ap (λ side. Some (record { side = side; kind = u.kind })) (back_side t u.side)

module _ (t : Turning) (b c : PlainBoard) (turned : IsTurned t b c) where
  -- a square of the board comes to one
  pub image_on_board : (s : Place) → IsOnBoard b.game s → IsOnBoard c.game (turned_place b.game t s)
  image_on_board s on = subst (λ g. IsOnBoard g (turned_place b.game t s)) (sym turned.game) (turned_on_board b.game t s on)

  stands_back : (s : Place) → IsOnBoard b.game s → unit_at b (turned_place b.game (back_of t) s) ≡ turned_units (back_of t) (unit_at c s)
  stands_back s on =
      let from = turned_place b.game (back_of t) s in
      let there : unit_at c s ≡ turned_units t (unit_at b from) = subst (λ p. unit_at c p ≡ turned_units t (unit_at b from)) (turned_there b.game t s on) (turned.units from (turned_on_board b.game (back_of t) s on)) in
      sym (ap (turned_units (back_of t)) there ∙ back_units t (unit_at b from))

  pub IsTurned-back : IsTurned (back_of t) c b
  IsTurned-back = record {
    game = sym turned.game;
    mover = let back = back_side t b.mover in cc;
    places = turned.turned_places;
    turned_places = turned.places;
    units = subst (λ g. (s : Place) → IsOnBoard g s → unit_at b (turned_place g (back_of t) s) ≡ turned_units (back_of t) (unit_at c s)) (sym turned.game) stands_back;
    past = λ n far. let there = turned.past n (subst (λ g. squares_of g ≤ n) turned.game far) in let back = back_units t (unit_on b n) in cc;
  }

  -- squares that are two come to two
  pub image_apart : (x y : Place) → IsOnBoard b.game x → IsOnBoard b.game y → (x ≡ y → ⊥) → turned_place b.game t x ≡ turned_place b.game t y → ⊥
  image_apart x y on_x on_y apart e = apart (sym (turned_back b.game t x on_x) ∙ ap (turned_place b.game (back_of t)) e ∙ turned_back b.game t y on_y)

-- ---- pawns

back_keeps : (l r d x : Bool) → KeepsAhead (record { left_right = l; top_bottom = r; diagonal = d; sides = x }) → KeepsAhead (back_over l r d x)
back_keeps l r false x keeps = record { straight = refl; ahead = keeps.ahead }
back_keeps l r true x keeps = let straight = keeps.straight in cc

pub MayTurn-back : (t : Turning) (b c : PlainBoard) → IsTurned t b c → MayTurn t b → MayTurn (back_of t) c
MayTurn-back t b c turned (inl keeps) = inl (back_keeps t.left_right t.top_bottom t.diagonal t.sides keeps)
MayTurn-back t b c turned (inr none) = inr (λ s u on stands. none _ _
    (image_on_board (back_of t) c b (IsTurned-back t b c turned) s on)
    ((IsTurned-back t b c turned).units s on ∙ ap (turned_units (back_of t)) stands))

-- where a pawn stands, the turning keeps what is ahead
pub pawn_keeps : (t : Turning) (b : PlainBoard) → MayTurn t b → (s : Place) (u : Man) → IsOnBoard b.game s → unit_at b s ≡ Some u → u.kind ≡ Pawn → KeepsAhead t
pawn_keeps t b (inl keeps) s u on stands pawn = keeps
pawn_keeps t b (inr none) s u on stands pawn = absurd (none s u on stands pawn)

-- ---- what stands on a square after a move

-- on the to-square, on the from-square, and elsewhere
abbrev StandsAfter : PlainBoard → Ply → Man → Place → Type 0
StandsAfter b m u x = ((x ≡ m.to) × (unit_at (after b m u) x ≡ Some (placed u m)))
    ⊎ ((x ≡ m.to → ⊥) × (x ≡ m.from) × (unit_at (after b m u) x ≡ None))
    ⊎ ((x ≡ m.to → ⊥) × (x ≡ m.from → ⊥) × (unit_at (after b m u) x ≡ unit_at b x))

number_or_not : (j k : ℕ) → (j ≡ k) ⊎ (j ≡ k → ⊥)
number_or_not j k = grind arith

same_or_not : (x y : Place) → (x ≡ y) ⊎ (x ≡ y → ⊥)
same_or_not x y = elim (number_or_not x.file y.file) [
  | inl e ↦ elim (number_or_not x.rank y.rank) [ inl f ↦ inl (same_place x y e f) | inr other ↦ inr (λ p. other (ap (λ (z : Place). z.rank) p)) ]
  | inr other ↦ inr (λ p. other (ap (λ (z : Place). z.file) p))
]

pub within_36 : (g : Game) (n : ℕ) → n < squares_of g → n < 36
within_36 LosAlamos n h = h
within_36 Gardner n h = omega arith

module _ (b : PlainBoard) (m : Ply) (u : Man) (places : length b.units ≡ 36) (on_from : IsOnBoard b.game m.from) (on_to : IsOnBoard b.game m.to) where
  within : (s : Place) → IsOnBoard b.game s → square_number b.game s < length b.units
  within s on = rw places (within_36 b.game _ (number_within b.game s on))

  pub stands_to : unit_at (after b m u) m.to ≡ Some (placed u m)
  stands_to =
      let at_to : square_number b.game m.to < length (set b.units (square_number b.game m.from) None) = rw (length-set {A = Option Man}) (within m.to on_to) in
      rw get_or-set_same

  pub stands_from : (m.from ≡ m.to → ⊥) → unit_at (after b m u) m.from ≡ None
  stands_from apart =
      let at_from = within m.from on_from in
      let two : square_number b.game m.from ≡ square_number b.game m.to → ⊥ = λ e. apart (same_number b.game m.from m.to on_from on_to e) in
      rw get_or-set_other (rw get_or-set_same)

  pub stands_else : (x : Place) → IsOnBoard b.game x → (x ≡ m.to → ⊥) → (x ≡ m.from → ⊥) → unit_at (after b m u) x ≡ unit_at b x
  stands_else x on not_to not_from =
      let other : square_number b.game x ≡ square_number b.game m.to → ⊥ = λ e. not_to (same_number b.game x m.to on on_to e) in
      let another : square_number b.game x ≡ square_number b.game m.from → ⊥ = λ e. not_from (same_number b.game x m.from on on_from e) in
      rw get_or-set_other (rw get_or-set_other)

  -- past the squares nothing changes
  pub stands_past : (n : ℕ) → squares_of b.game ≤ n → unit_on (after b m u) n ≡ unit_on b n
  stands_past n far =
      let other : n ≡ square_number b.game m.to → ⊥ = let lt = number_within b.game m.to on_to in λ e. omega arith in
      let another : n ≡ square_number b.game m.from → ⊥ = let lt = number_within b.game m.from on_from in λ e. omega arith in
      rw get_or-set_other (rw get_or-set_other)

  pub stands_after : (x : Place) → IsOnBoard b.game x → StandsAfter b m u x
  stands_after x on = elim (same_or_not x m.to) [
    | inl same ↦ inl (same, ap (unit_at (after b m u)) same ∙ stands_to)
    | inr not_to ↦ elim (same_or_not x m.from) [
      | inl same ↦ inr (inl (not_to, same, ap (unit_at (after b m u)) same ∙ stands_from (λ e. not_to (same ∙ e))))
      | inr not_from ↦ inr (inr (not_to, not_from, stands_else x on not_to not_from))
    ]
  ]
