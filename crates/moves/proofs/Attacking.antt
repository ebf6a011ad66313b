-- The units that attack a cell, by the sets.
use Rattle.moves.proofs.Common.{◌≡◌, ℕ, ◌<◌, ◌^◌, arith, refl, sym, subst, ◌↔◌, ◌⊎◌, inl, inr, bit_or, cases_eq, Side, Kind, King, Queen, Rook, Bishop, Knight, Pawn, Man, Step, terms_of, Denotes, other_side, PlainBoard, IsPosition, unit_at, Place, IsOnBoard, AttacksFrom, IsAttacked, IsInCheck, Leads, cell_of, place_in, IsCell, Aims, AreAttacked, TakesAs, IsSwept, class_of, Has, IsOf, IsCell-cell_of, place_in-cell_of, Has-or, four-are, Has-zero, lowest-has}
use Rattle.moves.proofs.Kings.{king_of, check_at}
use Rattle.moves.proofs.Looking.{attacks_on, captures_from, other_twice, Aims-back}
use Rattle.moves.proofs.Seeing.{queen_step}

-- a unit that goes as the kind does has the kind's steps
takes_as : (q : Kind) → (q ≡ Queen → ⊥) → (u : Man) → IsOf (class_of q) u → (step : Step) → Denotes (terms_of q) step → Denotes (terms_of u.kind) step
takes_as King other u e step d = subst (λ k. Denotes (terms_of k) step) (sym e) d
takes_as Queen other u e step d = absurd (other refl)
takes_as Rook other u (inl e) step d = subst (λ k. Denotes (terms_of k) step) (sym e) ((queen_step step).1 (inl d))
takes_as Rook other u (inr e) step d = subst (λ k. Denotes (terms_of k) step) (sym e) d
takes_as Bishop other u (inl e) step d = subst (λ k. Denotes (terms_of k) step) (sym e) ((queen_step step).1 (inr d))
takes_as Bishop other u (inr e) step d = subst (λ k. Denotes (terms_of k) step) (sym e) d
takes_as Knight other u e step d = subst (λ k. Denotes (terms_of k) step) (sym e) d
takes_as Pawn other u e step d = subst (λ k. Denotes (terms_of k) step) (sym e) d

-- for one of the kinds that units are sought as
abbrev pub SomeKind : (Kind → Type 0) → Type 0
SomeKind P = (q : Kind) × (q ≡ Queen → ⊥) × P q

-- five sets joined, one for each of them
pub five-are : (P : Kind → ℕ → Type 0) (r s n k p : ℕ) → ((i : ℕ) → Has r i ↔ P Rook i) → ((i : ℕ) → Has s i ↔ P Bishop i) → ((i : ℕ) → Has n i ↔ P Knight i) → ((i : ℕ) → Has k i ↔ P King i) → ((i : ℕ) → Has p i ↔ P Pawn i)
    → (i : ℕ) → Has (bit_or (bit_or (bit_or (bit_or r s) n) k) p) i ↔ SomeKind (λ q. P q i)
five-are P r s n k p er es en ek ep i = (
  λ h. elim ((Has-or (bit_or (bit_or (bit_or r s) n) k) p i).0 h) [
    | inr x ↦ (Pawn, (λ e. cc), (ep i).0 x)
    | inl w ↦ elim ((four-are (P Rook) (P Bishop) (P Knight) (P King) r s n k er es en ek i).0 w) [
      | inl x ↦ (Rook, (λ e. cc), x)
      | inr (inl x) ↦ (Bishop, (λ e. cc), x)
      | inr (inr (inl x)) ↦ (Knight, (λ e. cc), x)
      | inr (inr (inr x)) ↦ (King, (λ e. cc), x)
    ]
  ],
  λ w. (Has-or (bit_or (bit_or (bit_or r s) n) k) p i).1 (joined w.0 w.1 w.2),
)
  where
    joined : (q : Kind) → (q ≡ Queen → ⊥) → P q i → Has (bit_or (bit_or (bit_or r s) n) k) i ⊎ Has p i
    joined King other x = inl ((four-are (P Rook) (P Bishop) (P Knight) (P King) r s n k er es en ek i).1 (inr (inr (inr x))))
    joined Queen other x = absurd (other refl)
    joined Rook other x = inl ((four-are (P Rook) (P Bishop) (P Knight) (P King) r s n k er es en ek i).1 (inl x))
    joined Bishop other x = inl ((four-are (P Rook) (P Bishop) (P Knight) (P King) r s n k er es en ek i).1 (inr (inl x)))
    joined Knight other x = inl ((four-are (P Rook) (P Bishop) (P Knight) (P King) r s n k er es en ek i).1 (inr (inr (inl x))))
    joined Pawn other x = inr ((ep i).1 x)

module _ (b : PlainBoard) (is : IsPosition b) (side : Side) (s k : Place) where
  pub attacks_as : (q : Kind) → (q ≡ Queen → ⊥) → IsOnBoard b.game s → TakesAs b side q s k → AttacksFrom b side s k
  attacks_as q other on t = attacks_on b is side s k t.0.unit on t.0.stands t.0.owner (record {
    step = t.1.step;
    denoted = takes_as q other t.0.unit t.0.is t.1.step t.1.denoted;
    captures = t.1.captures;
    leads = subst (λ x. Leads b x t.1.step s k) (sym t.0.owner) t.1.leads;
  })

  module _ (a : AttacksFrom b side s k) where
    taken_as : (q : Kind) → IsOf (class_of q) a.unit → Denotes (terms_of q) a.reaches.step → TakesAs b side q s k
    taken_as q of d = (
      record { unit = a.unit; stands = a.stands; owner = a.owner; is = of },
      record { step = a.reaches.step; denoted = d; captures = captures_from a.reaches.step.mode a.unit.side _ a.reaches.reaches.allows; leads = subst (λ x. Leads b x a.reaches.step s k) a.owner a.reaches.reaches.leads },
    )

    of_kind : (q : Kind) → a.unit.kind ≡ q → Denotes (terms_of q) a.reaches.step → SomeKind (λ q. TakesAs b side q s k)
    of_kind King e d = (King, (λ e. cc), taken_as King e d)
    of_kind Queen e d = elim ((queen_step a.reaches.step).0 d) [ inl x ↦ (Rook, (λ e. cc), taken_as Rook (inl e) x) | inr x ↦ (Bishop, (λ e. cc), taken_as Bishop (inl e) x) ]
    of_kind Rook e d = (Rook, (λ e. cc), taken_as Rook (inr e) d)
    of_kind Bishop e d = (Bishop, (λ e. cc), taken_as Bishop (inr e) d)
    of_kind Knight e d = (Knight, (λ e. cc), taken_as Knight e d)
    of_kind Pawn e d = (Pawn, (λ e. cc), taken_as Pawn e d)

    pub some_kind : SomeKind (λ q. TakesAs b side q s k)
    some_kind = of_kind a.unit.kind refl a.reaches.denoted

-- an attack from a square is one from its cell
pub from_cell : (b : PlainBoard) (side : Side) (s k : Place) → AttacksFrom b side s k → IsCell b.game (cell_of s) × AttacksFrom b side (place_in (cell_of s)) k
from_cell b side s k a = (IsCell-cell_of b.game s a.on_board, subst (λ x. AttacksFrom b side x k) (sym (place_in-cell_of b.game s a.on_board)) a)

module _ (b : PlainBoard) (is : IsPosition b) (side : Side) (k : Place) where
  -- units that take as the kind attack
  pub some_attack : (q : Kind) → (q ≡ Queen → ⊥) → (set : ℕ) → set < 2 ^ 64 → ((i : ℕ) → Has set i ↔ (IsCell b.game i × TakesAs b side q (place_in i) k)) → (set ≡ 0 → ⊥) → IsAttacked b k side
  some_attack q other set fits are some =
      let (i, h) = lowest-has set fits some in
      let (cell, t) = (are i).0 h in
      (place_in i, attacks_as b is side (place_in i) k q other cell.on_board t)

  pub none-attacks : (set : ℕ) → ((i : ℕ) → Has set i ↔ (IsCell b.game i × AttacksFrom b side (place_in i) k)) → set ≡ 0 → IsAttacked b k side → ⊥
  none-attacks set are zero (s, a) = Has-zero (cell_of s) (subst (λ n. Has n (cell_of s)) zero ((are (cell_of s)).1 (from_cell b side s k a)))

  -- what is attacked has an attacker
  pub some_checkers : (set : ℕ) → ((i : ℕ) → Has set i ↔ (IsCell b.game i × AttacksFrom b side (place_in i) k)) → IsAttacked b k side → 0 < set
  some_checkers set are attacked = elim (cases_eq set 0) [
    | inl none ↦ absurd (none-attacks set are none attacked)
    | inr some ↦ omega (arith, some)
  ]

  -- the attackers, kind by kind
  pub attackers-are : (i : ℕ) → SomeKind (λ q. IsCell b.game i × TakesAs b side q (place_in i) k) ↔ (IsCell b.game i × AttacksFrom b side (place_in i) k)
  attackers-are i = (
    λ (q, other, (cell, t)). (cell, attacks_as b is side (place_in i) k q other cell.on_board t),
    λ (cell, a). let w = some_kind b is side (place_in i) k a in (w.0, w.1, (cell, w.2)),
  )

-- what the other side takes, its foe would take from there
pub aims-turned : (b : PlainBoard) (side : Side) (kind : Kind) (s k : Place) → IsOnBoard b.game s → IsOnBoard b.game k → Aims b (record { side = other_side side; kind = kind }) s k ↔ Aims b (record { side = side; kind = kind }) k s
aims-turned b side kind s k on on' = (λ a. subst (λ x. Aims b (record { side = x; kind = kind }) k s) (other_twice side) (Aims-back b (other_side side) kind s k on a), λ a. Aims-back b side kind k s on' a)

pub attacked-are : (b : PlainBoard) (is : IsPosition b) (side : Side) (j : ℕ) → SomeKind (λ q. IsSwept b side q j) ↔ (IsCell b.game j × IsAttacked b (place_in j) side)
attacked-are b is side j = (
  λ (q, other, w). (w.to, (place_in w.from, attacks_as b is side (place_in w.from) (place_in j) q other w.cell.on_board w.takes)),
  λ (to, (s, a)).
      let (cell, here) = from_cell b side s (place_in j) a in
      let w = some_kind b is side (place_in (cell_of s)) (place_in j) here in
      (w.0, w.1, record { from = cell_of s; cell = cell; to = to; takes = w.2 }),
)

-- a king whose cell isn't attacked is out of check
pub unattacked : (b : PlainBoard) (is : IsPosition b) (k set : ℕ) → IsCell b.game k → unit_at b (place_in k) ≡ king_of b.mover → AreAttacked b (other_side b.mover) set → (Has set k → ⊥) → IsInCheck b b.mover → ⊥
unattacked b is k set cell king are none check = none ((are k).1 (cell, check_at b is b.mover (place_in k) cell.on_board king check))
