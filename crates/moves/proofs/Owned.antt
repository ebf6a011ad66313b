-- The units of a side and a class, as the two sets that have them.
use Rattle.moves.proofs.Common.{refl, ◌≡◌, ℕ, ◌↔◌, Option, Some, None, sym, ap, subst, ◌∙◌, bit_and, Side, Kind, King, PlainBoard, is_of_side, unit_at, place_in, IsCell, Has, Has-and, Class, Crowned, Holds, Owns, StandsAs, StandsFor, class_of, Man, IsSomeKing, via}
use Rattle.moves.proofs.Kings.{king_of}
use Rattle.moves.proofs.Guarding.{is_own, own_unit_side}

-- the crowned are the kings
pub crowned : (b : PlainBoard) (i : ℕ) → (IsCell b.game i × StandsAs b Crowned (place_in i)) ↔ (IsCell b.game i × IsSomeKing (unit_at b (place_in i)))
crowned b i = (λ (cell, at). (cell, subst IsSomeKing (sym at.stands) at.is), λ (cell, king). (cell, some (unit_at b (place_in i)) refl king))
  where
    some : (o : Option Man) → unit_at b (place_in i) ≡ o → IsSomeKing o → StandsAs b Crowned (place_in i)
    some None e h = absurd h
    some (Some v) e h = record { unit = v; stands = e; is = h }

pub units-are : (b : PlainBoard) (side : Side) (class : Class) (own set : ℕ) → Owns b side own → Holds b class set → (i : ℕ) → Has (bit_and own set) i ↔ (IsCell b.game i × StandsFor b side class (place_in i))
units-are b side class own set owns holds i = (
  λ h.
      let (o, s) = (Has-and own set i).0 h in
      let (cell, at) = (holds i).0 s in
      (cell, record { unit = at.unit; stands = at.stands; owner = own_unit_side side at.unit (sym (ap (is_of_side side) at.stands) ∙ ((owns i).0 o).1); is = at.is }),
  λ (cell, w). (Has-and own set i).1 ((owns i).1 (cell, ap (is_of_side side) w.stands ∙ is_own side w.unit w.owner), (holds i).1 (cell, record { unit = w.unit; stands = w.stands; is = w.is })),
)

-- those that go as the kind does
pub going-are : (b : PlainBoard) (side : Side) (kind : Kind) (class : Class) (own set : ℕ) → class ≡ class_of kind → Owns b side own → Holds b class set → (i : ℕ) → Has (bit_and own set) i ↔ (IsCell b.game i × StandsFor b side (class_of kind) (place_in i))
going-are b side kind class own set e owns holds = units-are b side (class_of kind) own set owns (subst (λ (k : Class). Holds b k set) e holds)

pub kings-are : (b : PlainBoard) (side : Side) (own kings : ℕ) → Owns b side own → Holds b Crowned kings → (i : ℕ) → Has (bit_and own kings) i ↔ (IsCell b.game i × (unit_at b (place_in i) ≡ king_of side))
kings-are b side own kings owns holds i = via (units-are b side Crowned own kings owns holds i) (
  λ (cell, w). (cell, w.stands ∙ λ n. Some (record { side = w.owner n; kind = w.is n })),
  λ (cell, e). (cell, record { unit = record { side = side; kind = King }; stands = e; owner = refl; is = refl }),
)
