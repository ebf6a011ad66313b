-- What is pinned is seen from the king along a way.
use Rattle.moves.proofs.Common.{◌≡◌, ℕ, refl, sym, ap, subst, ◌∙◌, arith, ◌↔◌, inl, inr, Some, None, Contains, bit_and, Side, other_side, PlainBoard, is_of_side, Way, North, South, East, West, NorthEast, SouthWest, NorthWest, SouthEast, WAYS, unit_at, Leads, cell_of, place_in, IsCell, IsPinned, Has, IsOnRay, Rides, rises, IsCell-cell_of, place_in-cell_of, Has-and, Place, Man, HasRider, Owns, IsAtomLeap, Wazir, Ferz, files_of, ranks_of}
use Rattle.moves.proofs.Looking.{both_back}
use Rattle.moves.proofs.Guarding.{is_own}
use Rattle.moves.proofs.Riding.{sooner-cases, ray-beyond, rides-ray, Rides-clear, Rides-leads}
use Rattle.moves.specs.declared.pinned.TheConstants.{STRAIGHT_WAYS, SLANTED_WAYS}
use Rattle.moves.proofs.Seeing.{GoesAs, rider_way}

-- all ways are in the list of them
pub ways-all : (way : Way) → Contains WAYS way
ways-all North = (0, omega arith, refl)
ways-all South = (1, omega arith, refl)
ways-all East = (2, omega arith, refl)
ways-all West = (3, omega arith, refl)
ways-all NorthEast = (4, omega arith, refl)
ways-all SouthWest = (5, omega arith, refl)
ways-all NorthWest = (6, omega arith, refl)
ways-all SouthEast = (7, omega arith, refl)

-- the ways along ranks and files, and those along diagonals
pub straight-all : (way : Way) → IsAtomLeap Wazir (files_of way) (ranks_of way) → Contains STRAIGHT_WAYS way
straight-all North leap = (0, omega arith, refl)
straight-all South leap = (1, omega arith, refl)
straight-all East leap = (2, omega arith, refl)
straight-all West leap = (3, omega arith, refl)
straight-all NorthEast leap = absurd (omega (arith, leap))
straight-all SouthWest leap = absurd (omega (arith, leap))
straight-all NorthWest leap = absurd (omega (arith, leap))
straight-all SouthEast leap = absurd (omega (arith, leap))

pub slanted-all : (way : Way) → IsAtomLeap Ferz (files_of way) (ranks_of way) → Contains SLANTED_WAYS way
slanted-all North leap = absurd (omega (arith, leap))
slanted-all South leap = absurd (omega (arith, leap))
slanted-all East leap = absurd (omega (arith, leap))
slanted-all West leap = absurd (omega (arith, leap))
slanted-all NorthEast leap = (0, omega arith, refl)
slanted-all SouthWest leap = (1, omega arith, refl)
slanted-all NorthWest leap = (2, omega arith, refl)
slanted-all SouthEast leap = (3, omega arith, refl)

-- two units that a rider comes to that way are one
pub one_unit : (b : PlainBoard) (way : Way) (k i j : ℕ) → Rides b way k i → Rides b way k j → (unit_at b (place_in i) ≡ None → ⊥) → (unit_at b (place_in j) ≡ None → ⊥) → i ≡ j
one_unit b way k i j r s taken there =
    let w = (Rides-clear b way k i).0 r in
    let v = (Rides-clear b way k j).0 s in
    elim (sooner-cases (rises way) i j) [
      | inl same ↦ same
      | inr (inl before) ↦ absurd (taken (v.1 i w.0 before))
      | inr (inr behind) ↦ absurd (there (w.1 j v.0 behind))
    ]

-- a rider that pins, as the king sees it
pub record PinsAlong (b : PlainBoard) (riders k i : ℕ) : Type 0 where
  pub way : Way
  pub to_unit : Rides b way k i
  pub rider : ℕ
  pub to_rider : Rides b way i rider
  pub has : Has riders rider

pub has_rider : (b : PlainBoard) (s : Place) (u : Man) (way : Way) → unit_at b s ≡ Some u → GoesAs u.kind way → HasRider b s
has_rider b s u way stands (inl of) = inl (record { unit = u; stands = stands; is = of.1 })
has_rider b s u way stands (inr of) = inr (record { unit = u; stands = stands; is = of.1 })

-- who pins, as the king sees it
pub record Pinner (b : PlainBoard) (foes k i : ℕ) : Type 0 where
  pub way : Way
  pub to_unit : Rides b way k i
  pub rider : ℕ
  pub cell : IsCell b.game rider
  pub to_rider : Rides b way i rider
  pub unit : Man
  pub stands : unit_at b (place_in rider) ≡ Some unit
  pub foe : Has foes rider
  pub by : GoesAs unit.kind way

pub pinner : (b : PlainBoard) (side : Side) (foes : ℕ) → Owns b (other_side side) foes → (k i : ℕ) → IsCell b.game k → IsCell b.game i → IsPinned b side (place_in k) (place_in i) → Pinner b foes k i
pinner b side foes owns k i on cell w =
    let (x, rider, mode, denoted, to_rider, to_unit) = both_back b side w.rider w.step w.from (place_in i) (place_in k) w.owner w.denoted w.on_board cell.on_board w.to_unit w.to_king in
    let r = cell_of w.from in
    let rc = IsCell-cell_of b.game w.from w.on_board in
    let at = place_in-cell_of b.game w.from w.on_board in
    let stands : unit_at b (place_in r) ≡ Some w.rider = ap (unit_at b) at ∙ w.stands in
    let way = rider_way side w.rider.kind x denoted (rider ∙ w.rides) in
    record {
      way = way.way;
      to_unit = Rides-leads b side way.way x way.goes k i on cell to_unit;
      rider = r;
      cell = rc;
      to_rider = Rides-leads b side way.way x way.goes i r cell rc (subst (λ t. Leads b side x (place_in i) t) (sym at) to_rider);
      unit = w.rider;
      stands = stands;
      foe = (owns r).1 (rc, ap (is_of_side (other_side side)) stands ∙ is_own (other_side side) w.rider w.owner);
      by = way.by;
    }

-- who pins stands on the king's line
pub pinner-ray : (b : PlainBoard) (foes k i : ℕ) (p : Pinner b foes k i) → IsOnRay b.game p.way k p.rider
pinner-ray b foes k i p = ray-beyond b.game p.way k i p.rider (rides-ray b p.way k i p.to_unit) (rides-ray b p.way i p.rider p.to_rider)

pub pins-along : (b : PlainBoard) (side : Side) (foes riders : ℕ) → Owns b (other_side side) foes → ((j : ℕ) → Has riders j ↔ (IsCell b.game j × HasRider b (place_in j))) → (k i : ℕ) → IsCell b.game k → IsCell b.game i → IsPinned b side (place_in k) (place_in i) → PinsAlong b (bit_and foes riders) k i
pins-along b side foes riders owns are k i on cell w =
    let p = pinner b side foes owns k i on cell w in
    record { way = p.way; to_unit = p.to_unit; rider = p.rider; to_rider = p.to_rider; has = (Has-and foes riders p.rider).1 (p.foe, (are p.rider).1 (p.cell, has_rider b (place_in p.rider) p.unit p.way p.stands p.by)) }
