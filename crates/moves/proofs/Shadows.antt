-- Where a rider comes through a king's square.
use Rattle.moves.proofs.Common.{◌≡◌, ℕ, sym, ap, subst, ◌∙◌, ◌↔◌, Some, Side, King, Man, other_side, PlainBoard, IsPosition, Way, Place, IsOnBoard, unit_at, Leads, AttacksFrom, cell_of, place_in, IsCell, Has, IsOnRay, bit_and, Has-and, IsCell-cell_of, place_in-cell_of, Guards, Checkers, IsPinned, HasRider}
use Rattle.moves.specs.declared.board_list.Guard.{Guard}
use Rattle.moves.proofs.Kings.{one_king}
use Rattle.moves.proofs.Looking.{attacks_on}
use Rattle.moves.proofs.Riding.{Rides-leads, rides-ray, ray-beyond}
use Rattle.moves.proofs.Seeing.{rider_way}
use Rattle.moves.proofs.Pinning.{has_rider}

-- what pins a unit attacks its square
pub pinned_attacks : (b : PlainBoard) → IsPosition b → (side : Side) (t k : Place) → (w : IsPinned b side t k) → AttacksFrom b (other_side side) w.from k
pinned_attacks b is side t k w = attacks_on b is (other_side side) w.from k w.rider w.on_board w.stands w.owner (record { step = w.step; denoted = w.denoted; captures = w.captures; leads = w.to_unit })

-- a rider that checks in cell k would come on to cell i
pub record ComesThrough (b : PlainBoard) (side : Side) (k i : ℕ) : Type 0 where
  pub rider : ℕ
  pub cell : IsCell b.game rider
  pub attacks : AttacksFrom b (other_side side) (place_in rider) (place_in k)
  pub has : HasRider b (place_in rider)
  pub way : Way
  pub on : IsOnRay b.game way rider i

pub comes_through : (b : PlainBoard) → IsPosition b → (side : Side) (k i : ℕ) → IsCell b.game k → IsCell b.game i → IsPinned b side (place_in i) (place_in k) → ComesThrough b side k i
comes_through b is side k i on cell w =
    let r = cell_of w.from in
    let rc = IsCell-cell_of b.game w.from w.on_board in
    let at : place_in r ≡ w.from = place_in-cell_of b.game w.from w.on_board in
    let stands : unit_at b (place_in r) ≡ Some w.rider = ap (unit_at b) at ∙ w.stands in
    let way = rider_way w.rider.side w.rider.kind w.step w.denoted w.rides in
    let first = Rides-leads b w.rider.side way.way w.step way.goes r k rc on (subst (λ x. Leads b w.rider.side w.step x (place_in k)) (sym at) w.to_unit) in
    let then = Rides-leads b w.rider.side way.way w.step way.goes k i on cell w.to_king in
    record {
      rider = r;
      cell = rc;
      attacks = subst (λ x. AttacksFrom b (other_side side) x (place_in k)) (sym at) (pinned_attacks b is side (place_in i) (place_in k) w);
      has = has_rider b (place_in r) w.rider way.way stands way.by;
      way = way.way;
      on = ray-beyond b.game way.way r k i (rides-ray b way.way r k first) (rides-ray b way.way k i then);
    }

-- it is one of the riders among the checkers
pub riding : (b : PlainBoard) (k i checkers riders : ℕ) → Checkers b k checkers → ((j : ℕ) → Has riders j ↔ (IsCell b.game j × HasRider b (place_in j))) → (t : ComesThrough b b.mover k i) → Has (bit_and checkers riders) t.rider
riding b k i checkers riders hc are t = (Has-and checkers riders t.rider).1 ((hc t.rider).1 (t.cell, t.attacks), (are t.rider).1 (t.cell, t.has))

-- where a rider would come through the mover's king, the guard's shadow is
pub in_shadow : (b : PlainBoard) (guard : Guard) (u : Man) (s : Place) (i : ℕ) → IsPosition b → Guards b guard → IsOnBoard b.game s → IsCell b.game i → unit_at b s ≡ Some u → u.side ≡ b.mover → u.kind ≡ King → IsPinned b b.mover (place_in i) s → Has guard.shadow i
in_shadow b guard u s i is g on cell stands owner king w =
    let mine : unit_at b s ≡ Some (record { side = b.mover; kind = King }) = stands ∙ λ k. Some (record { side = owner k; kind = king k }) in
    let same : s ≡ place_in guard.king = one_king b is b.mover s (place_in guard.king) on g.cell.on_board mine g.king in
    g.shadow i cell (subst (IsPinned b b.mover (place_in i)) same w)
