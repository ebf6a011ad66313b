use Rattle.moves.proofs.Common.{◌≡◌, ℕ, ◌↔◌, subst, bit_and, Game, PlainBoard, Way, Has, IsOnRay, Rides, Has-and, Has-zero}
use Rattle.moves.proofs.Riding.{cell-rides, ray-beyond, ray-of, rides-ray}
use Rattle.moves.proofs.Pinning.{one_unit}
use Rattle.moves.proofs.pinned.pinned_along.Goals as goal
use Rattle.moves.proofs.pinned.pinned_along.Goals.{then-first-eq0-via-then-first-eq0, then-first-eq0-via-else-first-eq0+then-along-riders-eq0}

-- a rider behind the unit stands on the ray
behind_on_ray : (b : PlainBoard) (way : Way) (g : Game) (cell i r ray riders : ℕ) → g ≡ b.game → ((j : ℕ) → Has ray j ↔ IsOnRay g way cell j) → Has riders r → Rides b way cell i → Rides b way i r → Has (bit_and ray riders) r
behind_on_ray b way g cell i r ray riders e of has to_unit to_rider =
    (Has-and ray riders r).1 ((ray-of b way cell ray g e of r).1 (ray-beyond b.game way cell i r (rides-ray b way cell i to_unit) (rides-ray b way i r to_rider)), has)

pub returns-then-ray-riders-eq0 : goal.returns-then-ray-riders-eq0
returns-then-ray-riders-eq0 c = λ i r taken has to_unit to_rider.
    let b = c.args.board.now in
    absurd (Has-zero r (subst (λ n. Has n r) c.if-ray-riders-eq0.true (behind_on_ray b c.args.way c.game.result c.args.cell i r c.ray.result c.args.riders c.game.ensures.value c.ray.ensures has to_unit to_rider)))

pub along-requires-else-first-eq0 : goal.along-requires-else-first-eq0
along-requires-else-first-eq0 c =
    let w = (Has-and c.along.result c.taken.result c.lowest.result).0 c.lowest.ensures.there in
    ((c.taken.ensures c.lowest.result).0 w.1).0

pub returns-then-first-eq0 : goal.returns-then-first-eq0
returns-then-first-eq0 c = λ i r taken has to_unit to_rider.
    let b = c.args.board.now in
    let first = (Has-and c.along.result c.taken.result i).1 ((c.along.ensures i).1 to_unit, (c.taken.ensures i).1 (cell-rides b c.args.way c.args.cell i to_unit, taken)) in
    elim c.then-first-eq0.branch [
      | then-first-eq0-via-then-first-eq0 w ↦ absurd (Has-zero i (subst (λ n. Has n i) w.if-first-eq0.true first))
      | then-first-eq0-via-else-first-eq0+then-along-riders-eq0 w ↦
          let l = w.lowest.result in
          let at = (Has-and c.along.result c.taken.result l).0 w.lowest.ensures.there in
          let same = one_unit b c.args.way c.args.cell i l to_unit ((c.along.ensures l).0 at.0) taken ((c.taken.ensures l).0 at.1).1 in
          let behind = (w.along-else-first-eq0.ensures r).1 (subst (λ n. Rides b c.args.way n r) same to_rider) in
          absurd (Has-zero r (subst (λ n. Has n r) w.if-along-riders-eq0.true ((Has-and w.along-else-first-eq0.result c.args.riders r).1 (behind, has))))
    ]

pub returns : goal.returns
returns c = λ i r taken has to_unit to_rider.
    (Has-and c.along.result c.taken.result i).1 ((c.along.ensures i).1 to_unit, (c.taken.ensures i).1 (cell-rides c.args.board.now c.args.way c.args.cell i to_unit, taken))
