use Rattle.moves.proofs.Common.{inl, inr, sym, subst, Way, bit_and, All-contains, IsOnRay, IsOnStraight, IsOnSlanted, Has-and, Has-or}
use Rattle.moves.specs.Pinned.{HoldsPins}
use Rattle.moves.specs.declared.pinned.TheConstants.{STRAIGHT_WAYS, SLANTED_WAYS}
use Rattle.moves.proofs.Pinning.{pinner, pinner-ray, straight-all, slanted-all}
use Rattle.moves.proofs.Seeing.{wazir_ways, ferz_ways}
use Rattle.moves.proofs.pinned.pinned.Goals as goal

pub returns : goal.returns
returns c = λ i cell w.
    let b = c.args.board.now in
    let k = c.args.cell in
    let p = pinner b c.args.side _ c.foes_of-foes.ensures k i c.requires cell w in
    elim p.by [
      | inl by ↦
          let there = (c.straight_lines.ensures p.rider).1 (subst (λ g. IsOnStraight g k p.rider) (sym c.game-game.ensures.value) ((wazir_ways (λ (way : Way). IsOnRay b.game way k p.rider)).1 (record { way = p.way; leap = by.0; holds = pinner-ray b _ k i p }))) in
          let foe = (Has-and c.foes_of-foes.result c.set.result p.rider).1 (p.foe, (c.set.ensures p.rider).1 (p.cell, record { unit = p.unit; stands = p.stands; is = by.1 })) in
          let has = (Has-and _ c.straight_lines.result p.rider).1 (foe, there) in
          let held = λ (way : Way). HoldsPins b (bit_and (bit_and c.foes_of-foes.result c.set.result) c.straight_lines.result) k c.pinned_on.result way in
          (Has-or c.pinned_on.result c.pinned_on-2.result i).1 (inl (All-contains held STRAIGHT_WAYS p.way c.pinned_on.ensures (straight-all p.way by.0) i p.rider w.taken has p.to_unit p.to_rider))
      | inr by ↦
          let there = (c.slanted_lines.ensures p.rider).1 (subst (λ g. IsOnSlanted g k p.rider) (sym c.game-game.ensures.value) ((ferz_ways (λ (way : Way). IsOnRay b.game way k p.rider)).1 (record { way = p.way; leap = by.0; holds = pinner-ray b _ k i p }))) in
          let foe = (Has-and c.foes_of-foes.result c.set-2.result p.rider).1 (p.foe, (c.set-2.ensures p.rider).1 (p.cell, record { unit = p.unit; stands = p.stands; is = by.1 })) in
          let has = (Has-and _ c.slanted_lines.result p.rider).1 (foe, there) in
          let held = λ (way : Way). HoldsPins b (bit_and (bit_and c.foes_of-foes.result c.set-2.result) c.slanted_lines.result) k c.pinned_on-2.result way in
          (Has-or c.pinned_on.result c.pinned_on-2.result i).1 (inr (All-contains held SLANTED_WAYS p.way c.pinned_on-2.ensures (slanted-all p.way by.0) i p.rider w.taken has p.to_unit p.to_rider))
    ]
