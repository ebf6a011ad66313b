-- A check stands but for a move of the king, a capture, or a unit put between.
use Rattle.moves.proofs.Common.{◌≡◌, ℕ, ◌-◌, ◌^◌, sym, ap, subst, ◌∙◌, arith, ◌⊎◌, inl, inr, Some, None, bit_at_ones, same_Some, Side, King, Man, Step, other_side, PlainBoard, IsPosition, Place, Ply, IsOnBoard, unit_at, Leads, AttacksFrom, IsInCheck, once, again, IsPseudoLegal, after, Way, cell_of, place_in, IsCell, Rides, Has, Aims, HasBlocks, IsCell-cell_of, place_in-cell_of, cell_of-place_in, cell_small, one_target, to_on_board, IsPosition-after, single_step, Leads-end, own_or_other}
use Rattle.moves.proofs.Riding.{Rides-leads}
use Rattle.moves.proofs.Seeing.{rides_as}
use Rattle.moves.proofs.Laying.{unit_at-other}
use Rattle.moves.proofs.Kings.{king_of, check_from}
use Rattle.moves.proofs.Guarding.{king_stays}
use Rattle.moves.proofs.Looking.{Aims-attacked, attacks_back}
use Rattle.moves.proofs.Pins.{place_cases, no_unit}

module _ (b : PlainBoard) (m : Ply) (u : Man) (is : IsPosition b) (p : IsPseudoLegal b m u) where
  -- a walk comes by the to-square, or is one after the move too
  crossed : (side : Side) (step : Step) (s t : Place) → Leads b side step s t → Leads b side step s m.to ⊎ (Leads (after b m u) side step s t × (t ≡ m.to → ⊥))
  crossed side step s t (once on a) = elim (place_cases b.game t m.to on (to_on_board b m u p)) [
    | inl same ↦ inl (subst (Leads b side step s) same (once on a))
    | inr far ↦ inr (once on a, far)
  ]
  crossed side step s t (again {u = v} r on a e l) = elim (place_cases b.game v m.to on (to_on_board b m u p)) [
    | inl same ↦ inl (subst (Leads b side step s) same (once on a))
    | inr far ↦
        let bare : unit_at (after b m u) v ≡ None = unit_at-other b m u is p v on (λ same. no_unit (sym e ∙ ap (unit_at b) same ∙ p.stands)) far ∙ e in
        elim (crossed side step v t l) [
          | inl w ↦ inl (again r on a e w)
          | inr w ↦ inr (again r on a bare w.0, w.1)
        ]
  ]

  module _ (piece : u.kind ≡ King → ⊥) (k : Place) (on : IsOnBoard b.game k) (king : unit_at b k ≡ king_of b.mover) (safe : IsInCheck (after b m u) b.mover → ⊥) where
    -- so a move that ends the check comes to the way of what gives it
    pub must_cross : (s : Place) (v : Man) → unit_at b s ≡ Some v → v.side ≡ other_side b.mover → (w : Aims b (record { side = b.mover; kind = v.kind }) k s) → Leads b b.mover w.step k m.to
    must_cross s v stands owner w =
        let there = Leads-end b b.mover w.step k s w.leads in
        elim (crossed b.mover w.step k s w.leads) [
          | inl comes ↦ comes
          | inr past ↦
              let apart : s ≡ m.from → ⊥ = λ same. own_or_other b.mover (sym p.owner ∙ ap (λ (x : Man). x.side) (same_Some u v (sym p.stands ∙ ap (unit_at b) (sym same) ∙ stands)) ∙ owner) in
              let stays : unit_at (after b m u) s ≡ Some v = unit_at-other b m u is p s there apart past.1 ∙ stands in
              let attack = attacks_back (after b m u) k b.mover on (IsPosition-after b m u is p) s v there stays owner (record { step = w.step; denoted = w.denoted; captures = w.captures; leads = past.0 }) in
              absurd (safe (check_from (after b m u) b.mover k on (king_stays b m u is p k on king piece ∙ ap king_of p.owner) (s, attack)))
        ]

-- ---- the cells of a way

module _ (b : PlainBoard) (is : IsPosition b) (k i : ℕ) (on : IsCell b.game k) (at : IsCell b.game i) (king : unit_at b (place_in k) ≡ king_of b.mover) (check : AttacksFrom b (other_side b.mover) (place_in i) (place_in k)) where
  -- the checker's cell, and those of the way that it comes
  pub HasBlocks-way : (set : ℕ) → Has set i → ((way : Way) → Rides b way k i → (j : ℕ) → Rides b way k j → Has set j) → HasBlocks b set
  HasBlocks-way set there between = λ m u p piece safe.
      let a = Aims-attacked b (place_in k) b.mover on.on_board (place_in i) check in
      let crosses = must_cross b m u is p piece (place_in k) on.on_board king safe (place_in i) check.unit check.stands check.owner a in
      let to = to_on_board b m u p in
      let cell = IsCell-cell_of b.game m.to to in
      let crosses' : Leads b b.mover a.step (place_in k) (place_in (cell_of m.to)) = subst (Leads b b.mover a.step (place_in k)) (sym (place_in-cell_of b.game m.to to)) crosses in
      elim (rides_as b.mover check.unit.kind a.step a.denoted) [
        | inl single ↦
            let same : m.to ≡ place_in i = one_target b.mover a.step (place_in k) m.to (place_in i) (single_step b b.mover a.step (place_in k) m.to single crosses) (single_step b b.mover a.step (place_in k) (place_in i) single a.leads) in
            subst (Has set) (sym (ap cell_of same ∙ cell_of-place_in b.game i at)) there
        | inr way ↦ between way.way (Rides-leads b b.mover way.way a.step way.goes k i on at a.leads) (cell_of m.to) (Rides-leads b b.mover way.way a.step way.goes k (cell_of m.to) on cell crosses')
      ]

-- with no check each cell will do
pub HasBlocks-all : (b : PlainBoard) → HasBlocks b (2 ^ 64 - 1)
HasBlocks-all b = λ m u p piece safe.
    let small = cell_small b.game (cell_of m.to) (IsCell-cell_of b.game m.to (to_on_board b m u p)) in
    bit_at_ones 64 (cell_of m.to) (omega (arith, small))

-- where the unit in cell i comes that way to k, the set has the cells of the way
abbrev pub HoldsBetween : PlainBoard → ℕ → ℕ → ℕ → Way → Type 0
HoldsBetween b k i set way = Rides b way k i → (j : ℕ) → Rides b way k j → Has set j
