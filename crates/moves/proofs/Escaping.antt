-- Steps of a king that are lawful after a move of the other side.
use Rattle.moves.proofs.Common.{◌≡◌, ℕ, refl, sym, ap, subst, ◌∙◌, inl, inr, Some, None, false≢true, same_Some, King, Man, Side, other_side, PlainBoard, IsPosition, Place, Ply, IsOnBoard, unit_at, Allows, Reaches, AttacksFrom, IsAttacked, IsInCheck, once, IsSomeKing, IsPseudoLegal, IsLawful, placed, after, IsPosition-after, own_or_other, place_in, IsCell, Way, IsOnRay, Aims, IsPinned, IsCalm, single_step, Has, cell_of, IsCell-cell_of, place_in-cell_of, Promotes, Kind, Option, unwrap_or}
use Rattle.moves.proofs.Laying.{unit_at-other}
use Rattle.moves.proofs.Kings.{king_of, check_at, check_from}
use Rattle.moves.proofs.Guarding.{king_moved}
use Rattle.moves.proofs.Looking.{attack_aims}
use Rattle.moves.proofs.Pins.{stood, attacked_after}
use Rattle.moves.proofs.Riding.{Rides-leads, rides-ray}
use Rattle.moves.proofs.Seeing.{rider_way, king_single}
use Rattle.moves.proofs.Shadows.{pinned_attacks}
use Rattle.moves.proofs.SafeCells.{not_named}
use Rattle.moves.specs.declared.checks.CheckInfo.{CheckInfo}
use Rattle.moves.specs.Checking.{IsCheckInfo}

-- what a rider would come to over a cell lies on a line of that cell
pub over_lines : (b : PlainBoard) (side : Side) (k i : ℕ) → IsCell b.game k → IsCell b.game i → IsPinned b side (place_in i) (place_in k) → (way : Way) × IsOnRay b.game way k i
over_lines b side k i on cell w =
    let way = rider_way w.rider.side w.rider.kind w.step w.denoted w.rides in
    (way.way, rides-ray b way.way k i (Rides-leads b w.rider.side way.way w.step way.goes k i on cell w.to_king))

module _ (b : PlainBoard) (m : Ply) (u : Man) (is : IsPosition b) (p : IsPseudoLegal b m u) where
  module _ (k f : Place) (on : IsOnBoard b.game k) (king : unit_at b k ≡ king_of (other_side b.mover)) (to : IsOnBoard b.game f)
      (reach : Reaches b (record { side = other_side b.mover; kind = King }) k f (unit_at b f)) (away : f ≡ m.from → ⊥) (apart : f ≡ m.to → ⊥) (calm : IsCalm b f (other_side b.mover)) where
    not_from : k ≡ m.from → ⊥
    not_from e = own_or_other b.mover (sym p.owner ∙ ap (λ (x : Man). x.side) (same_Some u (record { side = other_side b.mover; kind = King }) (sym p.stands ∙ ap (unit_at b) (sym e) ∙ king)))

    not_to : k ≡ m.to → ⊥
    not_to e = p.no_king (subst IsSomeKing (sym (ap (unit_at b) (sym e) ∙ king)) refl)

    same_target : unit_at (after b m u) f ≡ unit_at b f
    same_target = unit_at-other b m u is p f to away apart

    pub steps : IsPseudoLegal (after b m u) (record { from = k; to = f; promotion = None }) (record { side = other_side b.mover; kind = King })
    steps = record {
      on_board = on;
      stands = unit_at-other b m u is p k on not_from not_to ∙ king;
      owner = refl;
      reaches = record {
        step = reach.step;
        played = reach.played;
        denoted = reach.denoted;
        reaches = record {
          allows = subst (Allows reach.step.mode (other_side b.mover)) (sym same_target) reach.reaches.allows;
          leads = once to (single_step b (other_side b.mover) reach.step k f (king_single reach.step reach.denoted) reach.reaches.leads);
        };
      };
      no_king = λ w. calm.no_king (subst IsSomeKing same_target w);
      named = (λ never. absurd (false≢true never), λ w. cc w.0);
      allowed = tt;
    }

    module _ (unseen : (c : PlainBoard) → c.game ≡ b.game → Aims c (placed u m) m.to f → ⊥) (shut : IsPinned b (other_side b.mover) f m.from → ⊥)
        (safe : IsInCheck b (other_side b.mover) → ⊥) (kept : IsPinned b (other_side b.mover) k m.from → ⊥) where
      -- what attacks there as the unit that moved would take there
      aims : (c : PlainBoard) (s : Place) (a : AttacksFrom c (other_side (other_side b.mover)) s f) → s ≡ m.to → a.unit ≡ placed u m → Aims c (placed u m) m.to f
      aims c s a same man = subst (λ x. Aims c (placed u m) x f) same (subst (λ (x : Man). Aims c x s f) man (attack_aims c (other_side (other_side b.mover)) s f a))

      pub lawful_step : IsLawful (after b m u) (record { from = k; to = f; promotion = None })
      lawful_step =
          let next = after b m u in
          let is_next = IsPosition-after b m u is p in
          let n : Ply = record { from = k; to = f; promotion = None } in
          let v : Man = record { side = other_side b.mover; kind = King } in
          let side = other_side b.mover in
          let fin = after next n v in
          let still_safe : IsAttacked fin f (other_side side) → ⊥ = λ (s, a). elim (attacked_after next n v is_next steps side s f a) [
            | inl (at, moved) ↦ own_or_other side (sym (ap (λ (x : Man). x.side) (moved a.unit a.stands)) ∙ a.owner)
            | inr (inl w) ↦ elim (attacked_after b m u is p side s f w) [
              | inl (at, moved) ↦ unseen next refl (aims next s w at (moved w.unit w.stands))
              | inr (inl l) ↦ calm.safe (s, l)
              | inr (inr pin) ↦ shut pin.0
            ]
            | inr (inr (over, from)) ↦
                let w = pinned_attacks next is_next side f k over in
                elim (attacked_after b m u is p side over.from k w) [
                  | inl (at, moved) ↦
                      let there : unit_at next s ≡ Some a.unit = stood next n v is_next steps s a.unit a.on_board a.stands (λ e. own_or_other side (sym (ap (λ (x : Man). x.side) e) ∙ a.owner)) in
                      unseen fin refl (aims fin s a (sym from ∙ at) (moved a.unit (ap (unit_at next) from ∙ there)))
                  | inr (inl l) ↦ safe (check_from b side k on king (over.from, l))
                  | inr (inr pin) ↦ kept pin.0
                ]
          ] in
          (fin, record { unit = v; pseudo = steps; leads = refl; safe = λ check. still_safe (check_at fin (IsPosition-after next n v is_next steps) side f to (king_moved next n v is_next steps refl) check) })

  -- so is a step that the info has
  pub known_step : (info : CheckInfo) → IsCheckInfo b info → (i : ℕ) → Has info.steps i → (place_in i ≡ m.from → ⊥) → (place_in i ≡ m.to → ⊥) → ((q : PlainBoard) → q.game ≡ b.game → Aims q (placed u m) m.to (place_in i) → ⊥)
      → (IsPinned b (other_side b.mover) (place_in i) m.from → ⊥) → (Has info.uncovers (cell_of m.from) → ⊥) → (n : Ply) × IsLawful (after b m u) n
  known_step info w i step away apart unseen shut covered =
      let (target, calm) = w.steps i step in
      let kept : IsPinned b (other_side b.mover) (place_in info.king) m.from → ⊥ = λ pin. covered (w.uncovers (cell_of m.from) (IsCell-cell_of b.game m.from p.on_board) (subst (IsPinned b (other_side b.mover) (place_in info.king)) (sym (place_in-cell_of b.game m.from p.on_board)) pin)) in
      (_, lawful_step (place_in info.king) (place_in i) w.cell.on_board w.king target.0.on_board target.1 away apart calm unseen shut w.safe kept)

  -- a unit that isn't promoted stays what it is
  pub stays_same : (Promotes b.game u m.to → ⊥) → placed u m ≡ u
  stays_same never = ap (λ (o : Option Kind). record { side = u.side; kind = unwrap_or o u.kind }) (not_named m.promotion (λ s. never (p.named.0 s)))
