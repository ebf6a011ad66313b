-- A king steps into check exactly where the square is attacked already, if no rider comes there through the king's square.
use Rattle.moves.proofs.Common.{◌≡◌, ◌+◌, ◌<◌, sym, ap, ◌∙◌, arith, inl, inr, Some, unsigned_abs, same_Some, Side, King, Man, Step, terms_of, other_side, PlainBoard, IsPosition, Place, Ply, IsOnBoard, unit_at, Leads, IsAttacked, IsInCheck, once, again, IsPseudoLegal, after, room_of, room_of-step, to_on_board, IsPosition-after, own_or_other, IsPinned}
use Rattle.board.proofs.Leaps.{goes_somewhere}
use Rattle.moves.proofs.Laying.{unit_at-from, unit_at-other}
use Rattle.moves.proofs.Kings.{king_of, check_at, check_from}
use Rattle.moves.proofs.Guarding.{king_moved}
use Rattle.moves.proofs.Looking.{carried}
use Rattle.moves.proofs.Pins.{place_cases, foe_attacks}

-- a walk ends where there is less room
less_room : (b : PlainBoard) (side : Side) (step : Step) (s t : Place) → IsOnBoard b.game s → 0 < unsigned_abs step.dx + unsigned_abs step.dy → Leads b side step s t → room_of side step t < room_of side step s
less_room b side step s t at goes (once on a) = room_of-step b.game side step s t at on a goes
less_room b side step s t at goes (again {u = v} r on a e l) =
    let first = room_of-step b.game side step s v at on a goes in
    let rest = less_room b side step v t on goes l in
    omega (arith, first, rest)

-- so it doesn't end where it began
elsewhere : (b : PlainBoard) (side : Side) (step : Step) (s t : Place) → IsOnBoard b.game s → 0 < unsigned_abs step.dx + unsigned_abs step.dy → Leads b side step s t → s ≡ t → ⊥
elsewhere b side step s t at goes l e =
    let less = less_room b side step s t at goes l in
    let same : room_of side step s ≡ room_of side step t = ap (room_of side step) e in
    omega (arith, less, same)

module _ (b : PlainBoard) (m : Ply) (u : Man) (is : IsPosition b) (p : IsPseudoLegal b m u) (king : u.kind ≡ King) where
  before : unit_at b m.from ≡ king_of b.mover
  before = p.stands ∙ λ i. Some (record { side = p.owner i; kind = king i })

  behind : unit_at (after b m u) m.to ≡ king_of b.mover
  behind = king_moved b m u is p king ∙ ap king_of p.owner

  -- a walk to the king's new square stays one
  walks : (side : Side) (step : Step) (s : Place) → 0 < unsigned_abs step.dx + unsigned_abs step.dy → Leads b side step s m.to → Leads (after b m u) side step s m.to
  walks side step s goes (once on a) = once on a
  walks side step s goes (again {u = v} r on a e l) =
      again r on a (elim (place_cases b.game v m.from on p.on_board) [
        | inl same ↦ ap (unit_at (after b m u)) same ∙ unit_at-from b m u is p
        | inr apart ↦ unit_at-other b m u is p v on apart (elsewhere b side step v m.to on goes l) ∙ e
      ]) (walks side step v goes l)

  pub attacked_then : IsAttacked b m.to (other_side b.mover) → IsInCheck (after b m u) b.mover
  attacked_then (s, a) =
      let r = a.reaches in
      let goes = goes_somewhere (terms_of a.unit.kind) r.step r.denoted in
      let away : s ≡ m.from → ⊥ = λ e. own_or_other b.mover (ap (λ (x : Man). x.side) (same_Some _ a.unit (sym before ∙ ap (unit_at b) (sym e) ∙ a.stands)) ∙ a.owner) in
      let apart : s ≡ m.to → ⊥ = elsewhere b a.unit.side r.step s m.to a.on_board goes r.reaches.leads in
      check_from (after b m u) b.mover m.to (to_on_board b m u p) behind
      (s, carried b (after b m u) (other_side b.mover) s m.to s m.to a a.on_board r.played (unit_at-other b m u is p s a.on_board away apart ∙ a.stands) (walks a.unit.side r.step s goes r.reaches.leads))

  pub steps_safely : (IsPinned b b.mover m.to m.from → ⊥) → (IsAttacked b m.to (other_side b.mover) → ⊥) → IsInCheck (after b m u) b.mover → ⊥
  steps_safely free none check = elim (foe_attacks b m u is p m.to (check_at (after b m u) (IsPosition-after b m u is p) b.mover m.to (to_on_board b m u p) behind check)) [ inl attacked ↦ none attacked | inr pin ↦ free pin ]
