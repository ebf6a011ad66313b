-- Who gives check after a move: the unit that moved, from where it comes to, or one that it kept from the king.
use Rattle.moves.proofs.Common.{◌≡◌, zero, suc, ℤ, neg_ℤ, refl, sym, ap, subst, ◌∙◌, arith, ◌⊎◌, inl, inr, false, Option, Some, None, IsSome, unwrap_or, ints, false≢true, Side, White, Black, Kind, Knight, Man, Mode, Move, Capture, Both, Step, Term, IsAtomLeap, Denotes, terms_of, other_side, IsPlayed, PlainBoard, IsPosition, Place, Ply, IsOnBoard, unit_at, ahead_of, Leads, Allows, Reaches, AttacksFrom, IsInCheck, once, IsPseudoLegal, after, cell_of, IsTarget, IsPinned, Aims, IsCell-cell_of, place_in-cell_of, to_on_board, single_step, own_or_other}
use Rattle.board.specs.declared.terms.Atom.TheVariants as atom
use Rattle.moves.proofs.Kings.{king_of, check_from, one_king}
use Rattle.moves.proofs.Looking.{size-neg, captures_from, carried}
use Rattle.moves.proofs.Pins.{stood, walked, attacked_after}

named_or_not : (o : Option Kind) → IsSome o ⊎ (o ≡ None)
named_or_not None = inr refl
named_or_not (Some k) = inl refl

module _ (b : PlainBoard) (m : Ply) (u : Man) (is : IsPosition b) (p : IsPseudoLegal b m u) (k : Place) (on : IsOnBoard b.game k) (king : unit_at b k ≡ king_of (other_side b.mover)) (safe : IsInCheck b (other_side b.mover) → ⊥) where
  -- the unit that moved takes on the king's square, or one does that stood behind it
  pub who_checks : IsInCheck (after b m u) (other_side b.mover) → IsSome m.promotion ⊎ (Aims b u m.to k ⊎ IsPinned b (other_side b.mover) k m.from)
  who_checks (t, check) =
      let foe = other_side b.mover in
      let before : unit_at b t ≡ king_of foe = stood b m u is p t _ check.on_board check.king (λ e. own_or_other b.mover (sym p.owner ∙ sym (ap (λ (x : Man). x.side) e))) in
      let at : t ≡ k = one_king b is foe t k check.on_board on before king in
      let s = check.attacked.0 in
      let a = check.attacked.1 in
      let r = a.reaches in
      elim (attacked_after b m u is p foe s t a) [
        | inl (same, moved) ↦ elim (named_or_not m.promotion) [
          | inl named ↦ inl named
          | inr none ↦
              let plain : a.unit ≡ u = moved a.unit a.stands ∙ ap (λ (o : Option Kind). record { side = u.side; kind = unwrap_or o u.kind }) none in
              inr (inl (elim (walked b m u is p a.unit.side r.step s t r.reaches.leads) [
                | inl w ↦ record {
                  step = r.step;
                  denoted = subst (λ (v : Man). Denotes (terms_of v.kind) r.step) plain r.denoted;
                  captures = captures_from r.step.mode a.unit.side _ r.reaches.allows;
                  leads = subst (λ (v : Man). Leads b v.side r.step m.to k) plain (subst (λ x. Leads b a.unit.side r.step m.to x) at (subst (λ x. Leads b a.unit.side r.step x t) same w));
                }
                | inr w ↦ absurd (safe (check_from b foe k on king (m.from, carried (after b m u) b (other_side foe) s t m.from k a p.on_board r.played (p.stands ∙ ap Some (sym plain)) (subst (Leads b a.unit.side r.step m.from) at w.2))))
              ]))
        ]
        | inr (inl w) ↦ absurd (safe (check_from b foe k on king (s, subst (AttacksFrom b (other_side foe) s) at w)))
        | inr (inr pin) ↦ inr (inr (subst (λ x. IsPinned b foe x m.from) at pin.0))
      ]

-- the to-square is among the unit's
pub IsTarget-move : (b : PlainBoard) (m : Ply) (u : Man) → IsPseudoLegal b m u → IsTarget b u m.from (cell_of m.to)
IsTarget-move b m u p =
    let to = to_on_board b m u p in
    (IsCell-cell_of b.game m.to to, subst (λ x. Reaches b u m.from x (unit_at b x)) (sym (place_in-cell_of b.game m.to to)) p.reaches)

-- ---- a knight's leap back

ahead-neg : (side : Side) (dy : ℤ) → ahead_of side (neg_ℤ dy) ≡ neg_ℤ (ahead_of side dy)
ahead-neg White dy = refl
ahead-neg Black dy = refl

leap_back : (b : PlainBoard) (side : Side) (x : Step) (s t : Place) → IsOnBoard b.game s → Denotes (terms_of Knight) x → Leads b side x s t → (y : Step) × Denotes (terms_of Knight) y × (y.mode ≡ Both) × Leads b side y t s
leap_back b side x s t on (zero, term, h, e, ts) leads =
    let leap : IsAtomLeap atom.Knight x.dx x.dy = subst (λ a. IsAtomLeap a x.dx x.dy) (sym (ap (λ (v : Term). v.atom) e)) ts.leap.atom in
    let step = single_step b side x s t (ts.rider ∙ sym (ap (λ (v : Term). v.rider) e)) leads in (
      record { dx = neg_ℤ x.dx; dy = neg_ℤ x.dy; rider = false; mode = Both },
      (0, _, omega arith, refl, record { leap = record { atom = rw (sym (size-neg x.dx), sym (size-neg x.dy)) at leap; ahead = λ f. absurd (false≢true f) }; rider = refl; mode = refl }),
      refl,
      once on (record { file = omega (arith, ints, step.file); rank = omega (arith, ints, step.rank, ahead-neg side x.dy) }),
    )
leap_back b side x s t on (suc n, term, h, e, ts) leads = absurd (omega (arith, h))

pub allows_both : (mode : Mode) (side : Side) (o : Option Man) → Allows mode side o → Allows Both side o
allows_both Move side None h = tt
allows_both Move side (Some v) h = absurd h
allows_both Capture side None h = absurd h
allows_both Capture side (Some v) h = h
allows_both Both side o h = h

-- from the king's square a knight would come to where one would take on it
pub knight_seen : (b : PlainBoard) (m : Ply) (u : Man) (p : IsPseudoLegal b m u) (k : Place) → u.kind ≡ Knight → Aims b u m.to k → IsTarget b (record { side = b.mover; kind = Knight }) k (cell_of m.to)
knight_seen b m u p k knight w =
    let to = to_on_board b m u p in
    let r = p.reaches in
    let (y, denoted, both, leads) = leap_back b u.side w.step m.to k to (subst (λ x. Denotes (terms_of x) w.step) knight w.denoted) w.leads in
    let reach : Reaches b (record { side = u.side; kind = Knight }) k m.to (unit_at b m.to) = record {
      step = y;
      played = subst (IsPlayed b.game) knight r.played;
      denoted = denoted;
      reaches = record { allows = subst (λ x. Allows x u.side (unit_at b m.to)) (sym both) (allows_both r.step.mode u.side (unit_at b m.to) r.reaches.allows); leads = leads };
    } in
    let target : IsTarget b (record { side = u.side; kind = Knight }) k (cell_of m.to) = (
      IsCell-cell_of b.game m.to to,
      subst (λ x. Reaches b (record { side = u.side; kind = Knight }) k x (unit_at b x)) (sym (place_in-cell_of b.game m.to to)) reach,
    ) in
    subst (λ s. IsTarget b (record { side = s; kind = Knight }) k (cell_of m.to)) p.owner target
