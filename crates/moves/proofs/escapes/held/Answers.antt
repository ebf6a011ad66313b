use Rattle.moves.proofs.Common.{◌≡◌, refl, sym, ap, subst, ◌∙◌, inl, inr, true, false≢true, not, cases_eq, cases_Bool, other_side, PlainBoard, Man, Reaches, unit_at, to_on_board, placed, cell_of, place_in, place_in-cell_of, cell_of-place_in, Aims, IsPinned, Has, Has-or, Has-zero}
use Rattle.moves.proofs.Escaping.{known_step, stays_same}
use Rattle.moves.proofs.escapes.held.Goals as goal

pub cells-init : goal.cells-init
cells-init c = record {
  left = λ i h. h;
  some = λ i h. absurd (Has-zero i h);
  all = λ m from p there none. inl there;
}

pub cells-preserved : goal.cells-preserved
cells-preserved c =
    let b = c.args.board.now in
    let u = c.args.unit in
    let inv = c.cells.invariant in
    let to = c.take_lowest-to.result in
    let e = c.take_lowest-to.ensures in
    let added = c.with_cell-held.ensures in
    record {
      left = λ i h. inv.left i ((e.rest i).0 h).0;
      some = λ i h. elim ((added i).0 h) [
        | inl old ↦ inv.some i old
        | inr new ↦ subst (Has c.args.reached) new.1 (inv.left to e.there)
      ];
      all = λ m from p there none. elim (inv.all m from p there none) [
        | inr old ↦ inr ((added (cell_of m.to)).1 (inl old))
        | inl waits ↦ elim (cases_eq (cell_of m.to) to) [
          | inr other ↦ inl ((e.rest (cell_of m.to)).1 (waits, other))
          | inl same ↦ elim (cases_Bool c.flees-holds.result) [
            | inr stays ↦ inr ((added (cell_of m.to)).1 (inr (subst (λ r. not r ≡ true) (sym stays) refl, sym same)))
            | inl flees ↦
                let (i, step, seen) = c.flees-holds.ensures flees in
                let (known, free) = (c.except-steps.ensures i).0 step in
                let target = (c.requires.known.steps i known).0.0 in
                let on : m.to ≡ place_in to = sym (place_in-cell_of b.game m.to (to_on_board b m u p)) ∙ ap place_in same in
                let start : cell_of m.from ≡ c.args.from = ap cell_of from ∙ cell_of-place_in b.game c.args.from c.requires.cell in
                let away : place_in i ≡ m.from → ⊥ = λ x. free ((Has-or c.single.result c.opened.result i).1 (inl ((c.single.ensures i).1 (sym (sym (cell_of-place_in b.game i target) ∙ ap cell_of x ∙ start))))) in
                let apart : place_in i ≡ m.to → ⊥ = λ x. seen.other (sym (cell_of-place_in b.game i target) ∙ ap cell_of x ∙ same) in
                let man = stays_same b m u c.requires.position p (λ x. false≢true (sym c.if-may_promote.false ∙ (c.may_promote.ensures m.to (subst (λ s. Reaches b u s m.to (unit_at b m.to)) (from ∙ sym c.square_in.ensures) p.reaches)).1 x)) in
                let unseen : (q : PlainBoard) → q.game ≡ b.game → Aims q (placed u m) m.to (place_in i) → ⊥ = λ q game aims. seen.unseen q game target (subst (λ (x : Man). Aims q x (place_in to) (place_in i)) man (subst (λ s. Aims q (placed u m) s (place_in i)) on aims)) in
                let shut : IsPinned b (other_side b.mover) (place_in i) m.from → ⊥ = λ x. free ((Has-or c.single.result c.opened.result i).1 (inr (c.opened.ensures i target (subst (λ s. IsPinned b s (place_in i) (place_in c.args.from)) (sym c.other.ensures) (subst (λ s. IsPinned b (other_side s) (place_in i) (place_in c.args.from)) (sym p.owner) (subst (IsPinned b (other_side b.mover) (place_in i)) from x)))))) in
                let (n, lawful) = known_step b m u c.requires.position p c.args.info c.requires.known i known away apart unseen shut (λ h. false≢true (sym c.if-has.false ∙ c.has.ensures.1 (subst (Has c.args.info.uncovers) start h))) in
                absurd (none n lawful)
          ]
        ]
      ];
    }

pub returns-clause-all : goal.returns-clause-all
returns-clause-all c = λ m from p there none. elim (c.cells.invariant.all m from p there none) [
  | inl waits ↦ absurd (Has-zero (cell_of m.to) (subst (λ x. Has x (cell_of m.to)) c.cells-test.false waits))
  | inr held ↦ held
]
