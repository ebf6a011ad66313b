use Rattle.moves.proofs.Common.{◌≡◌, Some, sym, ap, subst, ◌∙◌, inl, inr, cases_eq, unit_at, cell_of, place_in, Has, IsTarget, place_in-cell_of, Has-zero, IsNumbered-lawful}
use Rattle.moves.proofs.SafeCells.{lawful_named}
use Rattle.moves.proofs.safe.sifted.Goals as goal

pub cells-init : goal.cells-init
cells-init c = record {
  left = c.tried-left.ensures.reached;
  cells = λ i h. absurd (Has-zero i h);
  lawful = λ i m h. absurd (Has-zero i h);
  all = λ m from l. inl (c.tried-left.ensures.all m from l);
}

pub may_go-goes-requires-clause-target : goal.may_go-goes-requires-clause-target
may_go-goes-requires-clause-target c = c.cells.invariant.left c.take_lowest-cell.result c.take_lowest-cell.ensures.there

pub cells-preserved : goal.cells-preserved
cells-preserved c =
    let b = c.args.board.now in
    let u = c.args.unit in
    let inv = c.cells.invariant in
    let cell = c.take_lowest-cell.result in
    let e = c.take_lowest-cell.ensures in
    let added = c.with_cell-safe.ensures in
    let goes = c.may_go-goes.ensures in
    record {
      left = λ i h. inv.left i ((e.rest i).0 h).0;
      cells = λ i h. elim ((added i).0 h) [
        | inl old ↦ inv.cells i old
        | inr new ↦ subst (IsTarget b u (place_in c.args.from)) new.1 (inv.left cell e.there)
      ];
      lawful = λ i m h from to named. elim ((added i).0 h) [
        | inl old ↦ inv.lawful i m old from to named
        | inr new ↦ (goes m from (to ∙ ap place_in (sym new.1)) named).0 new.0
      ];
      all = λ m from l. elim (inv.all m from l) [
        | inr old ↦ inr ((added (cell_of m.to)).1 (inl old))
        | inl waits ↦ elim (cases_eq (cell_of m.to) cell) [
          | inl same ↦
              let to : m.to ≡ place_in cell = sym (place_in-cell_of b.game m.to (IsNumbered-lawful b m l).to) ∙ ap place_in same in
              let stands : unit_at b m.from ≡ Some u = ap (unit_at b) from ∙ c.requires.stands in
              inr ((added (cell_of m.to)).1 (inr ((goes m from to (lawful_named b m u stands l)).1 l, sym same)))
          | inr other ↦ inl ((e.rest (cell_of m.to)).1 (waits, other))
        ]
      ];
    }

pub returns : goal.returns
returns c =
    let inv = c.cells.invariant in
    record {
      cells = inv.cells;
      lawful = inv.lawful;
      all = λ m from l. elim (inv.all m from l) [
        | inl waits ↦ absurd (Has-zero (cell_of m.to) (subst (λ x. Has x (cell_of m.to)) c.cells-test.false waits))
        | inr safe ↦ safe
      ];
    }
