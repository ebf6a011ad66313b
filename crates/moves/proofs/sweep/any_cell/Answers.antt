use Rattle.moves.proofs.Common.{sym, subst, inl, inr, false, cases_eq, Has, Has-zero}
use Rattle.moves.proofs.sweep.any_cell.Goals as goal

pub cells-init : goal.cells-init
cells-init g c = record { left = λ i h. h; all = λ i h. inl h }

pub test-requires : goal.test-requires
test-requires g c = c.requires c.take_lowest-cell.result (c.cells.invariant.left c.take_lowest-cell.result c.take_lowest-cell.ensures.there)

pub cells-preserved : goal.cells-preserved
cells-preserved g c =
    let inv = c.cells.invariant in
    let cell = c.take_lowest-cell.result in
    let e = c.take_lowest-cell.ensures in
    record {
      left = λ i h. inv.left i ((e.rest i).0 h).0;
      all = λ i h. elim (inv.all i h) [
        | inr failed ↦ inr failed
        | inl waits ↦ elim (cases_eq i cell) [
          | inl same ↦ inr (subst (λ k. goal.F-post g c.args.test k false) (sym same) (subst (goal.F-post g c.args.test cell) c.if-test.false c.test.ensures))
          | inr other ↦ inl ((e.rest i).1 (waits, other))
        ]
      ];
    }

pub returns-then-test-clause-found : goal.returns-then-test-clause-found
returns-then-test-clause-found g c =
    let cell = c.take_lowest-cell.result in
    λ _. (cell, c.cells.invariant.left cell c.take_lowest-cell.ensures.there, subst (goal.F-post g c.args.test cell) c.if-test.true c.test.ensures)

pub returns-clause-none : goal.returns-clause-none
returns-clause-none g c = λ _ i h. elim (c.cells.invariant.all i h) [
  | inl waits ↦ absurd (Has-zero i (subst (λ x. Has x i) c.cells-test.false waits))
  | inr failed ↦ failed
]
