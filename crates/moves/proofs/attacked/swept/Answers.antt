use Rattle.moves.proofs.Common.{ℕ, subst, inl, inr, cases_eq, place_in, Has, Has-or, Has-zero, Aims}
use Rattle.moves.proofs.Owned.{going-are}
use Rattle.moves.proofs.attacked.swept.Goals as goal

pub units-init : goal.units-init
units-init c = record {
  left = λ i h. h;
  set = λ j h. absurd (Has-zero j h);
  all = λ j w. inl ((going-are c.args.board.now c.args.side c.args.kind _ _ _ c.class_of.ensures c.requires c.set.ensures w.from).1 (w.cell, w.takes.0));
}

pub seen-set-requires : goal.seen-set-requires
seen-set-requires c =
    let cell = c.take_lowest-cell.result in
    ((going-are c.args.board.now c.args.side c.args.kind _ _ _ c.class_of.ensures c.requires c.set.ensures cell).0 (c.units.invariant.left cell c.take_lowest-cell.ensures.there)).0

pub units-preserved : goal.units-preserved
units-preserved c =
    let inv = c.units.invariant in
    let cell = c.take_lowest-cell.result in
    let e = c.take_lowest-cell.ensures in
    let (here, unit) = (going-are c.args.board.now c.args.side c.args.kind _ _ _ c.class_of.ensures c.requires c.set.ensures cell).0 (inv.left cell e.there) in
    let or = λ (j : ℕ). Has-or c.units.set c.seen-set.result j in
    record {
      left = λ i h. inv.left i ((e.rest i).0 h).0;
      set = λ j h. elim ((or j).0 h) [
        | inl old ↦ inv.set j old
        | inr new ↦ let w = (c.seen-set.ensures j).0 new in record { from = cell; cell = here; to = w.0; takes = (unit, w.1) }
      ];
      all = λ j w. elim (inv.all j w) [
        | inr old ↦ inr ((or j).1 (inl old))
        | inl waits ↦ elim (cases_eq w.from cell) [
          | inl same ↦ inr ((or j).1 (inr ((c.seen-set.ensures j).1 (w.to, subst (λ x. Aims c.args.board.now (record { side = c.args.side; kind = c.args.kind }) (place_in x) (place_in j)) same w.takes.1))))
          | inr other ↦ inl ((e.rest w.from).1 (waits, other))
        ]
      ];
    }

pub returns : goal.returns
returns c = λ j. (
  c.units.invariant.set j,
  λ w. elim (c.units.invariant.all j w) [
    | inl waits ↦ absurd (Has-zero w.from (subst (λ x. Has x w.from) c.units-test.false waits))
    | inr set ↦ set
  ],
)
