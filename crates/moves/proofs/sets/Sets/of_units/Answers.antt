use Rattle.moves.proofs.Common.{◌≡◌, ◌+◌, sym, subst, arith, squares_of, board_of, Sets, AreAdded, set_of}
use Rattle.moves.proofs.Packing.{none_where}
use Rattle.moves.proofs.Shown.{ShownBelow, HeldBelow-start, HeldBelow-none, HeldBelow-unit, HeldBelow-all}
use Rattle.moves.proofs.sets.Sets.of_units.Goals as goal
use Rattle.moves.proofs.sets.Sets.of_units.Goals.{in-Some, in_default}

pub loop-number-init : goal.loop-number-init
loop-number-init c = λ class. HeldBelow-start (board_of c.args.game c.args.mover c.args.units.now) class (set_of c.none-sets.result class) (c.none-sets.ensures class)

pub loop-number-preserved : goal.loop-number-preserved
loop-number-preserved c = elim c.match-units-number.branch [
  | in-Some w ↦
      let b = board_of c.args.game c.args.mover c.args.units.now in
      let added = subst (λ k. AreAdded c.loop-number.sets w.with-sets.result k w.in-Some.unit) w.cell_of-cell.ensures.value w.with-sets.ensures in
      subst (λ (x : Sets). ShownBelow b x (c.loop-number.number + 1)) (sym w.sets-is)
      (λ class. HeldBelow-unit b class (set_of c.loop-number.sets class) (set_of w.with-sets.result class) c.loop-number.number w.of_number.result w.in-Some.unit w.of_number.ensures.on_board w.of_number.ensures.number w.in-Some.is (added class) (c.loop-number.invariant class))
  | in_default w ↦
      let b = board_of c.args.game c.args.mover c.args.units.now in
      subst (λ (x : Sets). ShownBelow b x (c.loop-number.number + 1)) (sym w.sets-is)
      (λ class. HeldBelow-none b class (set_of c.loop-number.sets class) c.loop-number.number (none_where _ w.in_default.not-Some) (c.loop-number.invariant class))
]

pub returns : goal.returns
returns c = λ class.
    let at_end : c.loop-number.number ≡ squares_of c.args.game = let end = c.squares-number-end.ensures in omega arith in
    HeldBelow-all (board_of c.args.game c.args.mover c.args.units.now) class (set_of c.loop-number.sets class) c.loop-number.number at_end (c.loop-number.invariant class)
