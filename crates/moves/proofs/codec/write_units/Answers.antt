use Rattle.moves.proofs.Common.{◌≡◌, ◌+◌, refl, sym, subst, ◌∙◌, arith, squares_of, board_of}
use Rattle.moves.proofs.Packing.{IsPut, IsFilled, IsFilled-put, IsFilled-none, none_where, IsPacked-of, unpacked_of}
use Rattle.moves.proofs.codec.write_units.Goals as goal
use Rattle.moves.proofs.codec.write_units.Goals.{in-Some, in_default}

pub loop-square-preserved : goal.loop-square-preserved
loop-square-preserved c = elim c.match-units-square.branch [
  | in-Some w ↦
      let put : IsPut c.args.game c.loop-square.words w.put.new.words c.loop-square.square w.code_of.result =
      subst (λ n. IsPut c.args.game c.loop-square.words w.put.new.words n w.code_of.result) w.of_number-at.ensures.number (record { there = w.put.ensures.there; elsewhere = w.put.ensures.elsewhere }) in
      subst (λ x. IsFilled c.args.game c.flags_of-flags.result c.args.units.now x (c.loop-square.square + 1)) (sym w.words-is)
      (IsFilled-put _ _ c.args.units.now c.args.units.now _ _ c.loop-square.square w.code_of.result c.loop-square.square (c.loop-square.square + 1) put (w.code_of.ensures.value ∙ sym w.in-Some.is) w.code_of.ensures.code (omega arith) (omega arith) (λ k less other. (omega (arith, less, other), refl)) c.loop-square.invariant)
  | in_default w ↦
      subst (λ x. IsFilled c.args.game c.flags_of-flags.result c.args.units.now x (c.loop-square.square + 1)) (sym w.words-is)
      (IsFilled-none c.args.game c.flags_of-flags.result c.args.units.now c.loop-square.words c.loop-square.square (none_where _ w.in_default.not-Some) c.loop-square.invariant)
]

pub returns : goal.returns
returns c =
    let b = board_of c.args.game c.args.mover c.args.units.now in
    let f = c.flags_of-flags.ensures in
    let at_end : c.loop-square.square ≡ squares_of c.args.game = let end = c.squares-square-end.ensures in omega arith in
    let filled = subst (IsFilled c.args.game c.flags_of-flags.result c.args.units.now c.loop-square.words) at_end c.loop-square.invariant in
    record { value = unpacked_of b c.requires c.flags_of-flags.result _ f.flags f.game f.mover filled; packed = IsPacked-of b c.requires c.flags_of-flags.result _ f.flags f.game f.mover filled }
