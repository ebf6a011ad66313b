use Rattle.moves.proofs.Common.{All, inl, inr, subst, arith, Way, bit_or, take_all, All-more, Has, Has-or, Has-zero}
use Rattle.moves.specs.Pinned.{HoldsPins}
use Rattle.moves.proofs.pinned.pinned_on.Goals as goal

pub returns-then-riders-eq0 : goal.returns-then-riders-eq0
returns-then-riders-eq0 c = λ k d lt i r taken has to_unit to_rider. absurd (Has-zero r (subst (λ n. Has n r) c.if-riders-eq0.true has))

pub loop-way-preserved : goal.loop-way-preserved
loop-way-preserved c =
    All-more (λ (way : Way). HoldsPins c.args.board.now c.args.riders c.args.cell (bit_or c.loop-way.set c.pinned_along-set.result) way) _ _ _ (omega arith)
    (λ k d h i r taken has to_unit to_rider. (Has-or c.loop-way.set c.pinned_along-set.result i).1 (inl (c.loop-way.invariant k d h i r taken has to_unit to_rider)))
    (λ i r taken has to_unit to_rider. (Has-or c.loop-way.set c.pinned_along-set.result i).1 (inr (c.pinned_along-set.ensures i r taken has to_unit to_rider)))

pub returns : goal.returns
returns c = subst (All (λ (way : Way). HoldsPins c.args.board.now c.args.riders c.args.cell c.loop-way.set way)) (take_all _ c.args.ways.now (omega arith)) c.loop-way.invariant
