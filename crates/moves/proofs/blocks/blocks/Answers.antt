use Rattle.moves.proofs.Common.{◌≡◌, All, take, inl, inr, refl, subst, arith, bit_or, take_all, All-more, All-contains, Way, WAYS, Has-or}
use Rattle.moves.proofs.Pinning.{ways-all}
use Rattle.moves.proofs.Blocking.{HoldsBetween, HasBlocks-way}
use Rattle.moves.proofs.blocks.blocks.Goals as goal

pub loop-way-init : goal.loop-way-init
loop-way-init c = ((c.single-set.ensures c.args.checker).1 refl, λ k d h. absurd (omega (arith, h)))

pub loop-way-preserved : goal.loop-way-preserved
loop-way-preserved c = (
  (Has-or c.loop-way.set c.between-set.result c.args.checker).1 (inl c.loop-way.invariant.0),
  All-more (λ (way : Way). HoldsBetween c.args.board.now c.args.king c.args.checker (bit_or c.loop-way.set c.between-set.result) way) _ _ _ (omega arith)
      (λ k d h r j s. (Has-or c.loop-way.set c.between-set.result j).1 (inl (c.loop-way.invariant.1 k d h r j s)))
      (λ r j s. (Has-or c.loop-way.set c.between-set.result j).1 (inr (c.between-set.ensures r j s))),
)

pub returns : goal.returns
returns c =
    let b = c.args.board.now in
    let all : take c.loop-way.way-index WAYS ≡ WAYS = take_all _ WAYS (omega arith) in
    let held : All (λ (way : Way). HoldsBetween b c.args.king c.args.checker c.loop-way.set way) WAYS = subst (All (λ (way : Way). HoldsBetween b c.args.king c.args.checker c.loop-way.set way)) all c.loop-way.invariant.1 in
    HasBlocks-way b c.requires.position c.args.king c.args.checker c.requires.cell c.requires.from c.requires.king c.requires.check c.loop-way.set c.loop-way.invariant.0
    (λ way. All-contains (λ (w : Way). HoldsBetween b c.args.king c.args.checker c.loop-way.set w) WAYS way held (ways-all way))
