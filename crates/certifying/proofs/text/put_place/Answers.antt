use Rattle.std.proofs.Common.{arith, ap, ◌∷◌, ◌++◌, ◌∙◌, ◌/◌, ℕ, []}
use Rattle.certifying.proofs.Fifties.{no_fifty, fifty_more, letter_after}
use Rattle.certifying.proofs.text.put_place.Goals as goal

pub loop-init : goal.loop-init
loop-init c = no_fifty c.args.text.now.items

pub loop-preserved : goal.loop-preserved
loop-preserved c = fifty_more c.args.text.now.items c.loop.text.items c.push.new.self.items c.loop.counter c.loop.invariant c.in_ok-push.ensures.items

pub returns : goal.returns
returns c = letter_after c.args.text.now.items c.loop.text.items c.push-2.new.self.items c.loop.counter (c.args.number / 50) _ c.loop.invariant
    (omega (arith, c.loop-test.false, c.loop.auto.counter-end))
    (c.in_ok-push-2.ensures.items ∙ ap (λ (x : ℕ). c.loop.text.items ++ x ∷ []) c.letter_of.ensures)
