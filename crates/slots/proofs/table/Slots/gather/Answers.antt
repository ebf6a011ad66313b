use Rattle.std.proofs.Common.{refl, ap, ◌∙◌, [], ◌∷◌}
use Rattle.slots.proofs.Common.{View, Reading, halfway}
use Rattle.slots.proofs.Along.{along_first, along_next}
use Rattle.slots.proofs.table.Slots.gather.Goals as goal

pub read-second-requires-clause-half : goal.read-second-requires-clause-half
read-second-requires-clause-half g c = let half = c.requires.half in let e = c.read-first.ensures.step.1 half.0 [] half.1 in
    (half.0, c.read-first.result ∷ [], ap (λ (v : View). v.half) e, ap (λ (v : View). v.slot) e ∙ half.2, refl)

pub read-third-requires-clause-half : goal.read-third-requires-clause-half
read-third-requires-clause-half g c = let half = c.requires.half in let e = c.read-first.ensures.step.1 half.0 [] half.1 in
    let e' = c.read-second.ensures.step.1 half.0 (c.read-first.result ∷ []) (ap (λ (v : View). v.half) e) in
    (half.0, c.read-first.result ∷ c.read-second.result ∷ [], ap (λ (v : View). v.half) e', ap (λ (v : View). v.slot) e' ∙ (ap (λ (v : View). v.slot) e ∙ half.2), refl)

pub returns-clause-half : goal.returns-clause-half
returns-clause-half g c = λ at is.
    let v : View = c.args.seat.now.me.0 in
    let there = c.requires.half.2 in
    let one = along_first c.args.slot (Reading at (c.read-first.result ∷ [])) v c.read-first.new.seat.me.0 (c.read-first.ensures.step.1 at [] is ∙ (λ j. halfway (there j) (Reading at (c.read-first.result ∷ [])) v)) in
    let two = along_next c.args.slot 1 (Reading at (c.read-first.result ∷ [])) (Reading at (c.read-first.result ∷ c.read-second.result ∷ [])) v c.read-first.new.seat.me.0 c.read-second.new.seat.me.0 one (c.read-second.ensures.step.1 at (c.read-first.result ∷ []) one.half) in
    along_next c.args.slot 2 (Reading at (c.read-first.result ∷ c.read-second.result ∷ [])) (Reading at (c.read-first.result ∷ c.read-second.result ∷ c.read-third.result ∷ [])) v c.read-second.new.seat.me.0 c.read-third.new.seat.me.0 two (c.read-third.ensures.step.1 at (c.read-first.result ∷ c.read-second.result ∷ []) two.half)
