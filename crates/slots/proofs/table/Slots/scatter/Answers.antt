use Rattle.std.proofs.Common.{refl, ap, ◌∙◌, [], ◌∷◌}
use Rattle.slots.proofs.Common.{View, Writing, halfway}
use Rattle.slots.proofs.Along.{along_first, along_next}
use Rattle.slots.proofs.table.Slots.scatter.Goals as goal

pub write-requires-2-clause-half : goal.write-requires-2-clause-half
write-requires-2-clause-half g c = let half = c.requires.half in let e = c.write.ensures.step.1 half.0 half.1 [] half.2 in
    (half.0, half.1, c.args.first ∷ [], ap (λ (v : View). v.half) e, ap (λ (v : View). v.slot) e ∙ half.3, refl)

pub write-requires-3-clause-half : goal.write-requires-3-clause-half
write-requires-3-clause-half g c = let half = c.requires.half in let e = c.write.ensures.step.1 half.0 half.1 [] half.2 in
    let e' = c.write-2.ensures.step.1 half.0 half.1 (c.args.first ∷ []) (ap (λ (v : View). v.half) e) in
    (half.0, half.1, c.args.first ∷ c.args.second ∷ [], ap (λ (v : View). v.half) e', ap (λ (v : View). v.slot) e' ∙ (ap (λ (v : View). v.slot) e ∙ half.3), refl)

pub returns-clause-half : goal.returns-clause-half
returns-clause-half g c = λ at stood is.
    let v : View = c.args.seat.now.me.0 in
    let there = c.requires.half.3 in
    let one = along_first c.args.slot (Writing at stood (c.args.first ∷ [])) v c.write.new.seat.me.0 (c.write.ensures.step.1 at stood [] is ∙ (λ j. halfway (there j) (Writing at stood (c.args.first ∷ [])) v)) in
    let two = along_next c.args.slot 1 (Writing at stood (c.args.first ∷ [])) (Writing at stood (c.args.first ∷ c.args.second ∷ [])) v c.write.new.seat.me.0 c.write-2.new.seat.me.0 one (c.write-2.ensures.step.1 at stood (c.args.first ∷ []) one.half) in
    along_next c.args.slot 2 (Writing at stood (c.args.first ∷ c.args.second ∷ [])) (Writing at stood (c.args.first ∷ c.args.second ∷ c.args.third ∷ [])) v c.write-2.new.seat.me.0 c.write-3.new.seat.me.0 two (c.write-3.ensures.step.1 at stood (c.args.first ∷ c.args.second ∷ []) two.half)
