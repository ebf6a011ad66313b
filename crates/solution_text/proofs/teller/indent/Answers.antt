use Rattle.std.proofs.Common.{◌≡◌, ◌++◌, codes, ap, sym, ◌∙◌, add-one, arith}
use Rattle.solution_text.specs.WholeText.{indent}
use Rattle.solution_text.proofs.teller.indent.Goals as goal

pub loop-told-preserved : goal.loop-told-preserved
loop-told-preserved g c = c.in_ok-push_str.ensures.bytes ∙ ap (λ t. t ++ codes "  ") c.loop-told.invariant ∙ sym (ap indent (add-one c.loop-told.told))

pub returns : goal.returns
returns g c = c.loop-told.invariant ∙ ap indent (let end : c.loop-told.told ≡ c.args.number = omega (arith, c.loop-told-test.false, c.loop-told.auto.told-end) in end)
