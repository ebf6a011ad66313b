use Rattle.std.proofs.Common.{inl, inr, refl, arith}
use Rattle.std.proofs.KnownBytes.{Appends-nil}
use Rattle.command_line.specs.declared.line.Order.TheVariants.{Certify, Solution}
use Rattle.composing.proofs.running.run.Goals as goal

pub returns-in-Err-Words-clause-runs : goal.returns-in-Err-Words-clause-runs
returns-in-Err-Words-clause-runs g c =
    let words = c.in-Err-Words in
    inl (words.ensures.refused words.field-0-is, (refl, Appends-nil _, omega arith))

pub returns-in-Ok-Certify-clause-silent : goal.returns-in-Ok-Certify-clause-silent
returns-in-Ok-Certify-clause-silent g c =
    let one = c.in-Ok-Certify in
    elim c.run_certify.ensures.silent [
      | inl told ↦ inl told
      | inr rest ↦ elim rest [
        | inl over ↦ inr (inl (Certify one.subject one.limits, rw one.field-0-is at one.ensures.order, over))
        | inr same ↦ inr (inr same)
      ]
    ]

pub returns-in-Ok-Solution-clause-silent : goal.returns-in-Ok-Solution-clause-silent
returns-in-Ok-Solution-clause-silent g c =
    let one = c.in-Ok-Solution in
    elim c.run_solution.ensures.silent [
      | inl told ↦ inl told
      | inr rest ↦ elim rest [
        | inl over ↦ inr (inl (Solution one.subject one.limits one.options, rw one.field-0-is at one.ensures.order, over))
        | inr same ↦ inr (inr same)
      ]
    ]
