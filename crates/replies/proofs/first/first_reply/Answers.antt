use Rattle.std.proofs.Common.{inl, inr, rules, ◌∙◌}
use Rattle.refusals.specs.Outcome.{IsSoundText}
use Rattle.replies.proofs.FirstLemmas.{first_at_text, missed_at_text}
use Rattle.replies.proofs.first.first_reply.Goals as goal

pub returns-clause-shown : goal.returns-clause-shown
returns-clause-shown g c =
    let sound : IsSoundText c.args.played.now.fen.now c.in_ok-position.position = search rules in
    first_at_text c.args.played.now c.args.goal c.args.limits c.in_ok-position.position c.on-root.result c.first_shown.result sound
    c.on-root.ensures.goal (c.on-root.ensures.position ∙ c.of.ensures) c.first_shown.ensures.shown

pub returns-clause-silent : goal.returns-clause-silent
returns-clause-silent g c =
    let sound : IsSoundText c.args.played.now.fen.now c.in_ok-position.position = search rules in
    elim c.first_shown.ensures.silent [
      | inl misses ↦ inl (missed_at_text c.args.played.now c.args.goal c.args.limits c.in_ok-position.position c.on-root.result sound
          c.on-root.ensures.goal (c.on-root.ensures.position ∙ c.of.ensures) misses)
      | inr same ↦ inr same
    ]
