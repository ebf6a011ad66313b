use Rattle.std.proofs.Common.{◌∙◌, inl, inr, refl, arith}
use Rattle.std.proofs.KnownBytes.{Appends-nil}
use Rattle.command_line.specs.declared.line.Order.TheVariants.{One, TreeAfter}
use Rattle.replies.specs.First.{IsFirstReply}
use Rattle.endings.proofs.EndingLemmas.{reply_ran}
use Rattle.console.proofs.running.run.Goals as goal

pub returns-in-Err-Words-clause-runs : goal.returns-in-Err-Words-clause-runs
returns-in-Err-Words-clause-runs g c =
    let words = c.in-Err-Words in
    inl (words.ensures.refused words.field-0-is, (refl, Appends-nil _, omega arith))

pub returns-in-Ok-One-clause-silent : goal.returns-in-Ok-One-clause-silent
returns-in-Ok-One-clause-silent g c =
    let one = c.in-Ok-One in
    elim c.run_line_on.ensures.silent [
      | inl told ↦ inl told
      | inr rest ↦ elim rest [
        | inl over ↦ inr (inl (One one.line, rw one.field-0-is at one.ensures.order, over))
        | inr same ↦ inr (inr same)
      ]
    ]

pub returns-in-Ok-TreeAfter-clause-runs : goal.returns-in-Ok-TreeAfter-clause-runs
returns-in-Ok-TreeAfter-clause-runs g c =
    let one = c.in-Ok-TreeAfter in
    inr (inr (
      TreeAfter one.played one.goal one.limits,
      rw one.field-0-is at one.ensures.order,
      (omega arith, reply_ran (IsFirstReply one.played one.goal one.limits) _ c.first_reply-reply.result c.first_reply-reply.ensures.shown c.write_played.ensures.runs),
    ))

pub returns-in-Ok-TreeAfter-clause-silent : goal.returns-in-Ok-TreeAfter-clause-silent
returns-in-Ok-TreeAfter-clause-silent g c =
    let one = c.in-Ok-TreeAfter in
    elim c.first_reply-reply.ensures.silent [
      | inl misses ↦ inr (inl (TreeAfter one.played one.goal one.limits, rw one.field-0-is at one.ensures.order, misses))
      | inr untold ↦ elim c.write_played.ensures.silent [
        | inl told ↦ inl told
        | inr same ↦ inr (inr (same ∙ untold))
      ]
    ]
