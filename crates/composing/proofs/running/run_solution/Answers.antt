use Rattle.std.proofs.Common.{◌∙◌, ℕ, List, Vec, Err, ap, inl, inr, subst, sym}
use Rattle.std.specs.declared.alloc.Global.{Global}
use Rattle.problems.specs.Answer.{IsFewest}
use Rattle.problems.specs.Roots.{IsRoot}
use Rattle.endings.specs.Run.{Finishes, ending_of}
use Rattle.composing.specs.Parts.{WritesAsked}
use Rattle.composing.specs.declared.whole_form.Solved.{Solved}
use Rattle.composing.specs.Solution.{IsSolutionReply}
use Rattle.composing.proofs.SolutionLemmas.{asked_fewest, asked_ran, text_ran, told_asked}
use Rattle.endings.proofs.EndingLemmas.{reply_ran}
use Rattle.composing.proofs.running.run_solution.Goals as goal

pub returns-in-Ok-Text-clause-runs : goal.returns-in-Ok-Text-clause-runs
returns-in-Ok-Text-clause-runs g c =
    let ending = ending_of g.K.Sink.contents g.K.Sink.failures c.args.writer.now c.finish.new.writer c.finish.result in
    text_ran c.args.subject.now c.args.asked.1 c.args.asked.0 c.in-Ok-Text.field-0 c.in-Ok-Text.text ending c.in-Ok-Text.field-0-is c.in-Ok-Text.ensures
    (subst (λ (l : List ℕ). Finishes ending l 0) (c.as_slice.ensures.value ∙ ap (λ (v : Vec ℕ Global). v.items) c.in-Ok-Text.text-is) c.finish.ensures.written)

pub returns-in-Ok-Text-clause-silent : goal.returns-in-Ok-Text-clause-silent
returns-in-Ok-Text-clause-silent g c = elim c.finish.ensures.silent [
  | inl failed ↦ inl (inr failed)
  | inr same ↦ elim c.tell_if_over.ensures [
    | inl over ↦ inr (inl over)
    | inr kept ↦ inr (inr (same ∙ kept))
  ]
]

pub write_solved-requires-clause-root : goal.write_solved-requires-clause-root
write_solved-requires-clause-root g c =
    let (none, b, sound, is) = told_asked c.args.subject.now c.args.asked.1 c.args.asked.0 c.in-Ok-Told.field-0 c.in-Ok-Told.solved c.in-Ok-Told.field-0-is c.in-Ok-Told.ensures in
    subst (λ (s : Solved). IsRoot s.asked.root) (sym c.in-Ok-Told.solved-is) is.root

pub write_solved-requires-clause-fewest : goal.write_solved-requires-clause-fewest
write_solved-requires-clause-fewest g c =
    let (none, b, sound, is) = told_asked c.args.subject.now c.args.asked.1 c.args.asked.0 c.in-Ok-Told.field-0 c.in-Ok-Told.solved c.in-Ok-Told.field-0-is c.in-Ok-Told.ensures in
    subst (λ (s : Solved). IsFewest s.asked.root.goal s.asked.root.board s.asked.root.limit) (sym c.in-Ok-Told.solved-is)
    (asked_fewest c.args.subject.now.goal b c.args.asked.1 c.args.asked.0 c.in-Ok-Told.solved.asked is)

pub returns-in-Ok-Told-clause-runs : goal.returns-in-Ok-Told-clause-runs
returns-in-Ok-Told-clause-runs g c =
    let (none, b, sound, is) = told_asked c.args.subject.now c.args.asked.1 c.args.asked.0 c.in-Ok-Told.field-0 c.in-Ok-Told.solved c.in-Ok-Told.field-0-is c.in-Ok-Told.ensures in
    let ending = ending_of g.K.Sink.contents g.K.Sink.failures c.args.writer.now c.write_solved.new.writer c.write_solved.result in
    asked_ran c.args.subject.now c.args.asked.1 c.args.asked.0 b sound c.in-Ok-Told.solved.asked none is ending
    (subst (λ (s : Solved). WritesAsked s.asked ending) c.in-Ok-Told.solved-is c.write_solved.ensures.writes)

pub returns-in-None-clause-runs : goal.returns-in-None-clause-runs
returns-in-None-clause-runs g c =
    inl (reply_ran (IsSolutionReply c.args.subject.now c.args.asked.1 c.args.asked.0) _ (Err c.in-Err.refusal) c.in-Err.ensures
    (rw c.search_refused-refused.ensures at c.refuse_and_tell.ensures.refuses))

pub returns-in-Some-clause-runs : goal.returns-in-Some-clause-runs
returns-in-Some-clause-runs g c =
    inl (reply_ran (IsSolutionReply c.args.subject.now c.args.asked.1 c.args.asked.0) _ (Err c.in-Err.refusal) c.in-Err.ensures c.refuse_move.ensures.refuses)
