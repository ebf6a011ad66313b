use Rattle.std.proofs.Common.{◌∙◌, ap, sym}
use Rattle.verifying.proofs.Common.{IfOk-weaker, words_line}
use Rattle.verifying.proofs.Refused.{answer_found, no_words_found, words_found}
use Rattle.verifying.proofs.checker.Checker.part_behind.Goals as goal

pub returns-in-First-clause-reads : goal.returns-in-First-clause-reads
returns-in-First-clause-reads g c =
    let it = c.args.self.now in
    let told = c.in-Some.ensures in
    answer_found it.goal it.board c.args.line.now it.part it.claims c.begun.new.claims c.in-Some.answer c.in_ok-part.part c.in-First.is told.range told.named told.text c.in_ok-part.ensures.part c.in_ok-part.ensures.made

pub returns-then-not-branch-clause-reads : goal.returns-then-not-branch-clause-reads
returns-then-not-branch-clause-reads g c =
    let it = c.args.self.now in
    no_words_found it.goal it.board c.args.line.now it.part it.claims it.claims c.in_default.not-First (c.in_ok-read_words.ensures.refuses c.if-not-branch.true)

pub returns-clause-reads : goal.returns-clause-reads
returns-clause-reads g c =
    let it = c.args.self.now in
    IfOk-weaker c.shown.result _ _ (λ found h. words_found it.goal it.board c.args.line.now it.part it.claims c.shown.new.claims found c.as_slice-words.result.now c.in_default.not-First
    (c.in_ok-read_words.ensures.read c.if-not-branch.false ∙ ap words_line (sym c.as_slice-words.ensures.value)) c.requires.short h) c.shown.ensures
