use Rattle.std.proofs.Common.{◌∙◌, inl, inr, rules, subst}
use Rattle.board.specs.Board.{PlainBoard}
use Rattle.rules.specs.declared.goal.Goal.{Goal}
use Rattle.algebraic.specs.declared.symbols.Symbols.{Symbols}
use Rattle.refusals.specs.Outcome.{IsSoundText}
use Rattle.refusals.specs.Reply.{answered, refused}
use Rattle.composing.specs.Solution.{ShowsFirstNamed}
use Rattle.composing.proofs.SolutionLemmas.{first_refused, first_reply, solution_at_text}
use Rattle.composing.proofs.problem.solution_reply.Goals as goal

pub returns-in-None : goal.returns-in-None
returns-in-None g c =
    let sound : IsSoundText c.args.subject.now.fen.now c.in_ok-position.position = search rules in
    solution_at_text c.args.subject.now c.args.options c.args.limits c.in_ok-position.position sound c.solution_at.result c.in-None.is c.solution_at.ensures

pub returns-in_ok-text-in-Some : goal.returns-in_ok-text-in-Some
returns-in_ok-text-in-Some g c =
    let sound : IsSoundText c.args.subject.now.fen.now c.in_ok-position.position = search rules in
    let reply = answered c.in_ok-text-in-Some.text.items in
    first_reply c.args.subject.now c.args.options c.args.limits c.in_ok-position.position sound c.in-Some.name reply c.in-Some.is
    (subst (λ (x : Symbols × Goal × PlainBoard). ShowsFirstNamed x.0 x.1 x.2 c.args.limits c.in-Some.name.now reply)
    (λ i. ((c.notation_of-symbols.ensures i).symbols, c.on-root.ensures.goal i, (c.on-root.ensures.position ∙ c.of.ensures) i)) c.in_ok-text-in-Some.ensures)

pub returns-in_err-text-in-Some : goal.returns-in_err-text-in-Some
returns-in_err-text-in-Some g c =
    let sound : IsSoundText c.args.subject.now.fen.now c.in_ok-position.position = search rules in
    let why = c.in_err-text-in-Some.field-0.0 in
    first_refused c.args.subject.now c.args.options c.args.limits why c.from_residual-in_err-text-in-Some.result
    (elim c.in_err-text-in-Some.ensures [
      | inl none ↦ inl none
      | inr shows ↦ inr (first_reply c.args.subject.now c.args.options c.args.limits c.in_ok-position.position sound c.in-Some.name (refused why) c.in-Some.is
          (subst (λ (x : Symbols × Goal × PlainBoard). ShowsFirstNamed x.0 x.1 x.2 c.args.limits c.in-Some.name.now (refused why))
          (λ i. ((c.notation_of-symbols.ensures i).symbols, c.on-root.ensures.goal i, (c.on-root.ensures.position ∙ c.of.ensures) i)) shows))
    ]) c.from_residual-in_err-text-in-Some.ensures
