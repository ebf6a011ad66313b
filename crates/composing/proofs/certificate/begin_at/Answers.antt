use Rattle.std.proofs.Common.{◌∙◌, [], ◌∷◌, ◌++◌, ap, subst, vec_items}
use Rattle.board.specs.Board.{PlainBoard}
use Rattle.verifying.specs.Checking.{HasTakenText}
use Rattle.verifying.specs.FirstLine.{first_line}
use Rattle.composing.proofs.CertifyLemmas.{answer_named, answer_ranged, begun_at}
use Rattle.composing.proofs.certificate.begin_at.Goals as goal

pub behind-requires-clause-range : goal.behind-requires-clause-range
behind-requires-clause-range g c = answer_ranged c.args.goal c.args.position.now c.args.limits c.in_ok-found.found.answer c.in_ok-found.ensures.0 c.in_ok-found.ensures.1

pub behind-requires-clause-named : goal.behind-requires-clause-named
behind-requires-clause-named g c = answer_named c.args.goal c.args.position.now c.args.limits.limit c.in_ok-found.found.answer c.in_ok-found.ensures.1

pub returns : goal.returns
returns g c =
    let answer = c.in_ok-found.found.answer in
    begun_at c.args.goal c.args.position.now c.args.limits answer _ c.in_ok-found.ensures.0 c.in_ok-found.ensures.1 (ap vec_items c.into_bytes-line.ensures.value ∙ c.in_ok-answer_text.ensures)
    (subst (λ (p : PlainBoard). HasTakenText c.args.goal p c.in_ok-checker.checker (first_line c.args.goal answer ++ 10 ∷ [])) c.of.ensures c.in_ok-checker.ensures)
