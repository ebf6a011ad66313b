use Rattle.std.proofs.Common.{string_bytes, subst}
use Rattle.solution_text.proofs.Common.{Notation}
use Rattle.solution_text.specs.Cut.{IsBeginning}
use Rattle.solution_text.proofs.beginning.whole_beginning.Goals as goal

pub returns-in-Ok-clause-beginning : goal.returns-in-Ok-clause-beginning
returns-in-Ok-clause-beginning g c =
    let r = c.args.root.now in
    let beginning = c.in-Ok.beginning in
    subst (λ (n : Notation). IsBeginning n r.board r.limit c.args.style.extras beginning.keys.items (string_bytes beginning.text)) c.teller_of-teller.ensures.notation
    c.in-Ok.ensures.beginning
