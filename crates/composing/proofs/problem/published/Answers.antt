use Rattle.std.proofs.Common.{List, ℕ, ap, subst, sym, vec_items}
use Rattle.composing.specs.Solution.{IsPublished}
use Rattle.composing.proofs.problem.published.Goals as goal

pub returns-in-Ok : goal.returns-in-Ok
returns-in-Ok c = subst (λ (text : List ℕ). IsPublished c.args.root.now.goal c.args.root.now.board c.args.options c.args.sooner text) (sym (ap vec_items c.into_bytes.ensures.value)) c.in-Ok.ensures.text
