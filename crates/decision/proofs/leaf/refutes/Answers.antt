use Rattle.std.proofs.Common.{false, not, sym, ap, ◌∙◌, arith}
use Rattle.std.proofs.lemmas.Bool.{false≢true}
use Rattle.problems.proofs.Tried.{passes_other, cut_after}
use Rattle.decision.proofs.Below.{ends_it}
use Rattle.decision.proofs.leaf.refutes.Goals as goal

pub wins_at_once-requires : goal.wins_at_once-requires
wins_at_once-requires c = passes_other c.args.q.now c.in-Some.next c.args.m c.in-Some.ensures c.requires

pub returns : goal.returns
returns c = λ yes forced.
    let cut = cut_after c.args.q.now 1 false c.args.m c.in-Some.next c.in-Some.ensures (λ f. false≢true (sym (ap not (c.wins_at_once.ensures.1 f)) ∙ yes)) in
    false≢true ((ends_it c.args.q.now 2 false (sym c.requires) (omega arith) cut).1 forced)
