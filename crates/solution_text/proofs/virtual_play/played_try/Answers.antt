use Rattle.std.proofs.Common.{sym, subst}
use Rattle.solution_text.proofs.Common.{IfOk-weaker, Goal, IsTry}
use Rattle.solution_text.proofs.First.{try_lawful}
use Rattle.solution_text.proofs.virtual_play.played_try.Goals as goal

pub refuted_text-requires-clause-replies : goal.refuted_text-requires-clause-replies
refuted_text-requires-clause-replies g c =
    let r = c.args.root.now in
    try_lawful r.goal r.board r.limit c.args.first_try c.requires.first_try

pub returns-clause-first_try : goal.returns-clause-first_try
returns-clause-first_try g c =
    let r = c.args.root.now in
    let tried = subst (λ (x : Goal). IsTry x r.board r.limit c.args.first_try) (sym c.requires.goal) c.requires.first_try in
    IfOk-weaker c.refuted_text.result _ _ (λ text told. (told.0, (tried, told.1), told.2)) c.refuted_text.ensures.refuted
