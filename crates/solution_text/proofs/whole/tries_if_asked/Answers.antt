use Rattle.std.proofs.Common.{All, IfSome, subst, sym}
use Rattle.solutions.specs.Solutions.{IsTry}
use Rattle.solution_text.proofs.whole.tries_if_asked.Goals as goal

pub tries_text-requires : goal.tries_text-requires
tries_text-requires g c =
    let all = subst (λ tries. IfSome tries (λ list. All (IsTry c.args.notation.goal c.args.board.now c.requires.0) list.items)) c.in-Some.is c.requires.1 in
    (c.requires.0, subst (All (IsTry c.args.notation.goal c.args.board.now c.requires.0)) (sym c.as_slice.ensures.value) all)
