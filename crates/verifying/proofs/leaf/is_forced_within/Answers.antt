use Rattle.std.proofs.Common.{arith}
use Rattle.problems.proofs.LastPlies.{own_two_of}
use Rattle.verifying.proofs.Common.{question, same_side-self}
use Rattle.verifying.proofs.leaf.is_forced_within.Goals as goal

pub returns-then-plies-lt3 : goal.returns-then-plies-lt3
returns-then-plies-lt3 c =
    let b = c.args.board.now in
    own_two_of (question b b.mover c.args.goal) c.args.plies c.reaches_at_once.result (same_side-self b.mover) (omega (arith, c.if-plies-eq0.false)) (omega (arith, c.if-plies-lt3.true)) c.reaches_at_once.ensures
