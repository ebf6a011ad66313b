use Rattle.std.proofs.Common.{arith}
use Rattle.std.proofs.lemmas.Bool.{leb-true, le-leb}
use Rattle.verifying.proofs.Making.{looked_through, claimed_so_many, claimed_anew}
use Rattle.verifying.proofs.no_claims.resists.Goals as goal

pub returns-then-plies-le-LEAF : goal.returns-then-plies-le-LEAF
returns-then-plies-le-LEAF g c = looked_through c.args.goal c.args.position.now c.args.plies c.args.claims.now c.is_forced_within.result (omega arith) c.is_forced_within.ensures

pub returns-in-Some : goal.returns-in-Some
returns-in-Some g c =
    claimed_so_many c.args.goal c.args.position.now c.args.plies c.args.claims.now c.in-Some.claimed _ (omega arith)
    (leb-true c.args.plies c.in-Some.claimed, le-leb c.args.plies c.in-Some.claimed) c.in-Some.ensures c.requires

pub returns-in_ok-push-in-None : goal.returns-in_ok-push-in-None
returns-in_ok-push-in-None g c = claimed_anew c.args.goal c.args.position.now c.args.plies c.args.claims.now c.push.new.self (omega arith) c.in-None.ensures c.in_ok-push-in-None.ensures.ok
