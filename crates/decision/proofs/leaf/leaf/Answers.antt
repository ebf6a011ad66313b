use Rattle.std.proofs.Common.{arith, sym, ◌∙◌}
use Rattle.problems.proofs.LastPlies.{other_three_of}
use Rattle.decision.proofs.leaf.leaf.Goals as goal

pub returns-then-not-own : goal.returns-then-not-own
returns-then-not-own c = other_three_of c.args.q.now c.args.n c.loses_in_two.result (sym c.is_own_turn-own.ensures ∙ c.if-not-own.true) (omega (arith, c.if-n-lt2.false)) c.requires c.loses_in_two.ensures
