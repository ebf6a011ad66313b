use Rattle.std.proofs.Common.{false, arith, sym, ◌∙◌}
use Rattle.std.proofs.lemmas.Bool.{false≢true}
use Rattle.problems.proofs.LastPlies.{own_two_of, other_one_of, other_three_of}
use Rattle.decision.proofs.leaf.short_leaf.Goals as goal

pub returns-then-own : goal.returns-then-own
returns-then-own c = own_two_of c.args.q.now c.args.n c.wins_at_once.result (sym c.is_own_turn-own.ensures ∙ c.if-own.true) (omega (arith, c.if-n-eq0.false)) (omega (arith, c.requires)) c.wins_at_once.ensures

pub returns-then-n-eq1 : goal.returns-then-n-eq1
returns-then-n-eq1 c = other_one_of c.args.q.now c.args.n c.answer_now-then-n-eq1.result (sym c.is_own_turn-own.ensures ∙ c.if-own.false) (omega (arith, c.if-n-eq1.true)) c.answer_now-then-n-eq1.ensures

pub returns-then-is_refuted_again : goal.returns-then-is_refuted_again
returns-then-is_refuted_again c =
    other_three_of c.args.q.now c.args.n false (sym c.is_own_turn-own.ensures ∙ c.if-own.false) (omega (arith, c.if-n-eq0.false, c.if-n-eq1.false)) (omega (arith, c.requires))
    (λ is. absurd (false≢true is), λ forced. absurd (c.is_refuted_again.ensures c.if-is_refuted_again.true forced))

pub returns : goal.returns
returns c = other_three_of c.args.q.now c.args.n c.loses_by_own_list.result (sym c.is_own_turn-own.ensures ∙ c.if-own.false) (omega (arith, c.if-n-eq0.false, c.if-n-eq1.false)) (omega (arith, c.requires)) c.loses_by_own_list.ensures
