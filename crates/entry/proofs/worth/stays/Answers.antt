use Rattle.std.proofs.Common.{ℕ, ◌<◌, ◌↔◌, IsTrue, nat_lt, subst, sym, ◌∙◌}
use Rattle.entry.proofs.Common.{false≢true, weight}
use Rattle.entry.proofs.Decided.{lt_decides}
use Rattle.entry.proofs.Preferred.{stays_same, stays_other}
use Rattle.entry.proofs.worth.stays.Goals as goal

pub returns-then-same_key-clause-packings : goal.returns-then-same_key-clause-packings
returns-then-same_key-clause-packings c = λ r e p q.
    stays_same c.args.old c.args.new c.in-Some.stands c.in-Some-interval_of.comes c.in-Some.ensures.entry c.in-Some-interval_of.ensures.entry c.says_all.result r e p q (c.same_key.ensures.0 c.if-same_key.true) c.says_all.ensures

pub returns-else-same_key-clause-packings : goal.returns-else-same_key-clause-packings
returns-else-same_key-clause-packings c = λ r e p q.
    stays_other c.args.old c.args.new c.in-Some.stands c.in-Some-interval_of.comes c.in-Some.ensures.entry c.in-Some-interval_of.ensures.entry (nat_lt c.weight.result c.weight-else-same_key.result) r e p q (λ k. false≢true (sym c.if-same_key.false ∙ c.same_key.ensures.1 k))
    (subst (λ (z : ℕ × ℕ). IsTrue (nat_lt z.0 z.1) ↔ (weight c.in-Some-interval_of.comes < weight c.in-Some.stands)) (λ k. (sym c.weight.ensures k, sym c.weight-else-same_key.ensures k)) (lt_decides (weight c.in-Some-interval_of.comes) (weight c.in-Some.stands)))
