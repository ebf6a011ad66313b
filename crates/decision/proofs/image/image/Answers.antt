use Rattle.laws.proofs.Forced.{Forces-turned, Forces-back}
use Rattle.decision.specs.Turned.{turn_of}
use Rattle.decision.proofs.image.image.Goals as goal

pub returns : goal.returns
returns c = let t = turn_of c.least-turning.result in let q = c.args.q in let well = c.in-Some.ensures in λ n. (
  Forces-turned n t q.goal q.attacker q.position c.in-Some.position well.turned well.may,
  Forces-back n t q.goal q.attacker q.position c.in-Some.position well.turned well.may,
)
