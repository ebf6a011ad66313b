use Rattle.json_data.proofs.Written.{begun, wrote}
use Rattle.json_data.proofs.object.begin_problem.Goals as goal

pub returns : goal.returns
returns g c = begun c.member-2.result _ _ (wrote c.in_ok-begin_object.ensures) (begun c.member-2.result _ _ c.in_ok-member.ensures c.member-2.ensures)
