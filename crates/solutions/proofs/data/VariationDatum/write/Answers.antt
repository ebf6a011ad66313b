use Rattle.json_data.proofs.Written.{begun, ended, wrote}
use Rattle.solutions.proofs.data.VariationDatum.write.Goals as goal

pub returns : goal.returns
returns g c =
    let r = c.end_object.result in
    begun r _ _ (wrote c.in_ok-begin_object.ensures)
    (begun r _ _ c.in_ok-member.ensures (begun r _ _ c.in_ok-member-2.ensures (begun r _ _ c.in_ok-member-3.ensures (begun r _ _ c.in_ok-member-4.ensures (ended r c.end_object.ensures)))))
