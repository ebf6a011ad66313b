use Rattle.std.proofs.Common.{arith}
use Rattle.verifying.proofs.Failing.{listed_item}
use Rattle.certifying.proofs.certificate.named.Goals as goal

pub returns : goal.returns
returns c =
    listed_item c.args.q.now.position c.lawful_on-moves.result.items c.as_slice-2.result.now c.place_of-place.result c.index-as_slice-place.result c.lawful_on-moves.ensures c.as_slice-2.ensures.value
    (omega (arith, c.if-len-place.false, c.len.ensures.value)) c.index-as_slice-place.is
