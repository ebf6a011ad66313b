use Rattle.std.proofs.Common.{arith}
use Rattle.verifying.proofs.Failing.{listed_at, place_in}
use Rattle.verifying.proofs.listed.move_at.Goals as goal

pub returns-then-place-len : goal.returns-then-place-len
returns-then-place-len c = λ m at. let within = place_in c.args.board.now c.lawful_on-moves.result.items c.args.place m c.lawful_on-moves.ensures at in omega (arith, within, c.if-place-len.true, c.len.ensures.value)

pub returns : goal.returns
returns c = listed_at c.args.board.now c.lawful_on-moves.result.items c.as_slice.result.now c.args.place c.index-as_slice-place.result c.lawful_on-moves.ensures c.as_slice.ensures.value (omega (arith, c.if-place-len.false, c.len.ensures.value)) c.index-as_slice-place.is
