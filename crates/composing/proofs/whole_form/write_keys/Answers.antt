use Rattle.std.proofs.Common.{arith, subst, sym}
use Rattle.problems.specs.Answer.{Wins}
use Rattle.composing.proofs.WholeFormLemmas.{key_more, keys_done, keys_end, no_keys}
use Rattle.composing.proofs.whole_form.write_keys.Goals as goal

pub loop-key-init : goal.loop-key-init
loop-key-init g c = no_keys c.args.asked.now c.args.keys.now (g.K.Sink.contents c.args.writer.now) (g.K.Sink.failures c.args.writer.now)

pub write_key-requires-clause-key : goal.write_key-requires-clause-key
write_key-requires-clause-key g c =
    let r = c.args.asked.now.root in
    subst (Wins r.goal r.board r.limit) (sym c.key-item.is) (c.requires.keys c.loop-key.key-index c.key-item.result c.loop-key-test.true)

pub write_key-requires-clause-writes : goal.write_key-requires-clause-writes
write_key-requires-clause-writes g c = omega (arith, c.requires.writes, c.loop-key.invariant.2.1)

pub loop-key-preserved : goal.loop-key-preserved
loop-key-preserved g c =
    key_more c.args.asked.now c.args.keys.now _ _ _ _ _ _ c.loop-key.key-index c.key-item.result c.loop-key-test.true c.key-item.is c.loop-key.invariant c.in_ok-write_key.ensures

pub returns-in_err-write_key : goal.returns-in_err-write_key
returns-in_err-write_key g c =
    keys_end c.args.asked.now c.args.keys.now _ _ _ _ _ _ c.loop-key.key-index c.key-item.result c.loop-key-test.true c.key-item.is c.in_err-write_key.field-0.0 c.from_residual.result
    c.loop-key.invariant c.in_err-write_key.ensures c.from_residual.ensures

pub returns : goal.returns
returns g c = keys_done c.args.asked.now c.args.keys.now tt c.loop-key.key-index _ c.loop-key-test.false c.loop-key.invariant
