use Rattle.std.proofs.Common.{ℕ, refl, arith, subst, true}
use Rattle.input_lines.specs.Lines.{left_of}
use Rattle.batches.specs.BatchRun.{PassesOver}
use Rattle.batches.proofs.BatchLemmas.{passed_all, passed_first, passed_more}
use Rattle.batches.proofs.batch.pass_over.Goals as goal

pub loop-init : goal.loop-init
loop-init g c = record {
  bounds = c.requires.bounds;
  reads = refl;
  passed = passed_first (left_of c.args.unread.now (g.S.Source.remaining c.args.reader.now));
}

pub loop-preserved : goal.loop-preserved
loop-preserved g c = record {
  bounds = c.next_line.ensures.bounds;
  reads = omega (arith, c.in_ok-taken.ensures.counts, c.loop.invariant.reads);
  passed = passed_more c.loop.counter (left_of c.args.unread.now (g.S.Source.remaining c.args.reader.now)) _ _ c.in_ok-taken.taken
      c.if-taken.false c.loop.invariant.passed c.in_ok-taken.ensures.takes;
}

pub returns-then-taken-clause-passes : goal.returns-then-taken-clause-passes
returns-then-taken-clause-passes g c =
    passed_all c.args.count c.loop.counter (left_of c.args.unread.now (g.S.Source.remaining c.args.reader.now)) _ _ c.in_ok-taken.taken
    c.loop-test.true c.if-taken.true c.loop.invariant.passed c.in_ok-taken.ensures.takes

pub returns-clause-passes : goal.returns-clause-passes
returns-clause-passes g c =
    subst (λ (n : ℕ). PassesOver n (left_of c.args.unread.now (g.S.Source.remaining c.args.reader.now)) (left_of c.loop.unread (g.S.Source.remaining c.loop.reader)) true)
    (omega (arith, c.loop-test.false, c.loop.auto.counter-end)) c.loop.invariant.passed
