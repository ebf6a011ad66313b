use Rattle.std.proofs.Common.{◌∙◌, refl, arith}
use Rattle.batches.specs.BatchRun.{step_of}
use Rattle.input_lines.specs.Lines.{left_of}
use Rattle.batches.proofs.BatchLemmas.{kept_first, kept_more, lines_end, lines_stop}
use Rattle.batches.proofs.batch.answer_lines.Goals as goal

pub loop-init : goal.loop-init
loop-init g c = record {
  crew = refl;
  run = c.requires.run;
  same = refl;
  reads = refl;
  writes = refl;
  kept = kept_first c.args.run.now.batch c.args.run.now.number (left_of c.args.run.now.unread (g.S.Source.remaining c.args.reader.now)) (g.K.Sink.contents c.args.writer.now);
}

pub loop-preserved : goal.loop-preserved
loop-preserved g c =
    let so_far = c.loop.invariant in
    let step = rw c.in-Ok-true.field-0-test at c.in-Ok-true.ensures.step in
    let (line, text, feeds, taken, reply, grown, none) = step in
    record {
      crew = c.answer_next.ensures.crew ∙ so_far.crew;
      run = c.answer_next.ensures.run;
      same = c.answer_next.ensures.same ∙ so_far.same;
      reads = omega (arith, none.0, so_far.reads);
      writes = omega (arith, none.1, so_far.writes);
      kept = kept_more c.args.run.now.batch c.loop.run.batch c.args.run.now.number c.answer_next.new.run.number (left_of c.args.run.now.unread (g.S.Source.remaining c.args.reader.now))
          (step_of c.loop.run c.answer_next.new.run g.S.Source.remaining g.S.Source.failures c.loop.reader c.answer_next.new.reader
          g.K.Sink.contents g.K.Sink.failures c.loop.writer c.answer_next.new.writer)
          (g.K.Sink.contents c.args.writer.now) so_far.same c.answer_next.ensures.counts so_far.kept step;
    }

pub returns-in-Ok-false : goal.returns-in-Ok-false
returns-in-Ok-false g c =
    let so_far = c.loop.invariant in
    record {
      lines = lines_end c.args.run.now.batch c.loop.run.batch c.args.run.now.number (left_of c.args.run.now.unread (g.S.Source.remaining c.args.reader.now))
          (step_of c.loop.run c.answer_next.new.run g.S.Source.remaining g.S.Source.failures c.loop.reader c.answer_next.new.reader
          g.K.Sink.contents g.K.Sink.failures c.loop.writer c.answer_next.new.writer)
          (g.K.Sink.contents c.args.writer.now) (g.S.Source.failures c.args.reader.now) (g.K.Sink.failures c.args.writer.now) so_far.same so_far.reads so_far.writes
          so_far.kept (rw c.in-Ok-false.field-0-test at c.in-Ok-false.ensures.step);
    }

pub returns-in-Err : goal.returns-in-Err
returns-in-Err g c =
    let so_far = c.loop.invariant in
    record {
      lines = lines_stop c.args.run.now.batch c.loop.run.batch c.args.run.now.number (left_of c.args.run.now.unread (g.S.Source.remaining c.args.reader.now))
          (step_of c.loop.run c.answer_next.new.run g.S.Source.remaining g.S.Source.failures c.loop.reader c.answer_next.new.reader
          g.K.Sink.contents g.K.Sink.failures c.loop.writer c.answer_next.new.writer)
          (g.K.Sink.contents c.args.writer.now) (g.S.Source.failures c.args.reader.now) (g.K.Sink.failures c.args.writer.now) c.in-Err.stop so_far.same so_far.reads so_far.writes
          so_far.kept c.in-Err.ensures.step;
    }
