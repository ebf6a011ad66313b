use Rattle.std.proofs.Common.{refl}
use Rattle.composing.proofs.WholeFormLemmas.{solved_failed, solved_wanting, solved_whole}
use Rattle.composing.proofs.running.write_solved.Goals as goal

pub returns-in-Ok-clause-writes : goal.returns-in-Ok-clause-writes
returns-in-Ok-clause-writes g c =
    solved_whole c.args.solved.asked (g.K.Sink.contents c.args.writer.now) (g.K.Sink.contents c.write_solution.new.writer) (g.K.Sink.failures c.args.writer.now)
    (g.K.Sink.failures c.write_solution.new.writer) 0 c.in-Ok.field-0 c.in-Ok.ensures refl

pub returns-in-Err-NoMemory-clause-writes : goal.returns-in-Err-NoMemory-clause-writes
returns-in-Err-NoMemory-clause-writes g c =
    solved_wanting c.args.solved.asked (g.K.Sink.contents c.args.writer.now) (g.K.Sink.contents c.write_solution.new.writer) (g.K.Sink.failures c.args.writer.now)
    (g.K.Sink.failures c.write_solution.new.writer) c.refuse_and_tell.result (g.K.Sink.contents c.refuse_and_tell.new.writer) (g.K.Sink.failures c.refuse_and_tell.new.writer)
    (rw c.in-Err-NoMemory.field-0-is at c.in-Err-NoMemory.ensures) (rw c.search_refused-refused.ensures at c.refuse_and_tell.ensures.refuses)

pub returns-in-Err-WriteFailed-clause-writes : goal.returns-in-Err-WriteFailed-clause-writes
returns-in-Err-WriteFailed-clause-writes g c =
    solved_failed c.args.solved.asked (g.K.Sink.contents c.args.writer.now) (g.K.Sink.contents c.write_solution.new.writer) (g.K.Sink.failures c.args.writer.now)
    (g.K.Sink.failures c.write_solution.new.writer) c.fail_to_write.result (rw c.in-Err-WriteFailed.field-0-is at c.in-Err-WriteFailed.ensures) c.fail_to_write.ensures
