use Rattle.std.proofs.Common.{List, ℕ, subst}
use Rattle.std.specs.Io.KnownBytes.{Appends}
use Rattle.devices.specs.Device.{AppendsBeginning}
use Rattle.composing.proofs.CertifyLemmas.{first_cut, whole_certificate, claims_cut, no_room, not_taken}
use Rattle.composing.proofs.running.write_begun.Goals as goal

pub returns-in-None-clause-writes : goal.returns-in-None-clause-writes
returns-in-None-clause-writes g c = λ b answer begins.
    whole_certificate c.args.subject.now.goal b answer c.args.begun begins _ _ _ _ _ _
    (subst (λ (l : List ℕ). Appends (g.K.Sink.contents c.args.writer.now) (g.K.Sink.contents c.write_all.new.writer) l) c.as_slice.ensures.value c.in-Ok.ensures.all)
    c.in-Ok.ensures.ok c.in-None.ensures

pub returns-in-Some-NoMemory-clause-writes : goal.returns-in-Some-NoMemory-clause-writes
returns-in-Some-NoMemory-clause-writes g c = λ b answer begins.
    no_room c.args.subject.now.goal b answer c.args.begun begins _ _ _ _ _ _
    (subst (λ (l : List ℕ). Appends (g.K.Sink.contents c.args.writer.now) (g.K.Sink.contents c.write_all.new.writer) l) c.as_slice.ensures.value c.in-Ok.ensures.all)
    c.in-Ok.ensures.ok _ _ _ (rw c.in-Some-NoMemory.field-0-is at c.in-Some-NoMemory.ensures) c.give_up_for_memory.ensures.written

pub returns-in-Some-Refused-clause-writes : goal.returns-in-Some-Refused-clause-writes
returns-in-Some-Refused-clause-writes g c = λ b answer begins.
    not_taken c.args.subject.now.goal b answer c.args.begun begins _ _ _ _ _ _
    (subst (λ (l : List ℕ). Appends (g.K.Sink.contents c.args.writer.now) (g.K.Sink.contents c.write_all.new.writer) l) c.as_slice.ensures.value c.in-Ok.ensures.all)
    c.in-Ok.ensures.ok _ _ _ c.in-Some-Refused.refusal c.write_all_claims.new.certificate.certificate (rw c.in-Some-Refused.field-0-is at c.in-Some-Refused.ensures) (rw c.proof_refused-why.ensures at c.refuse_and_tell.ensures.refuses)

pub returns-in-Ok-clause-writes : goal.returns-in-Ok-clause-writes
returns-in-Ok-clause-writes g c = λ b answer begins.
    claims_cut c.args.subject.now.goal b answer c.args.begun begins _ _ _ _ _ _
    (subst (λ (l : List ℕ). Appends (g.K.Sink.contents c.args.writer.now) (g.K.Sink.contents c.write_all.new.writer) l) c.as_slice.ensures.value c.in-Ok.ensures.all)
    c.in-Ok.ensures.ok _ c.fail_to_write.ensures (rw c.in-Some-WriteFailed.field-0-is at c.in-Some-WriteFailed.ensures)

pub returns-clause-writes : goal.returns-clause-writes
returns-clause-writes g c = λ b answer begins.
    first_cut c.args.subject.now.goal b answer c.args.begun begins _ _ (g.K.Sink.contents c.write_all.new.writer) _ _ 0 _ c.fail_to_write-in-Err.ensures
    (subst (λ (l : List ℕ). AppendsBeginning (g.K.Sink.contents c.args.writer.now) (g.K.Sink.contents c.write_all.new.writer) l) c.as_slice.ensures.value c.in-Err.ensures.beginning)
    c.in-Err.ensures.err
