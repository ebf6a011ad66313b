use Rattle.std.proofs.Common.{◌∙◌, List, ℕ, subst, sym}
use Rattle.verifying.specs.Checking.{TakesMore}
use Rattle.composing.specs.Claims.{writing_of}
use Rattle.composing.proofs.CertifyLemmas.{adds_one, ends_cut, ends_refused, ends_whole}
use Rattle.composing.proofs.certificate.write_next.Goals as goal

pub returns-in_err-line : goal.returns-in_err-line
returns-in_err-line g c =
    ends_refused c.args.certificate.now.checker c.next_line.new.self.checker c.next_line.new.self.certificate (g.K.Sink.contents c.args.writer.now) (g.K.Sink.failures c.args.writer.now)
    c.in_err-line.field-0.0 c.from_residual.result c.in_err-line.ensures.refuses c.from_residual.ensures

pub returns-in_default : goal.returns-in_default
returns-in_default g c = ends_whole c.args.certificate.now.checker (g.K.Sink.contents c.args.writer.now) (g.K.Sink.failures c.args.writer.now) (rw c.in_default.is at c.in_ok-line.ensures.whole)

pub returns-in_err-write_all : goal.returns-in_err-write_all
returns-in_err-write_all g c =
    let words = rw c.in-Some.is at c.in_ok-line.ensures.words in
    ends_cut c.args.certificate.now.checker c.next_line.new.self.checker c.next_line.new.self.certificate (writing_of g.K.Sink.contents g.K.Sink.failures c.args.writer.now c.write_all.new.writer) c.from_residual-in_err-write_all.result c.as_slice.result.now words.0
    (c.as_slice.ensures.value ∙ words.1) c.in_err-write_all.ensures.beginning c.in_err-write_all.ensures.err c.from_residual-in_err-write_all.ensures

pub returns : goal.returns
returns g c =
    let words = rw c.in-Some.is at c.in_ok-line.ensures.words in
    let takes = rw c.in-Some.is at c.in_ok-line.ensures.takes in
    adds_one c.args.certificate.now.checker c.next_line.new.self.checker (writing_of g.K.Sink.contents g.K.Sink.failures c.args.writer.now c.write_all.new.writer) c.as_slice.result.now words.0
    (c.as_slice.ensures.value ∙ words.1) (subst (λ (l : List ℕ). TakesMore c.args.certificate.now.checker c.next_line.new.self.checker l) (sym c.as_slice.ensures.value) takes)
    c.in_ok-write_all.ensures.all c.in_ok-write_all.ensures.ok
