use Rattle.std.proofs.Common.{subst, sym}
use Rattle.composing.specs.Claims.{writing_of}
use Rattle.composing.specs.Parts.{TellsLines}
use Rattle.composing.proofs.WholeFormLemmas.{text_failed, text_wanting}
use Rattle.composing.proofs.whole_form.write_key.Goals as goal

pub returns-in_err-lines : goal.returns-in_err-lines
returns-in_err-lines g c =
    text_wanting (TellsLines c.args.asked.now c.args.key) c.from_residual.result (g.K.Sink.contents c.args.writer.now) (g.K.Sink.failures c.args.writer.now) c.from_residual.ensures

pub returns-in_err-write_all : goal.returns-in_err-write_all
returns-in_err-write_all g c =
    text_failed (TellsLines c.args.asked.now c.args.key) c.from_residual-in_err-write_all.result (writing_of g.K.Sink.contents g.K.Sink.failures c.args.writer.now c.write_all.new.writer)
    c.as_bytes.result.now (subst (TellsLines c.args.asked.now c.args.key) (sym c.as_bytes.ensures.value) c.in_ok-lines.ensures.key)
    (c.in_err-write_all.ensures.beginning, c.in_err-write_all.ensures.err) c.from_residual-in_err-write_all.ensures

pub returns : goal.returns
returns g c =
    (c.as_bytes.result.now, subst (TellsLines c.args.asked.now c.args.key) (sym c.as_bytes.ensures.value) c.in_ok-lines.ensures.key, (c.in_ok-write_all.ensures.all, c.in_ok-write_all.ensures.ok))
