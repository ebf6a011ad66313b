use Rattle.std.proofs.Common.{List, ℕ, get_or, subst, sym}
use Rattle.rules.specs.Squares.{Ply}
use Rattle.solutions.specs.Lines.{ListsContinuations}
use Rattle.solution_text.specs.Cut.{IsBeginning}
use Rattle.solution_text.proofs.Common.{Contains-get_or}
use Rattle.composing.specs.Claims.{writing_of}
use Rattle.composing.specs.Parts.{naming}
use Rattle.composing.proofs.WholeFormLemmas.{beginning_failed, solution_ends, solution_wanting}
use Rattle.composing.proofs.whole_form.write_parts.Goals as goal

pub write_keys-requires-clause-keys : goal.write_keys-requires-clause-keys
write_keys-requires-clause-keys g c =
    let r = c.args.asked.now.root in
    let keys = c.as_slice.result.now in
    let lists = subst (ListsContinuations r.goal r.board r.limit) (sym c.as_slice.ensures.value) c.in_ok-text.ensures.beginning.1 in
    λ k d below. (lists.exact (get_or keys k d)).0 (Contains-get_or keys k d below)

pub returns-in_err-text : goal.returns-in_err-text
returns-in_err-text g c =
    solution_wanting c.args.asked.now (g.K.Sink.contents c.args.writer.now) (g.K.Sink.failures c.args.writer.now) c.from_residual.result c.from_residual.ensures

pub returns-in_err-write_all : goal.returns-in_err-write_all
returns-in_err-write_all g c =
    let asked = c.args.asked.now in
    let keys = c.in_ok-text.field-0.keys.items in
    let begins = subst (λ (text : List ℕ). IsBeginning (naming asked) asked.root.board asked.root.limit asked.style.extras keys text) (sym c.as_bytes.ensures.value) c.in_ok-text.ensures.beginning in
    beginning_failed asked keys c.as_bytes.result.now begins (writing_of g.K.Sink.contents g.K.Sink.failures c.args.writer.now c.write_all.new.writer) c.from_residual-in_err-write_all.result
    (c.in_err-write_all.ensures.beginning, c.in_err-write_all.ensures.err) c.from_residual-in_err-write_all.ensures

pub returns : goal.returns
returns g c =
    let asked = c.args.asked.now in
    let begins = subst (λ (at : List Ply × List ℕ). IsBeginning (naming asked) asked.root.board asked.root.limit asked.style.extras at.0 at.1)
    (λ i. (sym c.as_slice.ensures.value i, sym c.as_bytes.ensures.value i)) c.in_ok-text.ensures.beginning in
    solution_ends asked c.as_slice.result.now c.as_bytes.result.now begins _ _ _ _ _ _ c.write_keys.result (c.in_ok-write_all.ensures.all, c.in_ok-write_all.ensures.ok) c.write_keys.ensures
