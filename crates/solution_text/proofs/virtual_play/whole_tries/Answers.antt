use Rattle.std.proofs.Common.{Bool, List, All, sym, subst, ◌∙◌, string_bytes}
use Rattle.solution_text.proofs.Common.{Goal, IsTry, ListsTries, TellsTries}
use Rattle.solutions.specs.declared.first_try.Try.{Try}
use Rattle.solution_text.proofs.Played.{tries_none, tries_told}
use Rattle.solution_text.proofs.virtual_play.whole_tries.Goals as goal

pub played_tries-requires-clause-tries : goal.played_tries-requires-clause-tries
played_tries-requires-clause-tries g c =
    let r = c.args.root.now in
    subst (λ list. All (IsTry r.goal r.board r.limit) list) (sym c.as_slice-tries.ensures.value) c.in_ok-found.ensures.tries.each

pub returns-then-is_empty-clause-tries : goal.returns-then-is_empty-clause-tries
returns-then-is_empty-clause-tries g c =
    let r = c.args.root.now in
    let notation = c.args.teller.now.notation in
    let text = string_bytes c.in_ok-format.field-0 in
    let lists = subst (λ (at : Goal × List Try). ListsTries at.0 r.board r.limit at.1) (λ i. (sym c.requires.goal i, sym c.as_slice-tries.ensures.value i)) c.in_ok-found.ensures.tries in
    subst (λ (asked : Bool). TellsTries notation r.board r.limit asked text) (sym c.if-not-asked.false)
    (tries_none notation r.board r.limit c.as_slice-tries.result.now text lists (sym c.is_empty.ensures ∙ c.if-is_empty.true) c.in_ok-format.ensures.ok)

pub returns-clause-tries : goal.returns-clause-tries
returns-clause-tries g c =
    let r = c.args.root.now in
    let notation = c.args.teller.now.notation in
    let text = string_bytes c.in_ok-format-2.field-0 in
    let lists = subst (λ (at : Goal × List Try). ListsTries at.0 r.board r.limit at.1) (λ i. (sym c.requires.goal i, sym c.as_slice-tries.ensures.value i)) c.in_ok-found.ensures.tries in
    subst (λ (asked : Bool). TellsTries notation r.board r.limit asked text) (sym c.if-not-asked.false)
    (tries_told notation r.board r.limit c.as_slice-tries.result.now (string_bytes c.in_ok-lines.lines) text lists (sym c.is_empty.ensures ∙ c.if-is_empty.false) c.in_ok-lines.ensures.tries c.in_ok-format-2.ensures.ok)
