use Rattle.std.proofs.Common.{◌≡◌, ◌==◌, true, false, length, ℕ, Bool, Option, sym, subst, ◌∙◌, string_bytes}
use Rattle.solution_text.proofs.Common.{PlainBoard, TellsReplies, TellsSetPlay}
use Rattle.solution_text.specs.declared.posed.Posed.{Posed}
use Rattle.solution_text.proofs.Told.{no_set}
use Rattle.solution_text.proofs.Played.{set_play_empty, set_play_told, set_play_unsound}
use Rattle.solution_text.proofs.whole_lines.whole_set_play.Goals as goal

pub sequels_text-requires-clause-set : goal.sequels_text-requires-clause-set
sequels_text-requires-clause-set g c = no_set c.args.teller.now.set c.requires.set

pub returns-in_default-clause-set_play : goal.returns-in_default-clause-set_play
returns-in_default-clause-set_play g c =
    let r = c.args.root.now in
    let notation = c.args.teller.now.notation in
    subst (λ (asked : Bool). TellsSetPlay notation r.board r.limit asked (string_bytes c.in_ok-format.field-0)) (sym c.if-not-asked.false)
    (set_play_unsound notation r.board r.limit (string_bytes c.in_ok-format.field-0) c.in_default.ensures c.in_ok-format.ensures.ok)

pub returns-then-is_empty-clause-set_play : goal.returns-then-is_empty-clause-set_play
returns-then-is_empty-clause-set_play g c =
    let r = c.args.root.now in
    let notation = c.args.teller.now.notation in
    let lines = string_bytes c.in_ok-lines.lines in
    let told = subst (λ (at : ℕ × Option Posed × PlainBoard × ℕ). TellsReplies notation at.0 at.1 at.2 at.3 lines) (λ i. (c.requires.number i, c.requires.set i, c.in-Some.ensures.0 i, c.saturating_sub.ensures i)) c.in_ok-lines.ensures.replies in
    subst (λ (asked : Bool). TellsSetPlay notation r.board r.limit asked (string_bytes c.in_ok-format-2.field-0)) (sym c.if-not-asked.false)
    (set_play_empty notation r.board r.limit c.in-Some.ensures.1 lines (string_bytes c.in_ok-format-2.field-0) told (subst (λ l. (length l == 0) ≡ true) c.as_str.ensures.value (sym c.is_empty.ensures ∙ c.if-is_empty.true)) c.in_ok-format-2.ensures.ok)

pub returns-clause-set_play : goal.returns-clause-set_play
returns-clause-set_play g c =
    let r = c.args.root.now in
    let notation = c.args.teller.now.notation in
    let lines = string_bytes c.in_ok-lines.lines in
    let told = subst (λ (at : ℕ × Option Posed × PlainBoard × ℕ). TellsReplies notation at.0 at.1 at.2 at.3 lines) (λ i. (c.requires.number i, c.requires.set i, c.in-Some.ensures.0 i, c.saturating_sub.ensures i)) c.in_ok-lines.ensures.replies in
    subst (λ (asked : Bool). TellsSetPlay notation r.board r.limit asked (string_bytes c.in_ok-format-3.field-0)) (sym c.if-not-asked.false)
    (set_play_told notation r.board r.limit c.in-Some.ensures.1 lines (string_bytes c.in_ok-format-3.field-0) told (subst (λ l. (length l == 0) ≡ false) c.as_str.ensures.value (sym c.is_empty.ensures ∙ c.if-is_empty.false)) c.in_ok-format-3.ensures.ok)
