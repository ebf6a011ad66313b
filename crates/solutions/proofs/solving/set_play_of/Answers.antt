use Rattle.std.proofs.Common.{ℕ, Bool, Some, sym, subst}
use Rattle.solutions.proofs.Common.{PlainBoard, err_halts, IsWhereAsked, IsSetPlay, ListsVariations}
use Rattle.solutions.proofs.solving.set_play_of.Goals as goal

pub returns-in_default-clause-play : goal.returns-in_default-clause-play
returns-in_default-clause-play g c =
    subst (λ (asked : Bool). IsWhereAsked (λ list. IsSetPlay c.args.root.now.goal c.args.root.now.board c.args.plies list.items) asked (Some c.new.result)) (sym c.if-not-asked.false)
    (record { sound = λ sound. absurd (c.in_default.ensures sound); unsound = λ _. c.new.ensures.items })

pub returns-in_err-variations_of-clause-goes : goal.returns-in_err-variations_of-clause-goes
returns-in_err-variations_of-clause-goes g c = c.variations_of.ensures.goes

pub returns-in_err-variations_of-clause-halt : goal.returns-in_err-variations_of-clause-halt
returns-in_err-variations_of-clause-halt g c = err_halts c.from_residual.result _ _ c.from_residual.ensures.1 c.in_err-variations_of.ensures.halt

pub returns-clause-goes : goal.returns-clause-goes
returns-clause-goes g c = c.variations_of.ensures.goes

pub returns-clause-play : goal.returns-clause-play
returns-clause-play g c =
    let r = c.args.root.now in
    let list = c.in_ok-variations_of.field-0 in
    let lists = subst (λ (at : PlainBoard × ℕ). ListsVariations r.goal at.0 at.1 list.items) (λ i. (c.in-Some.ensures.0 i, c.saturating_sub-left.ensures i)) c.in_ok-variations_of.ensures.variations in
    subst (λ (asked : Bool). IsWhereAsked (λ list. IsSetPlay r.goal r.board c.args.plies list.items) asked (Some list)) (sym c.if-not-asked.false)
    (record { sound = λ _. lists; unsound = λ not. absurd (not c.in-Some.ensures.1) })
