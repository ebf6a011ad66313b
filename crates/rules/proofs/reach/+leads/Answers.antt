use Rattle.std.proofs.Common.{◌≡◌, refl, sym, arith, ◌∙◌}
use Rattle.rules.proofs.Common.{false≢true, IsOnBoard, again}
use Rattle.rules.proofs.Rides.{Leads-nowhere, Leads-here, Leads-single, Leads-blocked, Leads-onward, place_eq, room_of-step, empty_from, taken_from}
use Rattle.rules.proofs.reach.+leads.Goals as goal
use Rattle.rules.proofs.reach.+leads.Goals.{then-not-step-via-then-not-step, then-not-step-via-else-not-step+then-is_some}

pub returns-in_default : goal.returns-in_default
returns-in_default t c =
    (λ e. absurd (false≢true e), λ l. absurd (Leads-nowhere _ _ _ _ _ (rw c.game.ensures.value at c.in_default.ensures) l))

pub returns-then-eq : goal.returns-then-eq
returns-then-eq t c =
    let e = c.in-Some.ensures in
    let same = (place_eq c.in-Some.square c.args.to c.eq.result c.eq.ensures).0 c.if-eq.true in
    (λ _. Leads-here _ _ _ _ c.in-Some.square _ (rw c.game.ensures.value at e.0) e.1 same, λ _. refl)

pub returns-then-not-step : goal.returns-then-not-step
returns-then-not-step t c =
    let e = c.in-Some.ensures in
    let other : c.in-Some.square ≡ c.args.to → ⊥ = λ same. false≢true (sym c.if-eq.false ∙ (place_eq c.in-Some.square c.args.to c.eq.result c.eq.ensures).1 same) in (
      λ e. absurd (false≢true e),
      λ l. absurd (elim c.then-not-step.branch [
        | then-not-step-via-then-not-step w ↦ Leads-single _ _ _ _ c.in-Some.square _ (rw c.game.ensures.value at e.0) e.1 other w.if-not-step.true l
        | then-not-step-via-else-not-step+then-is_some w ↦ Leads-blocked _ _ _ _ c.in-Some.square _ (rw c.game.ensures.value at e.0) e.1 other (taken_from w.unit_at.result _ w.is_some.result w.unit_at.ensures w.is_some.ensures w.if-is_some.true) l
      ]),
    )

pub leads-requires : goal.leads-requires
leads-requires t c =
    let e = c.in-Some.ensures in
    let on : IsOnBoard c.args.position.now.game c.in-Some.square = rw c.game.ensures.value at e.0 in
    let less = room_of-step _ c.args.side c.args.step.now c.args.from c.in-Some.square c.requires.on_board on e.1 c.requires.goes in
    (omega (arith, less), (on, c.requires.goes))

pub returns : goal.returns
returns t c =
    let e = c.in-Some.ensures in
    let other : c.in-Some.square ≡ c.args.to → ⊥ = λ same. false≢true (sym c.if-eq.false ∙ (place_eq c.in-Some.square c.args.to c.eq.result c.eq.ensures).1 same) in (
      λ h. again c.if-not-step.false (rw c.game.ensures.value at e.0) e.1 (empty_from c.unit_at.result _ c.is_some.result c.unit_at.ensures c.is_some.ensures c.if-is_some.false) (c.leads.ensures.0 h),
      λ l. c.leads.ensures.1 (Leads-onward _ _ _ _ c.in-Some.square _ (rw c.game.ensures.value at e.0) e.1 other l),
    )
