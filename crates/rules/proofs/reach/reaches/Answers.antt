use Rattle.std.proofs.Common.{◌≡◌, take, refl, subst, sym, arith, ◌∙◌}
use Rattle.rules.proofs.Common.{false≢true, take_all, All-more, terms_of, ListsSteps, IsPlayed, ReachesBy}
use Rattle.rules.proofs.Listed.{goes_at, reached_at, not_reached}
use Rattle.rules.proofs.reach.reaches.Goals as goal

pub reaches_by-requires-clause-goes : goal.reaches_by-requires-clause-goes
reaches_by-requires-clause-goes c =
    let listed : ListsSteps (terms_of c.args.unit.kind) c.as_slice-step-items.result.now = rw c.as_slice-step-items.ensures.value c.in-Some.ensures.steps in
    goes_at c.args.position.now c.args.unit c.args.from c.args.to c.args.target _ listed _ _ (omega arith)

pub returns-then-reaches_by : goal.returns-then-reaches_by
returns-then-reaches_by c =
    let listed : ListsSteps (terms_of c.args.unit.kind) c.as_slice-step-items.result.now = rw c.as_slice-step-items.ensures.value c.in-Some.ensures.steps in
    (λ _. reached_at c.args.position.now c.args.unit c.args.from c.args.to c.args.target _ listed _ _ (omega arith) (subst (λ g. IsPlayed g c.args.unit.kind) c.requires.game ((c.in-Some.ensures.played).0 refl)) (c.reaches_by.ensures.0 c.if-reaches_by.true), λ _. refl)

pub loop-step-preserved : goal.loop-step-preserved
loop-step-preserved c = All-more (λ s. ReachesBy c.args.position.now c.args.unit s c.args.from c.args.to c.args.target → ⊥) _ _ _ (omega arith) c.loop-step.invariant (λ r. false≢true (sym c.if-reaches_by.false ∙ c.reaches_by.ensures.1 r))

pub returns : goal.returns
returns c =
    let steps = c.as_slice-step-items.result.now in
    let listed : ListsSteps (terms_of c.args.unit.kind) steps = rw c.as_slice-step-items.ensures.value c.in-Some.ensures.steps in
    let all : take c.loop-step.step-index steps ≡ steps = take_all _ steps (omega arith) in
    (λ e. absurd (false≢true e), λ r. absurd (not_reached c.args.position.now c.args.unit c.args.from c.args.to c.args.target steps listed (rw all at c.loop-step.invariant) r))
