use Rattle.std.proofs.Common.{◌≤◌, List, ℕ, Option, IfSome, get_or, sym, subst, string_bytes}
use Rattle.solution_text.proofs.Common.{Contains-get_or, Goal, ListsContinuations, IsWholeSolution, TellsKeys, Notation, Ply}
use Rattle.solution_text.specs.declared.posed.Posed.{Posed}
use Rattle.solution_text.proofs.Told.{few_held}
use Rattle.solution_text.proofs.Parts.{all_told}
use Rattle.solution_text.proofs.whole_lines.lines_text.Goals as goal

pub plays_text-requires-clause-keys : goal.plays_text-requires-clause-keys
plays_text-requires-clause-keys g c =
    let r = c.args.root.now in
    let keys = c.as_slice.result.now in
    let goals = subst (λ (x : Goal). ListsContinuations x r.board r.limit c.in_ok-text.field-0.keys.items) c.requires.goal c.in_ok-text.ensures.beginning.1 in
    let lists = subst (ListsContinuations r.goal r.board r.limit) (sym c.as_slice.ensures.value) goals in
    λ k d below. (lists.exact (get_or keys k d)).0 (Contains-get_or keys k d below)

pub plays_text-requires-clause-set : goal.plays_text-requires-clause-set
plays_text-requires-clause-set g c =
    let r = c.args.root.now in
    subst (λ (set : Option Posed). IfSome set (λ posed. posed.plies ≤ 63)) (sym c.teller_of_keys-beside.ensures.set) (few_held r.board r.limit c.args.extras.set_play r.limited)

pub returns-in_err-format-clause-goes : goal.returns-in_err-format-clause-goes
returns-in_err-format-clause-goes g c = g.met.D.Decider.goes_on _ _ _ c.beginning_of.ensures.goes c.plays_text.ensures.goes

pub returns-clause-goes : goal.returns-clause-goes
returns-clause-goes g c = g.met.D.Decider.goes_on _ _ _ c.beginning_of.ensures.goes c.plays_text.ensures.goes

pub returns-clause-solution : goal.returns-clause-solution
returns-clause-solution g c =
    let r = c.args.root.now in
    let notation = c.args.teller.now.notation in
    let before = c.in_ok-text.field-0 in
    let lines = string_bytes c.in_ok-plays.plays in
    let beside = c.teller_of_keys-beside.ensures in
    let plays = subst (λ (at : Notation × Option Posed × List Ply). TellsKeys at.0 at.1 r.board r.limit at.2 lines) (λ i. (beside.notation i, beside.set i, c.as_slice.ensures.value i)) c.in_ok-plays.ensures.keys in
    let told = all_told notation r.board r.limit c.args.extras before.keys.items (string_bytes before.text) lines c.in_ok-text.ensures.beginning plays in
    subst (λ (x : Goal). IsWholeSolution notation.symbols x r.board c.args.extras (string_bytes c.in_ok-format.field-0)) c.requires.goal
    (subst (λ (text : List ℕ). IsWholeSolution notation.symbols notation.goal r.board c.args.extras text) (sym c.in_ok-format.ensures.ok) told)
