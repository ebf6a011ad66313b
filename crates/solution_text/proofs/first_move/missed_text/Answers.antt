use Rattle.std.proofs.Common.{◌≡◌, ℕ, ◌-◌, List, sym, subst, ◌∙◌, arith}
use Rattle.solution_text.proofs.Common.{IfOk-weaker, PlainBoard, Goal, Ply, IsMove, IsLawful, one_after, ListsMoves, Refutes, IsVirtualPlay, LeavesReplies}
use Rattle.problems.specs.Answer.{Wins}
use Rattle.solutions.specs.Whole.{refuted, stalemate}
use Rattle.std.proofs.lemmas.Bool.{false≢true}
use Rattle.solution_text.proofs.Breaks.{err_halted}
use Rattle.solution_text.proofs.First.{misses, stalemates, refutations_lawful}
use Rattle.solution_text.proofs.first_move.missed_text.Goals as goal

pub returns-in_err-format-clause-goes : goal.returns-in_err-format-clause-goes
returns-in_err-format-clause-goes g c = g.met.D.Decider.goes_at_once _

pub returns-then-not-has_lawful_move-clause-goes : goal.returns-then-not-has_lawful_move-clause-goes
returns-then-not-has_lawful_move-clause-goes g c = g.met.D.Decider.goes_at_once _

pub returns-in_err-refutations-clause-halt : goal.returns-in_err-refutations-clause-halt
returns-in_err-refutations-clause-halt g c = err_halted c.from_residual-in_err-refutations.result _ _ c.from_residual-in_err-refutations.ensures.1 c.in_err-refutations.ensures.halt

pub returns-then-not-has_lawful_move-clause-first : goal.returns-then-not-has_lawful_move-clause-first
returns-then-not-has_lawful_move-clause-first g c =
    let r = c.args.root.now in
    let q = c.after-next.result in
    let aim = c.args.teller.now.notation.goal in
    let no_key = subst (λ (x : Goal). Wins x r.board r.limit c.args.first → ⊥) (sym c.requires.goal) c.requires.no_key in
    let none : (m : Ply) → IsLawful q m → ⊥ = (λ m lawful. false≢true (sym c.if-not-has_lawful_move.true ∙ c.has_lawful_move.ensures.1 (m, lawful))) in (
      stalemate,
      (q, c.after-next.ensures, stalemates aim r.board r.limit c.args.first q c.after-next.ensures no_key none, misses aim r.board r.limit c.args.first q c.after-next.ensures no_key),
      (c.name-name.result, c.name-name.ensures, c.in_ok-format.ensures.ok),
    )

pub refuted_text-requires-clause-replies : goal.refuted_text-requires-clause-replies
refuted_text-requires-clause-replies g c =
    let r = c.args.root.now in
    let q = c.after-next.result in
    subst (λ (replies : List Ply). LeavesReplies r.board c.args.first replies) (sym c.as_slice.ensures.value)
    (refutations_lawful r.goal r.board c.saturating_sub-left.result c.args.first q c.in_ok-refutations.refutations.items c.after-next.ensures
    (c.has_lawful_move.ensures.0 c.if-not-has_lawful_move.false) c.in_ok-refutations.ensures.refutations)

pub returns-clause-goes : goal.returns-clause-goes
returns-clause-goes g c = g.met.D.Decider.goes_on _ _ _ c.refutations_of.ensures.goes c.refuted_text.ensures.goes

pub returns-clause-first : goal.returns-clause-first
returns-clause-first g c =
    let r = c.args.root.now in
    let b = r.board in
    let q = c.after-next.result in
    let m = c.args.first in
    let aim = c.args.teller.now.notation.goal in
    let no_key = subst (λ (x : Goal). Wins x b r.limit m → ⊥) (sym c.requires.goal) c.requires.no_key in
    let left : c.saturating_sub-left.result ≡ r.limit - 2 = omega (arith, c.saturating_sub-left.ensures) in
    let lists = subst (λ (at : Goal × ℕ × List Ply). ListsMoves q.game (Refutes at.0 q at.1) at.2) (λ i. (sym c.requires.goal i, left i, sym c.as_slice.ensures.value i)) c.in_ok-refutations.ensures.refutations in
    let some = c.has_lawful_move.ensures.0 c.if-not-has_lawful_move.false in
    IfOk-weaker c.refuted_text.result _ _ (λ text (then, (p, move, virtual), told).
    let is = subst (λ (x : PlainBoard). IsMove b m x × IsVirtualPlay aim x (r.limit - 2) then) (one_after b m p q move c.after-next.ensures) (move, virtual) in
    (refuted then c.as_slice.result.now, (no_key, (q, is.0, some, is.1, lists)), told)) c.refuted_text.ensures.refuted
