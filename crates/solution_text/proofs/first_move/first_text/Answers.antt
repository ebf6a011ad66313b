use Rattle.std.proofs.Common.{Option, sym, subst, ◌∙◌, string_bytes}
use Rattle.solution_text.proofs.Common.{IfOk-weaker, Goal, IsPlayedText}
use Rattle.solution_text.specs.declared.posed.Posed.{Posed}
use Rattle.problems.specs.Answer.{Wins}
use Rattle.solutions.specs.Whole.{key}
use Rattle.std.proofs.lemmas.Bool.{false≢true}
use Rattle.problems.proofs.Jobs.{move_at, got_at, lawful_job}
use Rattle.solutions.proofs.Lists.{job_wins}
use Rattle.solution_text.proofs.First.{first_told}
use Rattle.solution_text.proofs.first_move.first_text.Goals as goal

pub played_text-requires-clause-key : goal.played_text-requires-clause-key
played_text-requires-clause-key g c =
    let r = c.args.root.now in
    let m = c.index-deref-from.result in
    let is = move_at r.moves.items c.deref.result.now c.from.result c.args.job m c.deref.ensures.0 c.from.ensures c.index-deref-from.is in
    job_wins r r.limit c.args.job m (got_at r.moves.items c.args.job m c.requires.job.1 is) (c.in-Some.ensures.wins.0 c.if-wins.true)

pub returns-then-wins-clause-goes : goal.returns-then-wins-clause-goes
returns-then-wins-clause-goes g c = g.met.D.Decider.goes_on _ _ _ c.wins.ensures.goes c.played_text.ensures.goes

pub returns-then-wins-clause-first : goal.returns-then-wins-clause-first
returns-then-wins-clause-first g c =
    let r = c.args.root.now in
    let m = c.index-deref-from.result in
    let notation = c.args.teller.now.notation in
    let is = move_at r.moves.items c.deref.result.now c.from.result c.args.job m c.deref.ensures.0 c.from.ensures c.index-deref-from.is in
    let at = got_at r.moves.items c.args.job m c.requires.job.1 is in
    let wins = subst (λ (x : Goal). Wins x r.board r.limit m) (sym c.requires.goal) (job_wins r r.limit c.args.job m at (c.in-Some.ensures.wins.0 c.if-wins.true)) in
    IfOk-weaker c.played_text.result _ _ (λ text (then, played, told). (
      m,
      at,
      first_told notation r.goal r.board r.limit m (string_bytes text) c.requires.goal c.requires.fewest
          (key then, (wins, played), subst (λ (set : Option Posed). IsPlayedText notation set r.board (m, then) (string_bytes text)) c.requires.set told),
    )) c.played_text.ensures.key

pub missed_text-requires-clause-first : goal.missed_text-requires-clause-first
missed_text-requires-clause-first g c =
    let r = c.args.root.now in
    let m = c.index-deref-from.result in
    let is = move_at r.moves.items c.deref.result.now c.from.result c.args.job m c.deref.ensures.0 c.from.ensures c.index-deref-from.is in
    lawful_job r.board r.moves.items c.requires.job.0 c.args.job m c.requires.job.1 is

pub missed_text-requires-clause-no_key : goal.missed_text-requires-clause-no_key
missed_text-requires-clause-no_key g c =
    let r = c.args.root.now in
    let m = c.index-deref-from.result in
    let is = move_at r.moves.items c.deref.result.now c.from.result c.args.job m c.deref.ensures.0 c.from.ensures c.index-deref-from.is in
    λ wins. false≢true (sym c.if-wins.false ∙ c.in-Some.ensures.wins.1 (m, got_at r.moves.items c.args.job m c.requires.job.1 is, wins))

pub returns-else-wins-clause-goes : goal.returns-else-wins-clause-goes
returns-else-wins-clause-goes g c = g.met.D.Decider.goes_on _ _ _ c.wins.ensures.goes c.missed_text.ensures.goes

pub returns-else-wins-clause-first : goal.returns-else-wins-clause-first
returns-else-wins-clause-first g c =
    let r = c.args.root.now in
    let m = c.index-deref-from.result in
    let notation = c.args.teller.now.notation in
    let is = move_at r.moves.items c.deref.result.now c.from.result c.args.job m c.deref.ensures.0 c.from.ensures c.index-deref-from.is in
    let at = got_at r.moves.items c.args.job m c.requires.job.1 is in
    IfOk-weaker c.missed_text.result _ _ (λ text told. (m, at, first_told notation r.goal r.board r.limit m (string_bytes text) c.requires.goal c.requires.fewest told)) c.missed_text.ensures.first
