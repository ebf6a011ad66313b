use Rattle.std.proofs.Common.{◌∙◌, ◌<◌, arith, length, subst, sym}
use Rattle.rules.specs.Squares.{Ply}
use Rattle.decision.proofs.Options.{none_at, some_at}
use Rattle.problems.proofs.Jobs.{got_at, move_at, same_some}
use Rattle.searcher.proofs.Taking.{takes_move, takes_job}
use Rattle.searcher.specs.First.{IsBestOf}
use Rattle.searcher.proofs.first.tree_of_first.Goals as goal

pub returns-in_default-found-clause-found : goal.returns-in_default-found-clause-found
returns-in_default-found-clause-found g c = λ m at n within takes.
    none_at c.in-Some.found _ _ c.in_default-found.not-Some c.in-Some.ensures.plies n within (takes_job c.args.root.now c.args.job m at n takes)

pub tree_behind-requires : goal.tree_behind-requires
tree_behind-requires g c =
    let r = c.args.root.now in
    let first = c.index-deref-from.result in
    let below : c.args.job < length r.moves.items = c.requires.job.1 in
    let got = got_at r.moves.items c.args.job first below (move_at r.moves.items c.deref.result.now c.from.result c.args.job first c.deref.ensures.0 c.from.ensures c.index-deref-from.is) in
    let takes = some_at c.in-Some.found c.in-Some-found.plies _ _ c.in-Some-found.is c.in-Some.ensures.plies in
    let is = takes_move r c.args.job first got c.in-Some-found.plies takes.1 in
    record { limit = (is.some, omega (arith, takes.0, r.limited)); wins = is.wins }

pub returns-clause-found : goal.returns-clause-found
returns-clause-found g c = λ m at.
    let r = c.args.root.now in
    let first = c.index-deref-from.result in
    let below : c.args.job < length r.moves.items = c.requires.job.1 in
    let got = got_at r.moves.items c.args.job first below (move_at r.moves.items c.deref.result.now c.from.result c.args.job first c.deref.ensures.0 c.from.ensures c.index-deref-from.is) in
    let takes = some_at c.in-Some.found c.in-Some-found.plies _ _ c.in-Some-found.is c.in-Some.ensures.plies in (
      c.in-Some-found.plies,
      takes.0,
      takes_move r c.args.job m at c.in-Some-found.plies takes.1,
      subst (λ (x : Ply). IsBestOf r.goal r.board x c.in_ok-tree_behind.field-0) (same_some first m (sym got ∙ at)) c.in_ok-tree_behind.ensures.best,
    )
