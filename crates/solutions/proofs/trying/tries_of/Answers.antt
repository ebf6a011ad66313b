use Rattle.std.proofs.Common.{ℕ, ◌≤◌, sym, subst, arith, MatchOption}
use Rattle.solutions.proofs.Common.{Ply, ListsLawful, lawful_job, none_at, some_at, RefutesAlone}
use Rattle.solutions.proofs.Tries.{no_tries, try_one, try_skip, try_all}
use Rattle.solutions.proofs.trying.tries_of.Goals as goal
use Rattle.solutions.proofs.trying.tries_of.Goals.{in-Some-found+in_ok-push, in_default-found}

pub after-next-requires : goal.after-next-requires
after-next-requires g c =
    let b = c.args.root.now.board in
    lawful_job b c.as_slice-first-items.result.now (subst (ListsLawful b) (sym c.as_slice-first-items.ensures.value) c.requires.root) c.loop-first.first-index c.first-item.result c.loop-first-test.true c.first-item.is

pub returns-in_default-clause-goes : goal.returns-in_default-clause-goes
returns-in_default-clause-goes g c = g.met.D.Decider.goes_on _ _ _ c.loop-first.invariant.goes c.refutation_of.ensures.goes

pub returns-in_err-push-clause-goes : goal.returns-in_err-push-clause-goes
returns-in_err-push-clause-goes g c = g.met.D.Decider.goes_on _ _ _ c.loop-first.invariant.goes c.refutation_of.ensures.goes

pub loop-first-preserved : goal.loop-first-preserved
loop-first-preserved g c =
    let goal = c.args.root.now.goal in
    let b = c.args.root.now.board in
    let n = c.args.plies in
    let xs = c.as_slice-first-items.result.now in
    let i = c.loop-first.first-index in
    let m = c.first-item.result in
    let q = c.after-next.result in
    let lists = subst (ListsLawful b) (sym c.as_slice-first-items.ensures.value) c.requires.root in
    let so_far = c.loop-first.invariant.tries in
    let goes = g.met.D.Decider.goes_on _ _ _ c.loop-first.invariant.goes c.refutation_of.ensures.goes in
    let several : 2 ≤ c.args.plies = omega (arith, c.if-plies-lt2.false) in
    let alone = subst (λ (k : ℕ). MatchOption c.in-Some.found ((r : Ply) → RefutesAlone goal q k r → ⊥) (RefutesAlone goal q k)) c.saturating_sub.ensures c.in-Some.ensures.alone in
    elim c.match-found.branch [
      | in-Some-found+in_ok-push w ↦ record {
        goes = goes;
        tries = rw w.tries-is (try_one goal b n xs lists c.loop-first.tries.items i m c.loop-first-test.true c.first-item.is q c.after-next.ensures so_far several w.in-Some-found.refutation w.push.new.self.items w.in_ok-push.ensures.items
            (some_at c.in-Some.found w.in-Some-found.refutation _ _ w.in-Some-found.is alone));
      }
      | in_default-found w ↦ record {
        goes = goes;
        tries = rw w.tries-is (try_skip goal b n xs lists c.loop-first.tries.items i m c.loop-first-test.true c.first-item.is q c.after-next.ensures so_far
            (none_at c.in-Some.found _ _ w.in_default-found.not-Some alone));
      }
    ]

pub returns-clause-tries : goal.returns-clause-tries
returns-clause-tries g c =
    let b = c.args.root.now.board in
    let lists = subst (ListsLawful b) (sym c.as_slice-first-items.ensures.value) c.requires.root in
    try_all c.args.root.now.goal b c.args.plies c.as_slice-first-items.result.now lists c.loop-first.tries.items c.loop-first.first-index c.loop-first-test.false c.loop-first.invariant.tries

pub returns-then-plies-lt2-clause-tries : goal.returns-then-plies-lt2-clause-tries
returns-then-plies-lt2-clause-tries g c =
    no_tries c.args.root.now.goal c.args.root.now.board c.args.plies (omega (arith, c.if-plies-lt2.true)) c.new-tries.result.items c.new-tries.ensures.items
