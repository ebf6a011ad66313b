use Rattle.std.proofs.Common.{ℕ, ◌≤◌, sym, subst}
use Rattle.solutions.proofs.Common.{PlainBoard, Goal, ListsLawful, lawful_job, err_halts, ForcesNothing, none_at, some_at, TellsVariation}
use Rattle.solutions.proofs.Variations.{vary_one, vary_skip, vary_all}
use Rattle.solutions.proofs.varying.variations_of.Goals as goal
use Rattle.solutions.proofs.varying.variations_of.Goals.{in-Some+in_ok-push, in_default}

pub after-requires : goal.after-requires
after-requires g c =
    lawful_job c.args.board.now c.as_slice-reply-items.result.now (subst (ListsLawful c.args.board.now) (sym c.as_slice-reply-items.ensures.value) c.lawful_on-replies.ensures)
    c.loop-reply.reply-index c.reply-item.result c.loop-reply-test.true c.reply-item.is

pub returns-in_err-variation-clause-goes : goal.returns-in_err-variation-clause-goes
returns-in_err-variation-clause-goes g c = g.met.D.Decider.goes_on _ _ _ c.loop-reply.invariant.goes c.variation_of.ensures.goes

pub returns-in_err-variation-clause-halt : goal.returns-in_err-variation-clause-halt
returns-in_err-variation-clause-halt g c = err_halts c.from_residual.result _ _ c.from_residual.ensures.1 c.in_err-variation.ensures.halt

pub returns-in_err-push-clause-goes : goal.returns-in_err-push-clause-goes
returns-in_err-push-clause-goes g c = g.met.D.Decider.goes_on _ _ _ c.loop-reply.invariant.goes c.variation_of.ensures.goes

pub loop-reply-preserved : goal.loop-reply-preserved
loop-reply-preserved g c =
    let q = c.args.board.now in
    let n = c.args.limit in
    let xs = c.as_slice-reply-items.result.now in
    let i = c.loop-reply.reply-index in
    let r = c.reply-item.result in
    let p = c.after.result in
    let old = c.loop-reply.variations.items in
    let lists = subst (ListsLawful q) (sym c.as_slice-reply-items.ensures.value) c.lawful_on-replies.ensures in
    let goes = g.met.D.Decider.goes_on _ _ _ c.loop-reply.invariant.goes c.variation_of.ensures.goes in
    let varies = c.loop-reply.invariant.varies in
    elim c.match-branch-2.branch [
      | in-Some+in_ok-push w ↦
          let found = some_at c.in_ok-variation.field-0 w.in-Some.variation _ _ w.in-Some.is c.in_ok-variation.ensures.found in
          let tells = subst (λ (at : Goal × PlainBoard). TellsVariation at.0 at.1 w.in-Some.variation) (λ i. (c.on-root.ensures.goal i, c.on-root.ensures.position i)) found.2 in
          record {
            goes = goes;
            varies = rw w.variations-is (vary_one c.args.goal q n xs lists old i r c.loop-reply-test.true c.reply-item.is p c.after.ensures varies w.in-Some.variation w.push.new.self.items w.in_ok-push.ensures.items found.0 (subst (λ k. w.in-Some.variation.plies ≤ k) c.on-root.ensures.limit found.1) tells);
          }
      | in_default w ↦
          let nothing = subst (λ (at : Goal × PlainBoard × ℕ). ForcesNothing at.0 at.1 at.2) (λ i. (c.on-root.ensures.goal i, c.on-root.ensures.position i, c.on-root.ensures.limit i)) (none_at c.in_ok-variation.field-0 _ _ w.in_default.not-Some c.in_ok-variation.ensures.found) in
          record {
            goes = goes;
            varies = rw w.variations-is (vary_skip c.args.goal q n xs lists old i r c.loop-reply-test.true c.reply-item.is p c.after.ensures varies nothing);
          }
    ]

pub returns-clause-variations : goal.returns-clause-variations
returns-clause-variations g c =
    let q = c.args.board.now in
    let lists = subst (ListsLawful q) (sym c.as_slice-reply-items.ensures.value) c.lawful_on-replies.ensures in
    vary_all c.args.goal q c.args.limit c.as_slice-reply-items.result.now lists c.loop-reply.variations.items c.loop-reply.reply-index c.loop-reply-test.false c.loop-reply.invariant.varies
