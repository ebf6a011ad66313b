use Rattle.std.proofs.Common.{◌≤◌, ◌*◌, ◌+◌, ◌-◌, sym, ap, ◌∙◌, subst, arith}
use Rattle.std.proofs.lemmas.Bool.{false≢true}
use Rattle.std.proofs.lemmas.Result.{IfOk-weaker}
use Rattle.rules.specs.Order.{ListsLawful}
use Rattle.wintree.specs.Plan.{depth}
use Rattle.rules.proofs.Forcing.{same_side-self}
use Rattle.searcher.specs.First.{IsBestOf}
use Rattle.searcher.proofs.Forcing.{some_ply, best_wins, won_reached, won_plies, won_forces}
use Rattle.searcher.proofs.PlanLists.{replies_in, AreBest, AreShallow, node_of, best_of, node_depth, node_room, some_listed, replies_more, best_more, shallow_more}
use Rattle.searcher.proofs.Halts.{err_halts}
use Rattle.searcher.proofs.building.+building.Goals as goal

-- ---- a tree

pub best_tree-tree_behind-requires : goal.best_tree-tree_behind-requires
best_tree-tree_behind-requires g t c κs within =
    let plies = some_ply c.args.builder.now.goal c.args.board.now.mover c.args.board.now c.args.limit (same_side-self c.args.board.now.mover) c.requires.forced in
    (omega (arith, c.decreases), (within.0, (within.1, ((plies, c.requires.limit), best_wins c.args.builder.now.goal c.args.board.now c.in-Some.attack c.in-Some.ensures.best c.args.limit c.requires.forced))))

pub best_tree-returns-clause-goes : goal.best_tree-returns-clause-goes
best_tree-returns-clause-goes g t c = g.met.D.Decider.goes_on _ _ _ c.best_move.ensures.goes c.tree_behind.ensures.goes

pub best_tree-returns-clause-best : goal.best_tree-returns-clause-best
best_tree-returns-clause-best g t c =
    IfOk-weaker c.tree_behind.result _ _ (λ tree is. best_of c.args.builder.now.goal c.args.board.now c.in-Some.attack tree c.in-Some.ensures.best is) c.tree_behind.ensures.best

-- ---- behind its first move

pub tree_behind-end_at-requires : goal.tree_behind-end_at-requires
tree_behind-end_at-requires g t c =
    won_reached c.args.builder.now.goal c.args.board.now c.after-next.result c.args.first c.args.limit c.requires.wins c.after-next.ensures
    (λ r lawful. false≢true (sym c.if-not-has_lawful_move.true ∙ c.has_lawful_move.ensures.1 (r, lawful)))

pub tree_behind-returns-then-not-has_lawful_move-clause-depth : goal.tree_behind-returns-then-not-has_lawful_move-clause-depth
tree_behind-returns-then-not-has_lawful_move-clause-depth g t c = omega (arith, c.requires.limit.0, ap depth c.in_ok-end.ensures)

pub tree_behind-returns-in_err-end-clause-goes : goal.tree_behind-returns-in_err-end-clause-goes
tree_behind-returns-in_err-end-clause-goes g t c = g.met.D.Decider.goes_at_once _

pub tree_behind-returns-then-not-has_lawful_move-clause-goes : goal.tree_behind-returns-then-not-has_lawful_move-clause-goes
tree_behind-returns-then-not-has_lawful_move-clause-goes g t c = g.met.D.Decider.goes_at_once _

pub tree_behind-overflow_sub-limit : goal.tree_behind-overflow_sub-limit
tree_behind-overflow_sub-limit g t c =
    won_plies c.args.builder.now.goal c.args.board.now c.after-next.result c.args.first c.args.limit c.requires.wins c.after-next.ensures
    (c.has_lawful_move.ensures.0 c.if-not-has_lawful_move.false)

pub tree_behind-replies_to-requires : goal.tree_behind-replies_to-requires
tree_behind-replies_to-requires g t c κs within =
    let some = c.has_lawful_move.ensures.0 c.if-not-has_lawful_move.false in
    let plies = won_plies c.args.builder.now.goal c.args.board.now c.after-next.result c.args.first c.args.limit c.requires.wins c.after-next.ensures some in
    let most = c.requires.limit.1 in
    (omega (arith, c.decreases, plies), (within.0, (within.1, (omega arith, (some, won_forces c.args.builder.now.goal c.args.board.now c.after-next.result c.args.first c.args.limit c.requires.wins c.after-next.ensures some)))))

pub tree_behind-returns-in_err-replies-clause-halt : goal.tree_behind-returns-in_err-replies-clause-halt
tree_behind-returns-in_err-replies-clause-halt g t c = err_halts c.from_residual-in_err-replies.result _ _ c.from_residual-in_err-replies.ensures.1 c.in_err-replies.ensures.halt

pub tree_behind-node-requires-clause-some : goal.tree_behind-node-requires-clause-some
tree_behind-node-requires-clause-some g t c =
    let some = some_listed c.args.builder.now.goal c.after-next.result c.in_ok-replies.replies.items (c.has_lawful_move.ensures.0 c.if-not-has_lawful_move.false) c.in_ok-replies.ensures.replies in
    omega (arith, some)

pub tree_behind-node-requires-clause-room : goal.tree_behind-node-requires-clause-room
tree_behind-node-requires-clause-room g t c =
    let most = c.requires.limit.1 in
    node_room c.in_ok-replies.replies.items (c.args.limit - 2) (omega arith) c.in_ok-replies.ensures.depth

pub tree_behind-returns-clause-best : goal.tree_behind-returns-clause-best
tree_behind-returns-clause-best g t c =
    let some = some_listed c.args.builder.now.goal c.after-next.result c.in_ok-replies.replies.items (c.has_lawful_move.ensures.0 c.if-not-has_lawful_move.false) c.in_ok-replies.ensures.replies in
    subst (IsBestOf c.args.builder.now.goal c.args.board.now c.args.first) (sym c.in_ok-node.ensures)
    (node_of c.args.builder.now.goal c.after-next.result c.args.board.now c.args.first c.in_ok-replies.replies.items c.after-next.ensures some
    c.in_ok-replies.ensures.replies c.in_ok-replies.ensures.best)

pub tree_behind-returns-clause-depth : goal.tree_behind-returns-clause-depth
tree_behind-returns-clause-depth g t c =
    let some = c.has_lawful_move.ensures.0 c.if-not-has_lawful_move.false in
    let plies = won_plies c.args.builder.now.goal c.args.board.now c.after-next.result c.args.first c.args.limit c.requires.wins c.after-next.ensures some in
    subst (λ plan. 2 * depth plan ≤ c.args.limit + 1) (sym c.in_ok-node.ensures)
    (node_depth c.args.first c.in_ok-replies.replies.items c.args.limit plies (some_listed c.args.builder.now.goal c.after-next.result c.in_ok-replies.replies.items some c.in_ok-replies.ensures.replies) c.in_ok-replies.ensures.depth)

-- ---- its replies

pub replies_to-after-requires : goal.replies_to-after-requires
replies_to-after-requires g t c =
    ((subst (ListsLawful c.args.board.now) (sym c.as_slice-m-items.ensures.value) c.lawful_on-moves.ensures).exact c.m-item.result).0 (c.loop-m.m-index, c.loop-m-test.true, sym c.m-item.is)

pub replies_to-best_tree-requires : goal.replies_to-best_tree-requires
replies_to-best_tree-requires g t c κs within =
    let most = c.requires.plies in
    (omega (arith, c.decreases), (within.0, (within.1, (omega arith, c.requires.forced c.m-item.result c.after.result c.after.ensures))))

pub replies_to-loop-m-preserved : goal.replies_to-loop-m-preserved
replies_to-loop-m-preserved g t c =
    let before = c.loop-m.invariant in
    let items = c.in_ok-push.ensures.items in
    record {
      goes = g.met.D.Decider.goes_on _ _ _ before.goes c.in_ok-tree.ensures.goes;
      moves = replies_more c.loop-m.replies.items c.push.new.self.items c.m-item.result c.in_ok-tree.tree c.as_slice-m-items.result.now c.loop-m.m-index items before.moves c.loop-m-test.true c.m-item.is;
      best = best_more c.args.builder.now.goal c.args.board.now c.loop-m.replies.items c.push.new.self.items c.m-item.result c.in_ok-tree.tree items before.best (c.after.result, c.after.ensures, c.in_ok-tree.ensures.best);
      depth = shallow_more c.args.n c.loop-m.replies.items c.push.new.self.items c.m-item.result c.in_ok-tree.tree items before.depth c.in_ok-tree.ensures.depth;
    }

pub replies_to-loop-m-init : goal.replies_to-loop-m-init
replies_to-loop-m-init g t c = record {
  goes = g.met.D.Decider.goes_at_once _;
  moves = ap replies_in c.new-replies.ensures.items;
  best = subst (AreBest c.args.builder.now.goal c.args.board.now) (sym c.new-replies.ensures.items) (λ k d lt. absurd (omega (arith, lt)));
  depth = subst (AreShallow c.args.n) (sym c.new-replies.ensures.items) (λ k d lt. absurd (omega (arith, lt)));
}

pub replies_to-returns-in_err-tree-clause-goes : goal.replies_to-returns-in_err-tree-clause-goes
replies_to-returns-in_err-tree-clause-goes g t c = g.met.D.Decider.goes_on _ _ _ c.loop-m.invariant.goes c.best_tree.ensures.goes

pub replies_to-returns-in_err-tree-clause-halt : goal.replies_to-returns-in_err-tree-clause-halt
replies_to-returns-in_err-tree-clause-halt g t c = err_halts c.from_residual.result _ _ c.from_residual.ensures.1 c.in_err-tree.ensures.halt

pub replies_to-returns-in_err-push-clause-goes : goal.replies_to-returns-in_err-push-clause-goes
replies_to-returns-in_err-push-clause-goes g t c = g.met.D.Decider.goes_on _ _ _ c.loop-m.invariant.goes c.best_tree.ensures.goes
