use Rattle.std.proofs.Common.{rules, vec_items}
use Rattle.searcher.specs.Best.{IsBestWithin}
use Rattle.replies.specs.Output.{ShowsBest}
use Rattle.context.proofs.ShownLemmas.{gives_within}
use Rattle.replies.proofs.shown.shown_at.Goals as goal

pub returns-in_ok-tree-in-Tree : goal.returns-in_ok-tree-in-Tree
returns-in_ok-tree-in-Tree g c =
    let goal = c.in-Tree.goal in
    let limits = c.in-Tree.limits in
    let best : IsBestWithin goal c.args.position.now limits.limit c.in_ok-tree-in-Tree.tree = search rules in
    rw c.in-Tree.is (gives_within vec_items limits (ShowsBest goal c.args.position.now limits.limit) c.plan_text.result c.in_ok-problem-in-Tree.ensures.0
    (c.plan_text.ensures goal c.args.position.now best))
