use Rattle.std.proofs.Common.{inl, vec_items}
use Rattle.replies.proofs.FirstLemmas.{job_missed, none_shown, tree_shown}
use Rattle.replies.proofs.first.opened_text.Goals as goal

pub returns-in-Ok-Some-clause-shown : goal.returns-in-Ok-Some-clause-shown
returns-in-Ok-Some-clause-shown g c =
    tree_shown c.args.root.now c.args.job c.args.limits c.in-Ok-Some.tree (vec_items c.in_ok-tree_line-in-Ok-Some.field-0)
    c.in_ok-table.ensures.0 (c.requires.limit c.in_ok-table.ensures.0) (rw c.in-Ok-Some.field-0-is at c.in-Ok-Some.ensures) c.in_ok-tree_line-in-Ok-Some.ensures

pub returns-in-Ok-None-clause-shown : goal.returns-in-Ok-None-clause-shown
returns-in-Ok-None-clause-shown g c =
    none_shown c.args.root.now c.args.job c.args.limits c.none_line.result
    c.in_ok-table.ensures.0 (c.requires.limit c.in_ok-table.ensures.0) (rw c.in-Ok-None.field-0-is at c.in-Ok-None.ensures) c.none_line.ensures

pub returns-in-Ok-None-clause-silent : goal.returns-in-Ok-None-clause-silent
returns-in-Ok-None-clause-silent g c =
    inl (job_missed c.args.root.now c.args.job c.args.limits.limit (c.requires.limit c.in_ok-table.ensures.0) (rw c.in-Ok-None.field-0-is at c.in-Ok-None.ensures))
