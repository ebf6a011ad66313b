-- The list of replies is what the type keeps.
use Rattle.std.proofs.Common.{◌+◌, sym, ◌∙◌, ap, subst, arith}
use Rattle.wintree.proofs.Common.{deepest_in, ArePlansIn, KeepsPlan}
use Rattle.wintree.proofs.Lists.{kept_node}
use Rattle.wintree.proofs.tree.Tree.node.Goals as goal

pub invariant_of-result : goal.invariant_of-result
invariant_of-result g c =
    subst (λ next. KeepsPlan c.args.attack next (c.deepest-nested.result + 1)) (sym c.in_ok-new.ensures.ok)
    (kept_node c.args.attack c.args.replies c.deepest-nested.result c.look_at.ensures (subst ArePlansIn c.as_slice.ensures.value c.deepest-nested.ensures.moves) (omega (arith, c.args.replies.ok.0)) c.requires.room (c.deepest-nested.ensures.nested ∙ ap deepest_in c.as_slice.ensures.value))
