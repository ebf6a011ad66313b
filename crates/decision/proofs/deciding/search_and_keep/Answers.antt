use Rattle.std.proofs.Common.{arith, sym, subst}
use Rattle.entry.specs.Bounds.{Bounds}
use Rattle.decision.specs.Questions.{said, IsMetWith}
use Rattle.decision.proofs.Callers.{goes_more}
use Rattle.decision.proofs.Replies.{met_with}
use Rattle.decision.proofs.Below.{found_by}
use Rattle.decision.proofs.deciding.search_and_keep.Goals as goal

pub known_with-requires-clause-known : goal.known_with-requires-clause-known
known_with-requires-clause-known g c = c.requires.reply.right c.told.result c.told.ensures

pub returns-clause-goes_on : goal.returns-clause-goes_on
returns-clause-goes_on g c = goes_more c.search_given.ensures.goes_on.caller c.keep.ensures.goes_on

pub returns-clause-found : goal.returns-clause-found
returns-clause-found g c =
    found_by c.search_given.ensures.goes_on.caller c.keep.ensures.goes_on c.args.q.now c.args.n (record { yes = c.in_ok-yes.yes; expanded = c.saturating_add-expanded.result; first = c.args.reply }) c.known_with.result
    c.in_ok-yes.ensures.answer (grind (arith, c.saturating_add-expanded.ensures))
    (subst (λ (i : Bounds). IsMetWith c.args.reply (said c.in_ok-yes.yes c.args.n) i) (sym c.known_with.ensures.met) (met_with _ c.args.reply (said c.in_ok-yes.yes c.args.n) c.told.result c.requires.reply.hit c.told.ensures))
    c.in_ok-yes.ensures.below c.keep.ensures.kept
