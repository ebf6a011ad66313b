use Rattle.std.proofs.lemmas.Result.{IfOk-weaker}
use Rattle.std.proofs.Common.{subst}
use Rattle.board.specs.Board.{PlainBoard}
use Rattle.searcher.specs.Best.{IsBest}
use Rattle.searcher.proofs.Fewest.{best_plan}
use Rattle.searcher.proofs.building.tree_by.Goals as goal

pub returns-clause-wins : goal.returns-clause-wins
returns-clause-wins g c =
    IfOk-weaker c.best_tree.result _ _ (λ tree best. (best_plan c.args.goal c.args.position.now tree (subst (λ (b : PlainBoard). IsBest c.args.goal b tree) c.of.ensures best) c.args.plies c.requires.fewest).0) c.best_tree.ensures.best

pub returns-clause-height : goal.returns-clause-height
returns-clause-height g c =
    IfOk-weaker c.best_tree.result _ _ (λ tree best. (best_plan c.args.goal c.args.position.now tree (subst (λ (b : PlainBoard). IsBest c.args.goal b tree) c.of.ensures best) c.args.plies c.requires.fewest).1) c.best_tree.ensures.best
