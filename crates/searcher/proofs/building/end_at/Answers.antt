use Rattle.std.proofs.Common.{sym, ◌∙◌}
use Rattle.std.proofs.lemmas.Bool.{false≢true}
use Rattle.searcher.proofs.Forcing.{ends_mated, ends_stale}
use Rattle.searcher.proofs.building.end_at.Goals as goal

pub returns-then-mover_in_check : goal.returns-then-mover_in_check
returns-then-mover_in_check c = ends_mated c.args.goal c.args.board.now c.requires (c.mover_in_check.ensures.0 c.if-mover_in_check.true)

pub returns-else-mover_in_check : goal.returns-else-mover_in_check
returns-else-mover_in_check c = ends_stale c.args.goal c.args.board.now c.requires (λ check. false≢true (sym c.if-mover_in_check.false ∙ c.mover_in_check.ensures.1 check))
