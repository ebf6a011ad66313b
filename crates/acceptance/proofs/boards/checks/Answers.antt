use Rattle.std.proofs.Common.{None, subst, sym}
use Rattle.board.specs.Board.{PlainBoard}
use Rattle.rules.specs.Moves.{IsLawful}
use Rattle.acceptance.proofs.boards.checks.Goals as goal

pub gives_check-requires : goal.gives_check-requires
gives_check-requires g c =
    subst (λ (b : PlainBoard). IsLawful b (record { from = c.args.from; to = c.args.to; promotion = None })) (sym c.of.ensures) (c.is_lawful.ensures.0 c.if-not-is_lawful.false)
