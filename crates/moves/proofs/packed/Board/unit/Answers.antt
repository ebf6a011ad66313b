use Rattle.moves.proofs.Common.{sym, ap, ◌∙◌, unit_on, square_number}
use Rattle.moves.proofs.packed.Board.unit.Goals as goal

pub returns : goal.returns
returns c = c.unit_at.ensures ∙ ap (λ g. unit_on c.args.self.now (square_number g c.of_number.result)) (sym c.game.ensures.value) ∙ ap (unit_on c.args.self.now) c.of_number.ensures.number
