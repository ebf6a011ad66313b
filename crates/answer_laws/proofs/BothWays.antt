-- What stays where a board is turned about.
use Rattle.board.specs.Board.{PlainBoard}
use Rattle.laws.proofs.Squares.{back_of}
use Rattle.laws.proofs.Turned.{IsTurned-back, MayTurn-back}
use Rattle.answer_laws.specs.TurnedPlay.{WhereTurned, StaysTurned}

-- what goes over to each turned board is there no less
pub both_ways : (P : PlainBoard → Type 0) → WhereTurned (λ t b c. P b → P c) → StaysTurned P
both_ways P over t b c turned may = (over t b c turned may, over (back_of t) c b (IsTurned-back t b c turned) (MayTurn-back t b c turned may))
