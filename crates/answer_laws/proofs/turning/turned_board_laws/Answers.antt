use Rattle.board.specs.Board.{IsPosition}
use Rattle.rules.specs.Reach.{IsSound}
use Rattle.laws.proofs.Squares.{back_of}
use Rattle.laws.proofs.Turned.{IsTurned-back}
use Rattle.laws.proofs.Forced.{IsSound-turned}
use Rattle.laws.proofs.Boards.{has_turned, one_turned}
use Rattle.laws.proofs.Positions.{IsPosition-turned}
use Rattle.answer_laws.proofs.BothWays.{both_ways}
use Rattle.answer_laws.proofs.Twice.{both_of, IsTurned-both}
use Rattle.answer_laws.proofs.turning.turned_board_laws.Goals as goal

pub returns-clause-some : goal.returns-clause-some
returns-clause-some c = has_turned

pub returns-clause-one : goal.returns-clause-one
returns-clause-one c = one_turned

pub returns-clause-back : goal.returns-clause-back
returns-clause-back c = λ t. (back_of t, IsTurned-back t)

pub returns-clause-twice : goal.returns-clause-twice
returns-clause-twice c = λ t u. (both_of t u, IsTurned-both t u)

pub returns-clause-position : goal.returns-clause-position
returns-clause-position c = both_ways IsPosition IsPosition-turned

pub returns-clause-sound : goal.returns-clause-sound
returns-clause-sound c = both_ways IsSound IsSound-turned
