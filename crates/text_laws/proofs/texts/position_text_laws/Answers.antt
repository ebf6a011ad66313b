use Rattle.board.proofs.FenOneText.{fen_of, is_fen, one_fen}
use Rattle.board.proofs.FenParts.{one_board}
use Rattle.text_laws.proofs.Faults.{one_fault}
use Rattle.text_laws.proofs.PositionTexts.{no_fault}
use Rattle.text_laws.proofs.texts.position_text_laws.Goals as goal

pub returns-clause-some : goal.returns-clause-some
returns-clause-some c = λ b position. (fen_of b, is_fen b position)

pub returns-clause-one : goal.returns-clause-one
returns-clause-one c = one_fen

pub returns-clause-board : goal.returns-clause-board
returns-clause-board c = one_board

pub returns-clause-fault : goal.returns-clause-fault
returns-clause-fault c = one_fault

pub returns-clause-no_fault : goal.returns-clause-no_fault
returns-clause-no_fault c = λ bytes b f position fen fault. no_fault b position bytes fen f fault.holds
