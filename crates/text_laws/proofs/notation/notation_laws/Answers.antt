use Rattle.board.proofs.WordByWord.{one_reading}
use Rattle.text_laws.proofs.notation.notation_laws.Goals as goal

pub returns : goal.returns
returns c = record { one_reading = one_reading }
