use Rattle.moves.proofs.Packing.{IsRead}
use Rattle.moves.proofs.codec.read_words.Given as given

-- the squares so far are read, and the other places hold nothing
abbrev pub invariant-loop-number : given.invariant-loop-number
invariant-loop-number l = IsRead l.game l.words l.units l.number
