-- What is written, and behind it the rest as it stands in XML, is the text as it stands there.
use Rattle.std.proofs.Common.{◌≡◌, ◌++◌, string_bytes}
use Rattle.std.specs.Str.Iter.{chars_rest}
use Rattle.diagrams.specs.Pictures.{escaped}
use Rattle.diagrams.proofs.caption.escaped.Given as goal

abbrev pub invariant-loop-character : goal.invariant-loop-character
invariant-loop-character l = string_bytes l.text ++ escaped (chars_rest l.character-iterator) ≡ escaped l.words
