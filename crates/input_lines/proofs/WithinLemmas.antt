-- The text of a line, byte by byte.
use Rattle.std.proofs.Common.{◌<◌, ℕ, List, [], Option, None, Some, length, refl, sym}
use Rattle.std.proofs.lemmas.List.{append-nil}
use Rattle.std.specs.Io.KnownBytes.{Consumes}
use Rattle.input_lines.specs.Lines.{HasNoFeed}
use Rattle.input_lines.specs.Within.{BeginsLong}

-- these are the bytes so far, without a feed
abbrev pub Gathers : Option (List ℕ) → Option (List ℕ) → List ℕ → Type 0
Gathers first now text = Consumes first now text × HasNoFeed text

pub long_so_far : (most : ℕ) (first now : Option (List ℕ)) (text : List ℕ) → Gathers first now text → most < length text → BeginsLong most first
long_so_far most None now text (gone, none) big = (text, tt, (text, [], none, big, sym (append-nil text)))
long_so_far most (Some xs) None text (gone, none) big = absurd gone
long_so_far most (Some xs) (Some ys) text (gone, none) big = (xs, refl, (text, ys, none, big, gone))
