-- Reading lines of at most so many bytes.
use Rattle.std.specs.Prelude.{◌≡◌, ◌<◌, ℕ, Bool, true, false, List, [], ◌∷◌, ◌++◌, length, Option, IfSome}
use Rattle.std.specs.Io.KnownBytes.{Consumes}
use Rattle.input_lines.specs.Lines.{HasNoFeed}
use Rattle.devices.specs.Input.{OfInput}

-- the text of a line is read, with the feed that ends it; or all that was left is the text, and no feed is in it
abbrev pub ReadsText : Option (List ℕ) → Option (List ℕ) → List ℕ → Bool → Type 0
ReadsText before after text true = HasNoFeed text × Consumes before after (text ++ 10 ∷ [])
ReadsText before after text false = HasNoFeed text × IfSome before (λ told. told ≡ text)

-- the input begins with more than so many bytes among which no feed is
abbrev pub BeginsLong : ℕ → Option (List ℕ) → Type 0
BeginsLong most known = OfInput known (λ input. (text : List ℕ) × (rest : List ℕ) × HasNoFeed text × (most < length text) × (input ≡ text ++ rest))
