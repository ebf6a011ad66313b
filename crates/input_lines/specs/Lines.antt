-- Reading an input line by line.
use Rattle.std.specs.Prelude.{◌≡◌, ◌≢◌, ◌-◌, ◌<◌, ◌≤◌, ℕ, List, [], ◌∷◌, ◌++◌, length, take, drop, Option, None, Some, IfSome, All, MatchBool}
use Rattle.std.specs.Io.KnownBytes.{Consumes, prepend_known}
use Rattle.devices.specs.Input.{without_line_feed}
use Rattle.input_lines.specs.declared.lines.Unread.{Unread}
use Rattle.input_lines.specs.declared.lines.Held.{Held}
use Rattle.input_lines.specs.declared.lines.Taken.{Taken}
use Rattle.input_lines.specs.declared.lines.Next.{Next}
use Rattle.input_lines.specs.declared.lines.Next.TheVariants.{End, Line, TooLong}

-- what is unread lies within the chunk
abbrev pub IsUnread : Unread → Type 0
IsUnread u = (u.from ≤ u.to) × (u.to ≤ length u.chunk)

-- the bytes that were read and not used yet
abbrev pub unread_bytes : Unread → List ℕ
unread_bytes u = take (u.to - u.from) (drop u.from u.chunk)

-- all that is left: those bytes, and then what the reader has, where it tells
abbrev pub left_of : Unread → Option (List ℕ) → Option (List ℕ)
left_of u known = prepend_known (unread_bytes u) known

-- what is left stays the same, and if no byte of it is unread, there is none
abbrev pub Fills : Unread → Unread → Option (List ℕ) → Option (List ℕ) → Type 0
Fills u v before after = IfSome (left_of u before) (λ xs. (left_of v after ≡ Some xs) × (v.from ≡ v.to → xs ≡ []))

-- a byte is taken from the front of known bytes, or there is none
abbrev pub TakesByte : Option (List ℕ) → Option (List ℕ) → Option ℕ → Type 0
TakesByte before after None = IfSome before (λ xs. (xs ≡ []) × (after ≡ Some []))
TakesByte before after (Some byte) = IfSome before (λ xs. (ys : List ℕ) × (xs ≡ byte ∷ ys) × (after ≡ Some ys))

-- no byte is a line feed
abbrev pub HasNoFeed : List ℕ → Type 0
HasNoFeed bytes = All (λ x. x ≢ 10) bytes

-- what is held of a line whose bytes so far are these
abbrev pub HoldsLine : List ℕ → Held → Type 0
HoldsLine raw held = MatchBool held.is_long (256 < length raw) ((held.bytes.items ≡ raw) × (length raw ≤ 256))

-- the line ends with its feed, and has no other
abbrev pub IsFed : List ℕ → Type 0
IsFed line = (raw : List ℕ) × HasNoFeed raw × (line ≡ raw ++ 10 ∷ [])

-- these are the bytes of no line; of one of which at most 256 bytes stand before the feed; or of a longer one
abbrev pub IsReadAs : List ℕ → Next → Type 0
IsReadAs line End = line ≡ []
IsReadAs line (Line held) = (0 < length line) × (held.items ≡ line) × (length (without_line_feed line) ≤ 256)
IsReadAs line TooLong = (0 < length line) × (256 < length (without_line_feed line))

-- all that was left is the line, and has no feed
abbrev pub IsLastOf : Option (List ℕ) → List ℕ → Type 0
IsLastOf before line = HasNoFeed line × IfSome before (λ told. told ≡ line)

-- the first line is taken: one with its feed, or the last one, if any is left
abbrev pub TakesLine : Option (List ℕ) → Option (List ℕ) → Taken → Type 0
TakesLine before after taken = (line : List ℕ)
    × MatchBool taken.is_last (IsLastOf before line) (IsFed line × Consumes before after line) × IsReadAs line taken.next
