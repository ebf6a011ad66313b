-- Lines, byte by byte.
use Rattle.std.proofs.Common.{◌≡◌, ◌≢◌, ◌∙◌, ◌+◌, ◌-◌, ◌<◌, ◌≤◌, ℕ, zero, suc, true, false, List, [], ◌∷◌, ◌++◌, Option, None, Some, length, take, drop, get_or, ap, refl, sym, subst, length-append, ne_eqb, arith}
use Rattle.std.proofs.lemmas.List.Elements.{All-push, All-get_or}
use lib.Seq.{take-append_seam, get_or-append_seam}
use Rattle.std.proofs.KnownBytes.{Consumes-trans, Consumes-whole}
use Rattle.std.specs.Io.KnownBytes.{Consumes, IsAtEnd}
use Rattle.devices.specs.Input.{without_line_feed}
use Rattle.input_lines.specs.Lines.{HasNoFeed, HoldsLine, IsReadAs, TakesByte, TakesLine, left_of}
use Rattle.input_lines.specs.declared.lines.Held.{Held}
use Rattle.input_lines.specs.declared.lines.Next.{Next}
use Rattle.input_lines.specs.declared.lines.Next.TheVariants.{Line, TooLong}
use Rattle.input_lines.specs.declared.lines.Unread.{Unread}

-- ---- the bytes that are unread

-- of the bytes from one place on, the one there comes first
cut_first : (chunk : List ℕ) (from n d : ℕ) → from < length chunk → take (suc n) (drop from chunk) ≡ get_or chunk from d ∷ take n (drop (suc from) chunk)
cut_first [] from n d lt = absurd (omega (arith, lt))
cut_first (x ∷ xs) zero n d lt = refl
cut_first (x ∷ xs) (suc k) n d lt = cut_first xs k n d (omega (arith, lt))

-- one byte less is unread
pub moved_on : (u : Unread) (known : Option (List ℕ)) (xs : List ℕ) (byte : ℕ) → u.from < u.to → u.to ≤ length u.chunk → byte ≡ get_or u.chunk u.from byte
    → left_of u known ≡ Some xs → (ys : List ℕ) × (xs ≡ byte ∷ ys) × (left_of (record u { from = u.from + 1 }) known ≡ Some ys)
moved_on u None xs byte lt fits is left = absurd cc
moved_on u (Some rest) xs byte lt fits is left =
    let n : u.to - u.from ≡ suc (u.to - (u.from + 1)) = omega (arith, lt) in
    let on : suc u.from ≡ u.from + 1 = omega arith in
    let same : take (u.to - u.from) (drop u.from u.chunk) ++ rest ≡ xs = cc in
    let first : take (u.to - u.from) (drop u.from u.chunk) ≡ byte ∷ take (u.to - (u.from + 1)) (drop (u.from + 1) u.chunk) =
    ap (λ k. take k (drop u.from u.chunk)) n ∙ cut_first u.chunk u.from (u.to - (u.from + 1)) byte (omega (arith, lt, fits))
    ∙ ap (λ x. x ∷ take (u.to - (u.from + 1)) (drop (suc u.from) u.chunk)) (sym is) ∙ ap (λ k. byte ∷ take (u.to - (u.from + 1)) (drop k u.chunk)) on in
    (take (u.to - (u.from + 1)) (drop (u.from + 1) u.chunk) ++ rest, sym same ∙ ap (λ l. l ++ rest) first, refl)

-- ---- a line that is read

-- these are the bytes so far, without a feed
abbrev pub Reads : Option (List ℕ) → Option (List ℕ) → Held → Type 0
Reads first now held = (raw : List ℕ) × Consumes first now raw × HasNoFeed raw × HoldsLine raw held

-- the feed alone is taken off
without_none : (raw : List ℕ) → HasNoFeed raw → without_line_feed raw ≡ raw
without_none [] none = refl
without_none (x ∷ xs) none =
    let last : length (x ∷ xs) - 1 ≡ length xs = omega arith in
    rw last (rw (ne_eqb (get_or (x ∷ xs) (length xs) 0) 10 (All-get_or (λ y. y ≢ 10) (x ∷ xs) (length xs) 0 (omega arith) none)) refl)

without_feed : (raw : List ℕ) → without_line_feed (raw ++ 10 ∷ []) ≡ raw
without_feed raw =
    let last : length (raw ++ 10 ∷ []) - 1 ≡ length raw = omega (arith, length-append raw (10 ∷ [])) in
    rw last (rw (get_or-append_seam raw 10 [] 0) (take-append_seam raw (10 ∷ [])))

-- ---- what a line was read as

pub last_long : (raw : List ℕ) (held : Held) → HasNoFeed raw → held.is_long ≡ true → HoldsLine raw held → IsReadAs raw TooLong
last_long raw held none long holds =
    let big : 256 < length raw = rw long at holds in
    (omega (arith, big), rw (without_none raw none) big)

pub last_line : (raw : List ℕ) (held : Held) → HasNoFeed raw → held.is_long ≡ false → 0 < length held.bytes.items → HoldsLine raw held → IsReadAs raw (Line held.bytes)
last_line raw held none short some holds =
    let h : (held.bytes.items ≡ raw) × (length raw ≤ 256) = rw short at holds in
    (subst (λ l. 0 < length l) h.0 some, h.0, subst (λ l. length l ≤ 256) (sym (without_none raw none)) h.1)

pub long_ended : (raw : List ℕ) (held : Held) → held.is_long ≡ true → HoldsLine raw held → IsReadAs (raw ++ 10 ∷ []) TooLong
long_ended raw held long holds =
    let big : 256 < length raw = rw long at holds in
    (omega (arith, length-append raw (10 ∷ [])), rw (without_feed raw) big)

pub line_ended : (raw : List ℕ) (held : Held) (line : List ℕ) → held.is_long ≡ false → line ≡ held.bytes.items ++ 10 ∷ [] → HoldsLine raw held
    → (0 < length (raw ++ 10 ∷ [])) × (line ≡ raw ++ 10 ∷ []) × (length (without_line_feed (raw ++ 10 ∷ [])) ≤ 256)
line_ended raw held line short pushed holds =
    let h : (held.bytes.items ≡ raw) × (length raw ≤ 256) = rw short at holds in
    (omega (arith, length-append raw (10 ∷ [])), pushed ∙ ap (λ l. l ++ 10 ∷ []) h.0, subst (λ l. length l ≤ 256) (sym (without_feed raw)) h.1)

-- ---- steps of the reading

pub byte_gone : (now after : Option (List ℕ)) (byte : ℕ) → TakesByte now after (Some byte) → Consumes now after (byte ∷ [])
byte_gone None after byte takes = tt
byte_gone (Some xs) None byte (ys, one, left) = absurd cc
byte_gone (Some xs) (Some zs) byte (ys, one, left) = let same : ys ≡ zs = cc in one ∙ ap (λ l. byte ∷ l) same

pub at_end : (now after : Option (List ℕ)) → TakesByte now after None → IsAtEnd now
at_end None after takes = tt
at_end (Some xs) after takes = takes.0

-- one byte more of the line
pub reads_more : (first now after : Option (List ℕ)) (held further : Held) (byte : ℕ) → byte ≢ 10 → Reads first now held → TakesByte now after (Some byte)
    → ((raw : List ℕ) → HoldsLine raw held → HoldsLine (raw ++ byte ∷ []) further) → Reads first after further
reads_more first now after held further byte other (raw, gone, none, holds) takes held_too = (
  raw ++ byte ∷ [],
  Consumes-trans first now after raw (byte ∷ []) gone (byte_gone now after byte takes),
  All-push (λ x. x ≢ 10) raw byte none other,
  held_too raw holds,
)

-- the input ends
pub reads_last : (first now after : Option (List ℕ)) (held : Held) (next : Next) → Reads first now held → TakesByte now after None
    → ((raw : List ℕ) → HasNoFeed raw → HoldsLine raw held → IsReadAs raw next) → TakesLine first after (record { next = next; is_last = true })
reads_last first now after held next (raw, gone, none, holds) takes last = (
  raw,
  (none, Consumes-whole first now raw (λ xs. xs ≡ raw) gone (at_end now after takes) refl),
  last raw none holds,
)

-- a feed ends the line
pub reads_ended : (first now after : Option (List ℕ)) (held : Held) (byte : ℕ) (next : Next) → byte ≡ 10 → Reads first now held → TakesByte now after (Some byte)
    → ((raw : List ℕ) → HasNoFeed raw → HoldsLine raw held → IsReadAs (raw ++ 10 ∷ []) next) → TakesLine first after (record { next = next; is_last = false })
reads_ended first now after held byte next feed (raw, gone, none, holds) takes ended = (
  raw ++ 10 ∷ [],
  ((raw, none, refl), Consumes-trans first now after raw (10 ∷ []) gone (subst (λ x. Consumes now after (x ∷ [])) feed (byte_gone now after byte takes))),
  ended raw none holds,
)
