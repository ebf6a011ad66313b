-- A byte order mark at the beginning of what is read.
use Rattle.std.proofs.Common.{◌≡◌, ◌∙◌, ◌+◌, ◌-◌, ◌<◌, ◌≤◌, ◌==◌, ◌&&◌, ℕ, Bool, true, false, List, [], ◌∷◌, ◌++◌, Option, None, Some, IfSome, length, take, drop, ap, refl, sym, subst, append_assoc, length-take, arith}
use Rattle.std.proofs.lemmas.List.{drop-append-le, drop-take, take-append-le}
use lib.Seq.{take-append-add}
use Rattle.std.specs.Io.KnownBytes.{Consumes}
use Rattle.input_lines.specs.Lines.{left_of, unread_bytes}
use Rattle.input_lines.specs.Mark.{SkipsMark, begins_mark, has_mark, without_mark}
use Rattle.input_lines.specs.declared.lines.Unread.{Unread}

-- ---- the bytes at hand

-- of the bytes from the first place on
at_hand : (u : Unread) → u.from ≡ 0 → unread_bytes u ≡ take u.to u.chunk
at_hand u first = let all : u.to - u.from ≡ u.to = omega (arith, first) in rw all (rw first refl)

-- what is read stands behind the bytes at hand
pub read_on : (u v : Unread) (known after : Option (List ℕ)) (buffer behind : List ℕ) (count : ℕ) → u.from ≡ 0 → v.from ≡ 0 → u.to ≤ length u.chunk
    → v.to ≡ u.to + count → v.chunk ≡ take u.to u.chunk ++ (buffer ++ behind) → count ≤ length buffer → Consumes known after (take count buffer)
    → IfSome (left_of u known) (λ xs. left_of v after ≡ Some xs)
read_on u v None after buffer behind count first first_too fits to chunk within gone = tt
read_on u v (Some xs) None buffer behind count first first_too fits to chunk within gone = absurd gone
read_on u v (Some xs) (Some ys) buffer behind count first first_too fits to chunk within gone =
    let size : length (take u.to u.chunk) ≡ u.to = omega (arith, length-take u.to u.chunk, fits) in
    let all : take v.to v.chunk ≡ take u.to u.chunk ++ take count buffer =
    ap (λ n. take n v.chunk) (to ∙ ap (λ n. n + count) (sym size)) ∙ ap (λ l. take (length (take u.to u.chunk) + count) l) chunk
    ∙ take-append-add (take u.to u.chunk) (buffer ++ behind) count ∙ ap (λ l. take u.to u.chunk ++ l) (take-append-le count buffer behind within) in
    let same : unread_bytes v ++ ys ≡ unread_bytes u ++ xs =
    ap (λ l. l ++ ys) (at_hand v first_too ∙ all) ∙ append_assoc (take u.to u.chunk) (take count buffer) ys ∙ ap (λ l. take u.to u.chunk ++ l) (sym gone)
    ∙ ap (λ l. l ++ xs) (sym (at_hand u first)) in
    ap Some same

-- ---- marks

-- fewer than three bytes are no mark
too_few : (bytes : List ℕ) → length bytes < 3 → without_mark bytes ≡ bytes
too_few [] few = refl
too_few (x ∷ []) few = refl
too_few (x ∷ (y ∷ [])) few = refl
too_few (x ∷ (y ∷ (z ∷ rest))) few = absurd (omega (arith, few))

-- bytes that begin none are none, whatever follows
not_begun : (bytes rest : List ℕ) → length bytes < 3 → begins_mark bytes ≡ false → has_mark (bytes ++ rest) ≡ false
not_begun [] rest few other = absurd cc
not_begun (x ∷ []) [] few other = refl
not_begun (x ∷ []) (y ∷ []) few other = refl
not_begun (x ∷ []) (y ∷ (z ∷ rest)) few other = rw other refl
not_begun (x ∷ (y ∷ [])) [] few other = refl
not_begun (x ∷ (y ∷ [])) (z ∷ rest) few other = and_false (x == 239) (y == 187) (z == 191) other
  where
    and_false : (a b c : Bool) → (a && b) ≡ false → (a && (b && c)) ≡ false
    and_false true true c is = absurd cc
    and_false true false c is = refl
    and_false false b c is = refl
not_begun (x ∷ (y ∷ (z ∷ rest))) more few other = absurd (omega (arith, few))

-- three bytes tell it
three_tell : (bytes rest : List ℕ) → 3 ≤ length bytes → has_mark (bytes ++ rest) ≡ has_mark bytes
three_tell [] rest three = absurd (omega (arith, three))
three_tell (x ∷ []) rest three = absurd (omega (arith, three))
three_tell (x ∷ (y ∷ [])) rest three = absurd (omega (arith, three))
three_tell (x ∷ (y ∷ (z ∷ bytes))) rest three = refl

without : (bytes : List ℕ) → has_mark bytes ≡ false → without_mark bytes ≡ bytes
without bytes none = rw none refl

behind_mark : (bytes : List ℕ) → has_mark bytes ≡ true → without_mark bytes ≡ drop 3 bytes
behind_mark bytes mark = rw mark refl

-- ---- what is left

-- no mark stands before what is left
pub skips_none : (before known : Option (List ℕ)) (u : Unread) → IfSome before (λ xs. left_of u known ≡ Some xs)
    → ((rest : List ℕ) → has_mark (unread_bytes u ++ rest) ≡ false) → SkipsMark before (left_of u known)
skips_none None known u same none = tt
skips_none (Some xs) None u same none = absurd cc
skips_none (Some xs) (Some rest) u same none =
    let all : unread_bytes u ++ rest ≡ xs = cc in
    same ∙ ap Some (sym (without xs (subst (λ l. has_mark l ≡ false) all (none rest))))

pub skips_not_begun : (before known : Option (List ℕ)) (u : Unread) → IfSome before (λ xs. left_of u known ≡ Some xs) → u.from ≡ 0 → u.to < 3
    → begins_mark (take u.to u.chunk) ≡ false → SkipsMark before (left_of u known)
skips_not_begun before known u same first few other = skips_none before known u same (λ rest.
    rw (at_hand u first) (not_begun (take u.to u.chunk) rest (omega (arith, length-take u.to u.chunk, few)) other))

pub skips_no_mark : (before known : Option (List ℕ)) (u : Unread) → IfSome before (λ xs. left_of u known ≡ Some xs) → u.from ≡ 0 → u.to ≤ length u.chunk
    → 3 ≤ u.to → has_mark (take u.to u.chunk) ≡ false → SkipsMark before (left_of u known)
skips_no_mark before known u same first fits three other = skips_none before known u same (λ rest.
    rw (at_hand u first) (three_tell (take u.to u.chunk) rest (omega (arith, length-take u.to u.chunk, fits, three)) ∙ other))

-- the input ends before a whole mark
pub skips_ended : (before known after : Option (List ℕ)) (u v : Unread) → IfSome before (λ xs. left_of u known ≡ Some xs) → u.from ≡ 0 → u.to < 3
    → IfSome (left_of u known) (λ xs. xs ≡ unread_bytes u) → IfSome (left_of u known) (λ xs. left_of v after ≡ Some xs) → SkipsMark before (left_of v after)
skips_ended None known after u v same first few ended kept = tt
skips_ended (Some xs) known after u v same first few ended kept =
    let end : xs ≡ unread_bytes u = rw same at ended in
    let left : left_of v after ≡ Some xs = rw same at kept in
    let size : length xs < 3 = rw (end ∙ at_hand u first) (omega (arith, length-take u.to u.chunk, few)) in
    left ∙ ap Some (sym (too_few xs size))

-- the mark is skipped
pub skips_mark : (before known : Option (List ℕ)) (u : Unread) → IfSome before (λ xs. left_of u known ≡ Some xs) → u.from ≡ 0 → u.to ≤ length u.chunk
    → 3 ≤ u.to → has_mark (take u.to u.chunk) ≡ true → SkipsMark before (left_of (record u { from = 3 }) known)
skips_mark None known u same first fits three mark = tt
skips_mark (Some xs) None u same first fits three mark = absurd cc
skips_mark (Some xs) (Some rest) u same first fits three mark =
    let all : unread_bytes u ++ rest ≡ xs = cc in
    let here : take u.to u.chunk ++ rest ≡ xs = ap (λ l. l ++ rest) (sym (at_hand u first)) ∙ all in
    let size : length (take u.to u.chunk) ≡ u.to = omega (arith, length-take u.to u.chunk, fits) in
    let is : has_mark xs ≡ true = subst (λ l. has_mark l ≡ true) here (three_tell (take u.to u.chunk) rest (omega (arith, size, three)) ∙ mark) in
    let to : u.to ≡ 3 + (u.to - 3) = omega (arith, three) in
    let cut : drop 3 (take u.to u.chunk) ≡ take (u.to - 3) (drop 3 u.chunk) = ap (λ n. drop 3 (take n u.chunk)) to ∙ drop-take 3 (u.to - 3) u.chunk in
    ap Some (sym (behind_mark xs is ∙ ap (drop 3) (sym here) ∙ drop-append-le 3 (take u.to u.chunk) rest (omega (arith, size, three)) ∙ ap (λ l. l ++ rest) cut))

-- nothing was at hand, and the input ends
pub none_left : (before known : Option (List ℕ)) (u : Unread) → IfSome before (λ xs. left_of u known ≡ Some xs) → u.to ≡ 0
    → IfSome (left_of u known) (λ xs. xs ≡ unread_bytes u) → IfSome before (λ xs. xs ≡ [])
none_left None known u same none ended = tt
none_left (Some xs) known u same none ended =
    let end : xs ≡ unread_bytes u = rw same at ended in
    let size : u.to - u.from ≡ 0 = omega (arith, none) in
    end ∙ ap (λ n. take n (drop u.from u.chunk)) size
