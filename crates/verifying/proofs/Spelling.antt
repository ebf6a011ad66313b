-- A line is of one list of words at most.
use Rattle.std.proofs.Common.{◌≡◌, ◌≢◌, ◌<◌, ◌≤◌, ℕ, zero, suc, ◌+◌, ◌-◌, ◌*◌, ◌/◌, ◌%◌, nat_eq, nat_lt, if◌then◌else◌, List, [], ◌∷◌, ◌++◌, refl, sym, ap, ◌∙◌, arith, length, get_or, take, drop, replicate, append_assoc}
use Rattle.verifying.proofs.Common.{nat_tests, take-append-drop, drop_more, take_all, Word, Seen, Claimed, Stalemated, place_letter, word_text, words_line}
use Rattle.verifying.specs.declared.words.Word.TheVariants.{Place}
use Rattle.wintree.proofs.Turns.{same_head, same_tail}

-- ---- a word is so many Zs, and then a byte that is none

abbrev fifties : Word → ℕ
fifties Seen = 0
fifties Claimed = 0
fifties Stalemated = 0
fifties (Place n) = n / 50

abbrev last_byte : Word → ℕ
last_byte Seen = 46
last_byte Claimed = 61
last_byte Stalemated = 45
last_byte (Place n) = place_letter (n % 50)

no_fifty : (w : Word) → last_byte w ≢ 90
no_fifty Seen e = omega (arith, e)
no_fifty Claimed e = omega (arith, e)
no_fifty Stalemated e = omega (arith, e)
no_fifty (Place n) e = grind (arith, nat_tests)

spelled : (w : Word) → word_text w ≡ replicate (fifties w) 90 ++ last_byte w ∷ []
spelled Seen = refl
spelled Claimed = refl
spelled Stalemated = refl
spelled (Place n) = refl

-- the word by these two numbers
abbrev word_by : ℕ → ℕ → Word
word_by f byte = if nat_eq byte 46 then Seen else (if nat_eq byte 61 then Claimed else (if nat_eq byte 45 then Stalemated else Place (50 * f + (if nat_lt byte 91 then byte - 39 else byte - 97))))

word_is : (w : Word) → word_by (fifties w) (last_byte w) ≡ w
word_is Seen = refl
word_is Claimed = refl
word_is Stalemated = refl
word_is (Place n) = grind (arith, nat_tests)

one_word : (v w : Word) → fifties v ≡ fifties w → last_byte v ≡ last_byte w → v ≡ w
one_word v w k e = sym (word_is v) ∙ (ap (λ f. word_by f (last_byte v)) k ∙ (ap (λ byte. word_by (fifties w) byte) e ∙ word_is w))

-- ---- texts that begin with Zs

one_start : (k f c d : ℕ) (x y : List ℕ) → c ≢ 90 → d ≢ 90 → replicate k 90 ++ c ∷ x ≡ replicate f 90 ++ d ∷ y → (k ≡ f) × (c ≡ d) × (x ≡ y)
one_start zero zero c d x y other also e = (refl, same_head c d x y e, same_tail c d x y e)
one_start zero (suc f) c d x y other also e = absurd (other (same_head c 90 x _ e))
one_start (suc k) zero c d x y other also e = absurd (also (sym (same_head 90 d _ y e)))
one_start (suc k) (suc f) c d x y other also e =
    let rest = one_start k f c d x y other also (same_tail 90 90 _ _ e) in
    (ap suc rest.0, rest.1, rest.2)

only_fifties : (k f c : ℕ) (x : List ℕ) → c ≢ 90 → replicate k 90 ++ c ∷ x ≡ replicate f 90 → ⊥
only_fifties zero zero c x other e = cc
only_fifties (suc k) zero c x other e = cc
only_fifties zero (suc f) c x other e = other (same_head c 90 x _ e)
only_fifties (suc k) (suc f) c x other e = only_fifties k f c x other (same_tail 90 90 _ _ e)

-- ---- lines

line_spelled : (w : Word) (words : List Word) → words_line (w ∷ words) ≡ replicate (fifties w) 90 ++ last_byte w ∷ words_line words
line_spelled w words =
    ap (λ (x : List ℕ). x ++ words_line words) (spelled w) ∙ append_assoc (replicate (fifties w) 90) (last_byte w ∷ []) (words_line words)

pub one_line : (words others : List Word) → words_line words ≡ words_line others → words ≡ others
one_line [] [] e = refl
one_line [] (w ∷ others) e = absurd (only_fifties (fifties w) 0 (last_byte w) (words_line others) (no_fifty w) (sym (line_spelled w others) ∙ sym e))
one_line (v ∷ words) [] e = absurd (only_fifties (fifties v) 0 (last_byte v) (words_line words) (no_fifty v) (sym (line_spelled v words) ∙ e))
one_line (v ∷ words) (w ∷ others) e =
    let same = one_start (fifties v) (fifties w) (last_byte v) (last_byte w) (words_line words) (words_line others) (no_fifty v) (no_fifty w) (sym (line_spelled v words) ∙ (e ∙ line_spelled w others)) in
    ap (λ (x : Word). x ∷ words) (one_word v w same.0 same.1) ∙ ap (λ (l : List Word). w ∷ l) (one_line words others same.2)

more_spelled : (w : Word) (words : List Word) (rest : List ℕ) → words_line (w ∷ words) ++ rest ≡ replicate (fifties w) 90 ++ last_byte w ∷ (words_line words ++ rest)
more_spelled w words rest = ap (λ (x : List ℕ). x ++ rest) (line_spelled w words) ∙ append_assoc (replicate (fifties w) 90) (last_byte w ∷ words_line words) rest

-- words of which the first ones were read
after_read : (read others : List Word) (rest : List ℕ) → words_line others ≡ words_line read ++ rest → (more : List Word) × (words_line more ≡ rest)
after_read [] others rest e = (others, e)
after_read (v ∷ read) [] rest e = absurd (only_fifties (fifties v) 0 (last_byte v) (words_line read ++ rest) (no_fifty v) (sym (more_spelled v read rest) ∙ sym e))
after_read (v ∷ read) (w ∷ others) rest e =
    let same = one_start (fifties w) (fifties v) (last_byte w) (last_byte v) (words_line others) (words_line read ++ rest) (no_fifty w) (no_fifty v) (sym (line_spelled w others) ∙ (e ∙ more_spelled v read rest)) in
    after_read read others rest same.2

-- a byte that ends no word
no_word_there : (f byte : ℕ) (rest : List ℕ) → byte ≢ 90 → ((w : Word) → word_text w ≢ replicate f 90 ++ byte ∷ []) → (more : List Word) → words_line more ≡ replicate f 90 ++ byte ∷ rest → ⊥
no_word_there f byte rest other none [] e = only_fifties f 0 byte rest other (sym e)
no_word_there f byte rest other none (w ∷ more) e =
    let same = one_start (fifties w) f (last_byte w) byte (words_line more) rest (no_fifty w) other (sym (line_spelled w more) ∙ e) in
    none w (spelled w ∙ (ap (λ k. replicate k 90 ++ last_byte w ∷ []) same.0 ∙ ap (λ x. replicate f 90 ++ x ∷ []) same.1))

pub no_such_words : (line : List ℕ) (read : List Word) (f i byte : ℕ) → i < length line → byte ≡ get_or line i byte → take i line ≡ words_line read ++ replicate f 90 → byte ≢ 90 → ((w : Word) → word_text w ≢ replicate f 90 ++ byte ∷ []) → (others : List Word) → line ≡ words_line others → ⊥
no_such_words line read f i byte lt is so_far other none others e =
    let cut : line ≡ take i line ++ byte ∷ drop (i + 1) line =
    sym (take-append-drop i line) ∙ (ap (λ (l : List ℕ). take i line ++ l) (drop_more line i byte lt) ∙ ap (λ x. take i line ++ x ∷ drop (i + 1) line) (sym is)) in
    let whole : words_line others ≡ words_line read ++ (replicate f 90 ++ byte ∷ drop (i + 1) line) =
    sym e ∙ (cut ∙ (ap (λ (l : List ℕ). l ++ byte ∷ drop (i + 1) line) so_far ∙ append_assoc (words_line read) (replicate f 90) (byte ∷ drop (i + 1) line))) in
    let left = after_read read others (replicate f 90 ++ byte ∷ drop (i + 1) line) whole in
    no_word_there f byte (drop (i + 1) line) other none left.0 left.1

pub no_last_word : (line : List ℕ) (read : List Word) (f i : ℕ) → length line ≤ i → take i line ≡ words_line read ++ replicate f 90 → f ≢ 0 → (others : List Word) → line ≡ words_line others → ⊥
no_last_word line read f i whole so_far some others e =
    let left = after_read read others (replicate f 90) (sym e ∙ (sym (take_all i line whole) ∙ so_far)) in
    ends f left.0 some left.1
  where
    ends : (f : ℕ) (more : List Word) → f ≢ 0 → words_line more ≡ replicate f 90 → ⊥
    ends zero more some e = some refl
    ends (suc f) [] some e = cc
    ends (suc f) (w ∷ more) some e = only_fifties (fifties w) (suc f) (last_byte w) (words_line more) (no_fifty w) (sym (line_spelled w more) ∙ e)
