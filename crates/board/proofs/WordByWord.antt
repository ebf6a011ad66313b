-- Reading a string word by word, each word as long as can be: nothing else can be its accepted reading.
use Rattle.std.proofs.Common.{◌≡◌, ◌≢◌, ℕ, ◌+◌, ◌<◌, refl, sym, ap, subst, ◌∙◌, arith, List, [], ◌∷◌, ◌++◌, length, append_assoc, length-append}
use Rattle.board.proofs.Common.{false≢true, append-nil, get_or-append-add, get_or_append_left, Atom, Term, single, AreDistinct, atom_text, IsWord, IsRead, IsFirstWord, IsUndoubled, IsReading, term, last, more}
use Rattle.board.proofs.TwoWords.{IsHalf, two_words, some_bytes}
use Rattle.board.proofs.TwoWords.AreTwo.{same, first_half, second_half}

-- the bytes are words, or there are none
pub data AreWords : List ℕ → List Term → Type 0 where
  none : {text : List ℕ} {whole : List Term} → text ≡ [] → whole ≡ [] → AreWords text whole
  next : {text bytes rest : List ℕ} {whole terms others : List Term} → IsWord bytes terms → text ≡ bytes ++ rest → whole ≡ terms ++ others → AreWords rest others → AreWords text whole

pub AreWords-read : (text : List ℕ) (terms : List Term) → IsRead text terms → AreWords text terms
AreWords-read text terms (last w) = next w (sym (append-nil text)) (sym (append-nil terms)) (none refl refl)
AreWords-read text terms (more {rest = rest} {others = others} w r) = next w refl refl (AreWords-read rest others r)

word_long : (bytes : List ℕ) (terms : List Term) → IsWord bytes terms → 0 < length bytes
word_long [] terms w = some_bytes terms w
word_long (c ∷ bytes) terms w = omega arith

pub not_empty : {A : Type 0} (text bytes rest : List ℕ) (terms : List Term) → IsWord bytes terms → text ≡ bytes ++ rest → text ≡ [] → A
not_empty text bytes rest terms w e f = absurd (omega (arith, word_long bytes terms w, length-append bytes rest, ap (length {A = ℕ}) (sym e ∙ f)))

pub no_words : (text : List ℕ) (terms : List Term) → text ≡ [] → AreWords text terms → terms ≡ []
no_words text terms e (none f g) = g
no_words text terms e (next {bytes = bytes} {rest = rest} {terms = first} w f g r) = not_empty text bytes rest first w f e

pub IsRead-words : (text : List ℕ) (whole : List Term) → AreWords text whole → text ≢ [] → IsRead text whole
IsRead-words text whole (none e f) h = absurd (h e)
IsRead-words text whole (next {bytes = bytes} {rest = []} {terms = terms} {others = others} w e f r) h =
    let nothing = no_words [] others refl r in
    rw (e, f, nothing, append-nil bytes, append-nil terms) (last w)
IsRead-words text whole (next {bytes = bytes} {rest = c ∷ cs} {terms = terms} {others = others} w e f r) h =
    rw (e, f) (more w (IsRead-words (c ∷ cs) others r (λ k. cc)))

-- more words after these
words_then : (text rest : List ℕ) (whole others : List Term) → AreWords text whole → AreWords rest others → AreWords (text ++ rest) (whole ++ others)
words_then text rest whole others (none e f) r = subst (λ x. AreWords (x ++ rest) (whole ++ others)) (sym e) (subst (λ x. AreWords rest (x ++ others)) (sym f) r)
words_then text rest whole others (next {bytes = bytes} {rest = middle} {terms = terms} {others = those} w e f m) r =
    next w (ap (λ x. x ++ rest) e ∙ append_assoc bytes middle rest) (ap (λ x. x ++ others) f ∙ append_assoc terms those others) (words_then middle rest those others m r)

-- ---- a letter that could have been doubled

bare_word : (a : Atom) → IsWord (atom_text a) (single a ∷ [])
bare_word a = term (single a) (λ f. absurd (false≢true f)) refl

-- a text that begins with an atom's bare letter has a first term of that atom, and words without that letter
record BeginsBare (a : Atom) (rest : List ℕ) (whole : List Term) : Type 0 where
  first : Term
  others : List Term
  terms : whole ≡ first ∷ others
  atom : first.atom ≡ a
  later : List Term
  words : AreWords rest later

begins_bare : (a : Atom) (rest text : List ℕ) (whole : List Term) → text ≡ atom_text a ++ rest → AreWords text whole → BeginsBare a rest whole
begins_bare a rest text whole b (none e f) = not_empty text (atom_text a) rest (single a ∷ []) (bare_word a) b e
begins_bare a rest text whole b (next {bytes = bytes} {rest = after} {terms = terms} {others = others} w e f r) =
    elim (two_words (atom_text a) rest bytes after (single a ∷ []) terms (bare_word a) w (sym b ∙ e)) [
      | same p q ↦ record { first = single a; others = others; terms = f ∙ ap (λ x. x ++ others) (sym p); atom = refl; later = others; words = subst (λ x. AreWords x others) (sym q) r }
      | first_half h ↦
          let is : single a ≡ h.half = cc in
          record {
            first = h.twice;
            others = others;
            terms = f ∙ ap (λ x. x ++ others) h.others;
            atom = h.atoms ∙ ap (λ (t : Term). t.atom) (sym is);
            later = single h.half.atom ∷ others;
            words = next (bare_word h.half.atom) h.rest refl r;
          }
      | second_half h ↦
          let is : single a ≡ h.twice = cc in
          absurd (false≢true (ap (λ (t : Term). t.rider) is ∙ h.doubled))
    ]

-- a term whose letter the next word could double is in no accepted reading
half_read : {A : Type 0} (whole ts others : List Term) (t : Term) (rest after : List ℕ) → AreDistinct whole → whole ≡ ts ++ others → ts ≡ t ∷ [] → rest ≡ atom_text t.atom ++ after → AreWords rest others → A
half_read whole ts others t rest after d e f g r =
    let b = begins_bare t.atom after rest others g r in
    absurd (subst AreDistinct (e ∙ ap (λ x. x ++ others) f ∙ ap (λ x. t ∷ x) b.terms) d 0 1 t (omega arith) (omega arith) (sym b.atom))

-- a whole word isn't the half of another
not_half : {A : Type 0} (terms ts : List Term) (rest r : List ℕ) → IsUndoubled terms rest → IsHalf rest terms r ts → A
not_half terms ts rest r whole h = absurd (subst (λ x. IsUndoubled x rest) h.terms whole h.once r h.rest)

-- ---- one word

-- what follows words of a text is words, and an accepted reading of the text begins with theirs
abbrev GoesOn : List ℕ → List ℕ → List Term → Type 0
GoesOn text rest terms = (whole : List Term) → AreWords text whole → (later : List Term) × AreWords rest later × (AreDistinct whole → whole ≡ terms ++ later)

first_word : (text rest : List ℕ) (terms : List Term) → IsFirstWord text terms rest → GoesOn text rest terms
first_word text rest terms l whole (none e f) = not_empty text l.bytes rest terms l.word l.begins e
first_word text rest terms l whole (next {bytes = b} {rest = r} {terms = ts} {others = others} w e f m) =
    elim (two_words b r l.bytes rest ts terms w l.word (sym e ∙ l.begins)) [
      | same p q ↦ (others, subst (λ x. AreWords x others) q m, λ d. f ∙ ap (λ x. x ++ others) p)
      | first_half h ↦
          let bare = begins_bare h.half.atom rest r others h.rest m in
          (bare.later, bare.words, λ d. half_read whole ts others h.half r rest d f h.terms h.rest m)
      | second_half h ↦ not_half terms ts rest r l.whole h
    ]

-- ---- the words read so far

pub record IsReadTo (text rest : List ℕ) (so_far : List Term) : Type 0 where
  pub before : List ℕ
  pub begins : text ≡ before ++ rest
  pub words : AreWords before so_far
  pub goes_on : GoesOn text rest so_far

pub none_read : (text : List ℕ) → IsReadTo text text []
none_read text = record { before = []; begins = refl; words = none refl refl; goes_on = λ whole w. (whole, w, λ d. refl) }

pub front_distinct : (xs ys : List Term) → AreDistinct (xs ++ ys) → AreDistinct xs
front_distinct xs ys h = λ i j d p q e.
    let second = get_or_append_left xs ys d j q in
    let first = get_or_append_left xs ys d i (omega (arith, p, q)) in
    h i j d p (omega (arith, q, length-append xs ys)) (ap (λ (t : Term). t.atom) first ∙ e ∙ sym (ap (λ (t : Term). t.atom) second))

tail_distinct : (xs ys : List Term) → AreDistinct (xs ++ ys) → AreDistinct ys
tail_distinct xs ys h = λ i j d p q e.
    h (length xs + i) (length xs + j) d (omega (arith, p)) (omega (arith, q, length-append xs ys))
    (ap (λ (t : Term). t.atom) (get_or-append-add xs ys i d) ∙ e ∙ sym (ap (λ (t : Term). t.atom) (get_or-append-add xs ys j d)))

pub one_read : (text rest after : List ℕ) (so_far terms : List Term) → IsReadTo text rest so_far → IsFirstWord rest terms after → IsReadTo text after (so_far ++ terms)
one_read text rest after so_far terms r l = record {
  before = r.before ++ l.bytes;
  begins = r.begins ∙ ap (λ x. r.before ++ x) l.begins ∙ sym (append_assoc r.before l.bytes after);
  words = words_then r.before l.bytes so_far terms r.words (next l.word (sym (append-nil l.bytes)) (sym (append-nil terms)) (none refl refl));
  goes_on = λ whole w.
      let s = r.goes_on whole w in
      let t = first_word rest after terms l s.0 s.1 in
      (t.0, t.1, λ d. s.2 d ∙ ap (λ x. so_far ++ x) (t.2 (tail_distinct so_far s.0 (subst AreDistinct (s.2 d) d))) ∙ sym (append_assoc so_far terms t.0));
}

-- ---- a string has one accepted reading

one : (text : List ℕ) (ts us : List Term) → AreWords text ts → AreWords text us → AreDistinct ts → AreDistinct us → ts ≡ us
one text ts us (none e f) k d d' = f ∙ sym (no_words text us e k)
one text ts us (next {bytes = b} {rest = r} {terms = ps} w e f m) (none g h) d d' = not_empty text b r ps w e g
one text ts us (next {bytes = b} {rest = r} {terms = ps} {others = others} w e f m) (next {bytes = c} {rest = s} {terms = qs} {others = those} v g h n) d d' =
    elim (two_words b r c s ps qs w v (sym e ∙ g)) [
      | same x y ↦
          let rests = one r others those m (subst (λ z. AreWords z those) (sym y) n) (tail_distinct ps others (subst AreDistinct f d)) (tail_distinct qs those (subst AreDistinct h d')) in
          f ∙ ap (λ z. z ++ others) x ∙ ap (λ z. qs ++ z) rests ∙ sym h
      | first_half k ↦ half_read ts ps others k.half r s d f k.terms k.rest m
      | second_half k ↦ half_read us qs those k.half s r d' h k.terms k.rest n
    ]

pub one_reading : (text : List ℕ) (terms others : List Term) → IsReading text terms → IsReading text others → terms ≡ others
one_reading text terms others r s = one text terms others (AreWords-read text terms r.read) (AreWords-read text others s.read) r.distinct s.distinct

-- ---- what the loop needs of a word

-- a word takes bytes
pub shorter : (text rest : List ℕ) (terms : List Term) → IsFirstWord text terms rest → length rest < length text
shorter text rest terms l = omega (arith, word_long l.bytes terms l.word, length-append l.bytes rest, ap (length {A = ℕ}) l.begins)

-- bytes that begin with no word are no words
pub not_words : (text : List ℕ) → text ≢ [] → ((bytes rest : List ℕ) (terms : List Term) → IsWord bytes terms → text ≡ bytes ++ rest → ⊥) → (whole : List Term) → AreWords text whole → ⊥
not_words text some no_word whole (none e f) = some e
not_words text some no_word whole (next {bytes = b} {rest = r} {terms = ts} w e f m) = no_word b r ts w e
