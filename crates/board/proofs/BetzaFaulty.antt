-- The fault of a piece string.
use Rattle.std.proofs.Common.{◌≡◌, ◌≢◌, ℕ, ◌<◌, ◌≤◌, Bool, true, false, refl, sym, ap, subst, ◌∙◌, arith, lit<, List, [], ◌∷◌, ◌++◌, All, Any, append-nil}
use Rattle.board.proofs.Common.{All-append, All-cons, All-nil, All-contains, BetzaFault, Empty, Letter, Modifier, Repeated, Mode, Move, Capture, Both, Atom, Wazir, Ferz, Term, AreDistinct, mode_text, forward_text, doubled_text, atom_text, IsLetter, IsWord, IsRead, IsReading, rook, bishop, queen, king, term, short, last, more, betza_fault_number, BetzaFaultHolds, IsBetzaFault}
use Rattle.board.specs.BetzaFaults.{IsReadable}
use Rattle.board.specs.declared.terms.Atom.TheVariants.{Knight}
use Rattle.board.proofs.WordByWord.{AreWords, AreWords-read, IsRead-words, IsReadTo, no_words, not_empty, not_words}
use Rattle.board.proofs.WordByWord.AreWords.{none, next}

-- ---- the bytes of words are letters

one_letter : (c : ℕ) → IsLetter c → All IsLetter (c ∷ [])
one_letter c h = All-cons IsLetter c [] h (All-nil IsLetter)

mode_letters : (m : Mode) → All IsLetter (mode_text m)
mode_letters Move = one_letter 109 (0, lit< tt, refl)
mode_letters Capture = one_letter 99 (1, lit< tt, refl)
mode_letters Both = All-nil IsLetter

forward_letters : (f : Bool) → All IsLetter (forward_text f)
forward_letters true = one_letter 102 (2, lit< tt, refl)
forward_letters false = All-nil IsLetter

atom_letters : (a : Atom) → All IsLetter (atom_text a)
atom_letters Wazir = one_letter 87 (3, lit< tt, refl)
atom_letters Ferz = one_letter 70 (4, lit< tt, refl)
atom_letters Knight = one_letter 78 (5, lit< tt, refl)

doubled_letters : (r : Bool) (bytes : List ℕ) → All IsLetter bytes → All IsLetter (doubled_text r bytes)
doubled_letters true bytes h = All-append IsLetter bytes bytes h h
doubled_letters false bytes h = h

word_letters : (bytes : List ℕ) (terms : List Term) → IsWord bytes terms → All IsLetter bytes
word_letters bytes terms (term t w e) =
    subst (All IsLetter) (sym e)
    (All-append IsLetter (mode_text t.mode ++ forward_text t.forward) (doubled_text t.rider (atom_text t.atom))
    (All-append IsLetter (mode_text t.mode) (forward_text t.forward) (mode_letters t.mode) (forward_letters t.forward))
    (doubled_letters t.rider (atom_text t.atom) (atom_letters t.atom)))
word_letters bytes terms (short rook) = one_letter 82 (6, lit< tt, refl)
word_letters bytes terms (short bishop) = one_letter 66 (7, lit< tt, refl)
word_letters bytes terms (short queen) = one_letter 81 (8, lit< tt, refl)
word_letters bytes terms (short king) = one_letter 75 (9, lit< tt, refl)

letters_of_words : (text : List ℕ) (whole : List Term) → AreWords text whole → All IsLetter text
letters_of_words text whole (none e f) = subst (All IsLetter) (sym e) (All-nil IsLetter)
letters_of_words text whole (next {bytes = b} {rest = r} {terms = ts} {others = others} w e f m) =
    subst (All IsLetter) (sym e) (All-append IsLetter b r (word_letters b ts w) (letters_of_words r others m))

-- ---- the conditions

foreign : (text : List ℕ) → Any (λ c. IsLetter c → ⊥) text → All IsLetter text → ⊥
foreign text (k, c, p, e, h) all = h (All-contains IsLetter text c all (k, p, e))

empty_read : (text : List ℕ) (terms : List Term) → text ≡ [] → IsRead text terms → ⊥
empty_read text terms e (last w) = not_empty text text [] terms w (sym (append-nil text)) e
empty_read text terms e (more {bytes = b} {rest = r} {terms = ts} w m) = not_empty text b r ts w refl e

-- a string with an accepted reading has no fault
pub no_fault : (text : List ℕ) (terms : List Term) (f : BetzaFault) → IsReading text terms → BetzaFaultHolds f text → ⊥
no_fault text terms Empty r h = empty_read text terms h r.read
no_fault text terms Letter r h = foreign text h (letters_of_words text terms (AreWords-read text terms r.read))
no_fault text terms Modifier r h = h (terms, r.read)
no_fault text terms Repeated r h = h.1 terms r

module _ (text : List ℕ) (some : text ≢ []) (all : All IsLetter text) where
  none_to : (n : ℕ) → n ≤ 4 → (3 < n → IsReadable text) → (f : BetzaFault) → betza_fault_number f < n → BetzaFaultHolds f text → ⊥
  none_to n le read Empty p h = some h
  none_to n le read Letter p h = foreign text h all
  none_to n le read Modifier p h = h (read p)
  none_to n le read Repeated p h = absurd (omega arith)

  pub unreadable : (rest : List ℕ) (so_far : List Term) → IsReadTo text rest so_far → rest ≢ [] → ((bytes more : List ℕ) (terms : List Term) → IsWord bytes terms → rest ≡ bytes ++ more → ⊥) → IsBetzaFault text Modifier
  unreadable rest so_far r left no_word = record {
    holds = λ (terms, read). let later = r.goes_on terms (AreWords-read text terms read) in not_words rest left no_word later.0 later.1;
    least = none_to 3 (omega arith) (λ p. absurd (omega arith));
  }

  module _ (so_far : List Term) (r : IsReadTo text [] so_far) where
    whole : IsRead text so_far
    whole = IsRead-words text so_far (subst (λ x. AreWords x so_far) (sym (r.begins ∙ append-nil r.before)) r.words) some

    pub accepted : AreDistinct so_far → IsReading text so_far
    accepted d = record { read = whole; distinct = d }

    pub repeated : (AreDistinct so_far → ⊥) → IsBetzaFault text Repeated
    repeated d = record {
      holds = (
        (so_far, whole),
        λ terms reading.
            let w = r.goes_on terms (AreWords-read text terms reading.read) in
            d (subst AreDistinct (w.2 reading.distinct ∙ ap (λ x. so_far ++ x) (no_words [] w.0 refl w.1) ∙ append-nil so_far) reading.distinct),
      );
      least = none_to 4 (omega arith) (λ p. (so_far, whole));
    }
