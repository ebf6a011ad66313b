-- What words a text begins with: one, or a term and the same term with its atom doubled.
use Rattle.std.proofs.Common.{◌≡◌, ◌≢◌, IsTrue, subst, ◌⊎◌, inl, inr, ℕ, cond, eqb, Bool, true, false, refl, sym, ap, ◌∙◌, List, [], ◌∷◌, ◌++◌, Option, Some, None, append_assoc}
use Rattle.board.proofs.Common.{false≢true, IsFirstWord, IsUndoubled, StartsNot, Mode, Move, Capture, Both, Atom, Wazir, Ferz, Term, single, doubled, mode_text, forward_text, atom_text, doubled_text, term_text, IsShorthand, IsWord, rook, bishop, queen, king, term, short}
use Rattle.board.specs.declared.terms.Atom.TheVariants.{Knight}

abbrev pub atom_letter : Atom → ℕ
atom_letter Wazir = 87
atom_letter Ferz = 70
atom_letter Knight = 78

-- what holds of each atom
by_atoms : (P : Atom → Type 0) → P Wazir → P Ferz → P Knight → (a : Atom) → P a
by_atoms P w f n Wazir = w
by_atoms P w f n Ferz = f
by_atoms P w f n Knight = n

atom_text-letter : (a : Atom) → atom_text a ≡ atom_letter a ∷ []
atom_text-letter = by_atoms (λ a. atom_text a ≡ atom_letter a ∷ []) refl refl refl

-- ---- how a text begins

-- a term's modifiers and atom and what follows its first letter, or the terms of a shorthand and what follows it
abbrev Start : Type 0
Start = (Mode × Bool × Atom × List ℕ) ⊎ (List Term × List ℕ)

abbrev letter_start : Mode → Bool → List ℕ → Option Start
letter_start m f [] = None
letter_start m f (c ∷ cs) = cond (eqb c 87) (Some (inl (m, f, Wazir, cs))) (cond (eqb c 70) (Some (inl (m, f, Ferz, cs))) (cond (eqb c 78) (Some (inl (m, f, Knight, cs))) None))

abbrev forward_start : Mode → List ℕ → Option Start
forward_start m [] = None
forward_start m (c ∷ cs) = cond (eqb c 102) (letter_start m true cs) (letter_start m false (c ∷ cs))

abbrev short_start : ℕ → List ℕ → Option Start → Option Start
short_start c cs other = cond (eqb c 82) (Some (inr (doubled Wazir ∷ [], cs))) (cond (eqb c 66) (Some (inr (doubled Ferz ∷ [], cs))) (cond (eqb c 81) (Some (inr (doubled Wazir ∷ doubled Ferz ∷ [], cs))) (cond (eqb c 75) (Some (inr (single Wazir ∷ single Ferz ∷ [], cs))) other)))

abbrev start : List ℕ → Option Start
start [] = None
start (c ∷ cs) = short_start c cs (cond (eqb c 109) (forward_start Move cs) (cond (eqb c 99) (forward_start Capture cs) (forward_start Both (c ∷ cs))))

start_short : (bytes r : List ℕ) (terms : List Term) → IsShorthand bytes terms → start (bytes ++ r) ≡ Some (inr (terms, r))
start_short bytes r terms rook = refl
start_short bytes r terms bishop = refl
start_short bytes r terms queen = refl
start_short bytes r terms king = refl

abbrev IsSpelled : Mode → Bool → List ℕ → Atom → Type 0
IsSpelled m f x a = start (mode_text m ++ (forward_text f ++ (atom_letter a ∷ x))) ≡ Some (inl (m, f, a, x))

start_spelled : (m : Mode) (f : Bool) (a : Atom) (x : List ℕ) → IsSpelled m f x a
start_spelled Move true a x = by_atoms (IsSpelled Move true x) refl refl refl a
start_spelled Move false a x = by_atoms (IsSpelled Move false x) refl refl refl a
start_spelled Capture true a x = by_atoms (IsSpelled Capture true x) refl refl refl a
start_spelled Capture false a x = by_atoms (IsSpelled Capture false x) refl refl refl a
start_spelled Both true a x = by_atoms (IsSpelled Both true x) refl refl refl a
start_spelled Both false a x = by_atoms (IsSpelled Both false x) refl refl refl a

-- what follows a term's first letter
abbrev after_letter : Bool → ℕ → List ℕ → List ℕ
after_letter true c rest = c ∷ rest
after_letter false c rest = rest

letters : (r : Bool) (a : Atom) (rest : List ℕ) → doubled_text r (atom_text a) ++ rest ≡ atom_letter a ∷ after_letter r (atom_letter a) rest
letters true a rest = by_atoms (λ a. doubled_text true (atom_text a) ++ rest ≡ atom_letter a ∷ atom_letter a ∷ rest) refl refl refl a
letters false a rest = ap (λ x. x ++ rest) (atom_text-letter a)

-- a term's text, as its modifiers and its letters
spelled : (t : Term) (rest : List ℕ) → term_text t ++ rest ≡ mode_text t.mode ++ (forward_text t.forward ++ (doubled_text t.rider (atom_text t.atom) ++ rest))
spelled t rest =
    append_assoc (mode_text t.mode ++ forward_text t.forward) (doubled_text t.rider (atom_text t.atom)) rest
    ∙ append_assoc (mode_text t.mode) (forward_text t.forward) (doubled_text t.rider (atom_text t.atom) ++ rest)

start_term : (t : Term) (rest : List ℕ) → start (term_text t ++ rest) ≡ Some (inl (t.mode, t.forward, t.atom, after_letter t.rider (atom_letter t.atom) rest))
start_term t rest =
    ap start (spelled t rest ∙ ap (λ x. mode_text t.mode ++ (forward_text t.forward ++ x)) (letters t.rider t.atom rest))
    ∙ start_spelled t.mode t.forward t.atom (after_letter t.rider (atom_letter t.atom) rest)

-- no word has no bytes
pub some_bytes : {A : Type 0} (terms : List Term) → IsWord [] terms → A
some_bytes terms (term t w e) = let nothing : None ≡ Some _ = ap (λ x. start (x ++ [])) e ∙ start_term t [] in cc
some_bytes terms (short s) = elim s [ ]

-- ---- words

-- the second word is the first with its atom doubled: the rest of the first is that letter and the rest of the second
pub record IsHalf (r : List ℕ) (ts : List Term) (s : List ℕ) (us : List Term) : Type 0 where
  pub half : Term
  pub once : half.rider ≡ false
  pub terms : ts ≡ half ∷ []
  pub twice : Term
  pub doubled : twice.rider ≡ true
  pub others : us ≡ twice ∷ []
  pub atoms : twice.atom ≡ half.atom
  pub rest : r ≡ atom_text half.atom ++ s

pub data AreTwo (r : List ℕ) (ts : List Term) (s : List ℕ) (us : List Term) : Type 0 where
  same : ts ≡ us → r ≡ s → AreTwo r ts s us
  first_half : IsHalf r ts s us → AreTwo r ts s us
  second_half : IsHalf s us r ts → AreTwo r ts s us

two_terms : (t u : Term) (r s : List ℕ) → term_text t ++ r ≡ term_text u ++ s → AreTwo r (t ∷ []) s (u ∷ [])
two_terms t u r s e = by t.rider u.rider refl refl (ap (λ x. x.3) parts)
  where
    parts : ◌≡◌ {A = Mode × Bool × Atom × List ℕ} (t.mode, t.forward, t.atom, after_letter t.rider (atom_letter t.atom) r) (u.mode, u.forward, u.atom, after_letter u.rider (atom_letter u.atom) s)
    parts = let both = sym (start_term t r) ∙ ap start e ∙ start_term u s in cc

    atoms : t.atom ≡ u.atom
    atoms = ap (λ x. x.2) parts

    same_term : t.rider ≡ u.rider → t ∷ [] ≡ u ∷ []
    same_term d = λ i. record { mode = (ap (λ x. x.0) parts) i; forward = (ap (λ x. x.1) parts) i; atom = atoms i; rider = d i } ∷ []

    letter : (a b : Atom) (x : List ℕ) → a ≡ b → atom_letter a ∷ x ≡ atom_text b ++ x
    letter a b x h = ap (λ c. atom_letter c ∷ x) h ∙ ap (λ y. y ++ x) (sym (atom_text-letter b))

    by : (x y : Bool) → t.rider ≡ x → u.rider ≡ y → after_letter t.rider (atom_letter t.atom) r ≡ after_letter u.rider (atom_letter u.atom) s → AreTwo r (t ∷ []) s (u ∷ [])
    by true true f g h = let rests : atom_letter t.atom ∷ r ≡ atom_letter u.atom ∷ s = rw (f, g) at h in same (same_term (f ∙ sym g)) cc
    by false false f g h = let rests : r ≡ s = rw (f, g) at h in same (same_term (f ∙ sym g)) rests
    by false true f g h =
        let rests : r ≡ atom_letter u.atom ∷ s = rw (f, g) at h in
        first_half (record { half = t; once = f; terms = refl; twice = u; doubled = g; others = refl; atoms = sym atoms; rest = rests ∙ letter u.atom t.atom s (sym atoms) })
    by true false f g h =
        let rests : atom_letter t.atom ∷ r ≡ s = rw (f, g) at h in
        second_half (record { half = u; once = g; terms = refl; twice = t; doubled = f; others = refl; atoms = atoms; rest = sym rests ∙ letter t.atom u.atom r atoms })

-- two words that one text begins with
pub two_words : (b r c s : List ℕ) (ts us : List Term) → IsWord b ts → IsWord c us → b ++ r ≡ c ++ s → AreTwo r ts s us
two_words b r c s ts us (term t w p) (term u v q) e = two_terms t u r s (ap (λ x. x ++ r) (sym p) ∙ e ∙ ap (λ x. x ++ s) q)
two_words b r c s ts us (term t w p) (short y) e =
    let clash = sym (start_term t r) ∙ ap start (ap (λ x. x ++ r) (sym p) ∙ e) ∙ start_short c s us y in cc
two_words b r c s ts us (short x) (term u v q) e =
    let clash = sym (start_short b r ts x) ∙ ap start (e ∙ ap (λ z. z ++ s) q) ∙ start_term u s in cc
two_words b r c s ts us (short x) (short y) e =
    let both = sym (start_short b r ts x) ∙ ap start e ∙ start_short c s us y in
    let parts : ◌≡◌ {A = List Term × List ℕ} (ts, r) (us, s) = cc in
    same (ap (λ x. x.0) parts) (ap (λ x. x.1) parts)

-- ---- the first word

-- the parts of a term, each as long as can be
pub term_first : (text ahead body rest : List ℕ) (letter : ℕ) (m : Mode) (f : Bool) (a : Atom) (r : Bool)
    → text ≡ mode_text m ++ ahead → ahead ≡ forward_text f ++ body → letter ∷ [] ≡ atom_text a
    → body ≡ doubled_text r (letter ∷ []) ++ rest → (r ≡ false → StartsNot letter rest) → (IsTrue f → a ≢ Knight)
    → IsFirstWord text (record { mode = m; forward = f; atom = a; rider = r } ∷ []) rest
term_first text ahead body rest letter m f a r e1 e2 e3 e4 d w =
    let t : Term = record { mode = m; forward = f; atom = a; rider = r } in
    record {
      bytes = term_text t;
      word = term t w refl;
      begins = e1 ∙ ap (λ x. mode_text m ++ x) (e2 ∙ ap (λ x. forward_text f ++ x) (e4 ∙ ap (λ x. doubled_text r x ++ rest) e3)) ∙ sym (spelled t rest);
      whole = λ h after e. subst (StartsNot letter) (e ∙ ap (λ x. x ++ after) (sym e3)) (d h) refl;
    }

pub short_first : (text bytes rest : List ℕ) (terms : List Term) → IsShorthand bytes terms → text ≡ bytes ++ rest → IsFirstWord text terms rest
short_first text bytes rest terms s e = record { bytes = bytes; word = short s; begins = e; whole = by s }
  where
    by : {bytes : List ℕ} {terms : List Term} → IsShorthand bytes terms → IsUndoubled terms rest
    by rook = λ h. absurd (false≢true (sym h))
    by bishop = λ h. absurd (false≢true (sym h))
    by queen = tt
    by king = tt
