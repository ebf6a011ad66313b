-- A table of steps against the terms of a kind: a test that computes, and what it says.
use Rattle.std.proofs.Common.{◌≡◌, ℕ, ◌≤◌, ℤ, pos, negsuc, zero, suc, refl, sym, subst, ◌∙◌, arith, ◌⊎◌, inl, inr, Bool, true, false, ◌&&◌, ◌||◌, not, eqb, List, get_or, Any, Contains, IsTrue, ◌↔◌}
use Rattle.std.proofs.Common.{◌<ℤ◌}
use Rattle.std.specs.Int.RustNames.{unsigned_abs}
use Rattle.std.proofs.lemmas.Int.{ints}
use Rattle.std.specs.Ordering.{int_eq}
use Rattle.std.specs.List.{list_all, list_any}
use Rattle.std.specs.Bool.{Decides}
use Rattle.std.proofs.lemmas.Bool.{false≢true, and_parts, and_from, or_cases, or_left, or_right}
use Rattle.std.proofs.lemmas.Bool.Decides.{Decides-eqb, Decides-int_eq}
use Rattle.std.proofs.lemmas.List.Sums.{AllPass-from_list_all}
use Rattle.std.proofs.lemmas.List.Folds.{Any-from_list_any}
use Rattle.std.proofs.lemmas.List.Elements.{All-contains}
use Rattle.board.specs.declared.step.Mode.{Mode}
use Rattle.board.specs.declared.step.Mode.TheVariants.{Move, Capture, Both}
use Rattle.board.specs.declared.step.Step.{Step}
use Rattle.board.specs.declared.terms.Atom.{Atom}
use Rattle.board.specs.declared.terms.Atom.TheVariants.{Wazir, Ferz, Knight}
use Rattle.board.specs.declared.terms.Term.{Term}
use Rattle.board.specs.declared.game.Kind.{Kind}
use Rattle.board.specs.declared.game.Kind.TheVariants as kind
use Rattle.board.specs.Denotation.{IsLeap, IsAtomLeap, IsTermStep, Denotes, terms_of}
use Rattle.cells.specs.StepTables.{table_of}

-- ---- tests of each part

abbrev same_bool : Bool → Bool → Bool
same_bool true b = b
same_bool false true = false
same_bool false false = true

same_bool-decides : (a b : Bool) → Decides (same_bool a b) (a ≡ b)
same_bool-decides true true = (λ _. refl, λ _. refl)
same_bool-decides true false = (λ e. cc, λ e. cc)
same_bool-decides false true = (λ e. cc, λ e. cc)
same_bool-decides false false = (λ _. refl, λ _. refl)

abbrev same_mode : Mode → Mode → Bool
same_mode Move Move = true
same_mode Capture Capture = true
same_mode Both Both = true
same_mode _ _ = false

same_mode-decides : (a b : Mode) → Decides (same_mode a b) (a ≡ b)
same_mode-decides Move Move = (λ _. refl, λ _. refl)
same_mode-decides Move Capture = (λ e. cc, λ e. cc)
same_mode-decides Move Both = (λ e. cc, λ e. cc)
same_mode-decides Capture Move = (λ e. cc, λ e. cc)
same_mode-decides Capture Capture = (λ _. refl, λ _. refl)
same_mode-decides Capture Both = (λ e. cc, λ e. cc)
same_mode-decides Both Move = (λ e. cc, λ e. cc)
same_mode-decides Both Capture = (λ e. cc, λ e. cc)
same_mode-decides Both Both = (λ _. refl, λ _. refl)

-- two facts that are decided are decided together
both-decides : (r s : Bool) (P Q : Type 0) → Decides r P → Decides s Q → Decides (r && s) (P × Q)
both-decides r s P Q p q = (λ e. let w = and_parts r s e in (p.0 w.0, q.0 w.1), λ h. and_from r s (p.1 h.0) (q.1 h.1))

either-decides : (r s : Bool) (P Q : Type 0) → Decides r P → Decides s Q → Decides (r || s) (P ⊎ Q)
either-decides r s P Q p q = (
  λ e. elim (or_cases r s e) [ inl x ↦ inl (p.0 x) | inr y ↦ inr (q.0 y) ],
  λ h. elim h [ inl x ↦ or_left r s (p.1 x) | inr y ↦ or_right r s (q.1 y) ],
)

abbrev has_leap : ℕ → ℕ → ℤ → ℤ → Bool
has_leap m n dx dy = (eqb (unsigned_abs dx) m && eqb (unsigned_abs dy) n) || (eqb (unsigned_abs dx) n && eqb (unsigned_abs dy) m)

has_leap-decides : (m n : ℕ) (dx dy : ℤ) → Decides (has_leap m n dx dy) (IsLeap m n dx dy)
has_leap-decides m n dx dy = either-decides _ _ _ _
    (both-decides _ _ _ _ (Decides-eqb (unsigned_abs dx) m) (Decides-eqb (unsigned_abs dy) n))
    (both-decides _ _ _ _ (Decides-eqb (unsigned_abs dx) n) (Decides-eqb (unsigned_abs dy) m))

abbrev has_atom_leap : Atom → ℤ → ℤ → Bool
has_atom_leap Wazir dx dy = has_leap 1 0 dx dy
has_atom_leap Ferz dx dy = has_leap 1 1 dx dy
has_atom_leap Knight dx dy = has_leap 1 2 dx dy

has_atom_leap-decides : (a : Atom) (dx dy : ℤ) → Decides (has_atom_leap a dx dy) (IsAtomLeap a dx dy)
has_atom_leap-decides Wazir dx dy = has_leap-decides 1 0 dx dy
has_atom_leap-decides Ferz dx dy = has_leap-decides 1 1 dx dy
has_atom_leap-decides Knight dx dy = has_leap-decides 1 2 dx dy

-- a leap goes ahead, where the term asks for it
abbrev goes_ahead : Bool → ℤ → Bool
goes_ahead false dy = true
goes_ahead true (pos zero) = false
goes_ahead true (pos (suc n)) = true
goes_ahead true (negsuc n) = false

goes_ahead-decides : (f : Bool) (dy : ℤ) → Decides (goes_ahead f dy) (IsTrue f → pos 0 <ℤ dy)
goes_ahead-decides false dy = (λ _ e. absurd (false≢true e), λ _. refl)
goes_ahead-decides true (pos zero) = (λ e. cc, λ h. let w = h refl in absurd (omega (arith, ints, w)))
goes_ahead-decides true (pos (suc n)) = (λ _ _. omega (arith, ints), λ _. refl)
goes_ahead-decides true (negsuc n) = (λ e. cc, λ h. let w = h refl in absurd (omega (arith, ints, w)))

abbrev is_term_step : Term → Step → Bool
is_term_step t s = (has_atom_leap t.atom s.dx s.dy && goes_ahead t.forward s.dy) && (same_bool s.rider t.rider && same_mode s.mode t.mode)

is_term_step-decides : (t : Term) (s : Step) → Decides (is_term_step t s) (IsTermStep t s)
is_term_step-decides t s =
    let w = both-decides _ _ _ _
    (both-decides _ _ _ _ (has_atom_leap-decides t.atom s.dx s.dy) (goes_ahead-decides t.forward s.dy))
    (both-decides _ _ _ _ (same_bool-decides s.rider t.rider) (same_mode-decides s.mode t.mode)) in (
      λ e. let h = w.0 e in record { leap = record { atom = h.0.0; ahead = h.0.1 }; rider = h.1.0; mode = h.1.1 },
      λ h. w.1 ((h.leap.atom, h.leap.ahead), (h.rider, h.mode)),
    )

abbrev is_step : Step → Step → Bool
is_step s t = (int_eq t.dx s.dx && int_eq t.dy s.dy) && (same_bool t.rider s.rider && same_mode t.mode s.mode)

is_step-true : (s t : Step) → is_step s t ≡ true → t ≡ s
is_step-true s t e =
    let w = and_parts _ _ e in
    let xy = and_parts _ _ w.0 in
    let rm = and_parts _ _ w.1 in
    λ i. record {
      dx = (Decides-int_eq t.dx s.dx).0 xy.0 i;
      dy = (Decides-int_eq t.dy s.dy).0 xy.1 i;
      rider = (same_bool-decides t.rider s.rider).0 rm.0 i;
      mode = (same_mode-decides t.mode s.mode).0 rm.1 i;
    }

-- ---- a test of all small numbers

abbrev each_near : (ℤ → Bool) → Bool
each_near p = p (negsuc 1) && (p (negsuc 0) && (p (pos 0) && (p (pos 1) && p (pos 2))))

module _ (p : ℤ → Bool) (e : each_near p ≡ true) where
  minus_two : (p (negsuc 1) ≡ true) × ((p (negsuc 0) && (p (pos 0) && (p (pos 1) && p (pos 2)))) ≡ true)
  minus_two = and_parts (p (negsuc 1)) (p (negsuc 0) && (p (pos 0) && (p (pos 1) && p (pos 2)))) e

  minus_one : (p (negsuc 0) ≡ true) × ((p (pos 0) && (p (pos 1) && p (pos 2))) ≡ true)
  minus_one = and_parts (p (negsuc 0)) (p (pos 0) && (p (pos 1) && p (pos 2))) minus_two.1

  nought : (p (pos 0) ≡ true) × ((p (pos 1) && p (pos 2)) ≡ true)
  nought = and_parts (p (pos 0)) (p (pos 1) && p (pos 2)) minus_one.1

  one_two : (p (pos 1) ≡ true) × (p (pos 2) ≡ true)
  one_two = and_parts (p (pos 1)) (p (pos 2)) nought.1

  near_at : (n : ℤ) → unsigned_abs n ≤ 2 → p n ≡ true
  near_at (negsuc zero) h = minus_one.0
  near_at (negsuc (suc zero)) h = minus_two.0
  near_at (negsuc (suc (suc n))) h = absurd (omega arith)
  near_at (pos zero) h = nought.0
  near_at (pos (suc zero)) h = one_two.0
  near_at (pos (suc (suc zero))) h = one_two.1
  near_at (pos (suc (suc (suc n)))) h = absurd (omega arith)

-- a leap of an atom is near
atom_near : (a : Atom) (dx dy : ℤ) → IsAtomLeap a dx dy → (unsigned_abs dx ≤ 2) × (unsigned_abs dy ≤ 2)
atom_near Wazir dx dy (inl h) = (omega (arith, h.0), omega (arith, h.1))
atom_near Wazir dx dy (inr h) = (omega (arith, h.0), omega (arith, h.1))
atom_near Ferz dx dy (inl h) = (omega (arith, h.0), omega (arith, h.1))
atom_near Ferz dx dy (inr h) = (omega (arith, h.0), omega (arith, h.1))
atom_near Knight dx dy (inl h) = (omega (arith, h.0), omega (arith, h.1))
atom_near Knight dx dy (inr h) = (omega (arith, h.0), omega (arith, h.1))

-- ---- the table

abbrev step_of : Term → ℤ → ℤ → Step
step_of t dx dy = record { dx = dx; dy = dy; rider = t.rider; mode = t.mode }

-- each step of the table is denoted, and each denoted step stands in it
abbrev pub is_table : List Term → List Step → Bool
is_table terms steps =
    list_all (λ s. list_any (λ t. is_term_step t s) terms) steps
    && list_all (λ t. each_near (λ dx. each_near (λ dy. not (is_term_step t (step_of t dx dy)) || list_any (is_step (step_of t dx dy)) steps))) terms

any_weaker : {X : Type 0} (P Q : X → Type 0) (xs : List X) → ((x : X) → P x → Q x) → Any P xs → Any Q xs
any_weaker P Q xs f (k, x, h, e, p) = (k, x, h, e, f x p)

contains_any : (steps : List Step) (s : Step) → Any (λ t. t ≡ s) steps → Contains steps s
contains_any steps s (k, t, h, e, same) = (k, h, subst (λ x. get_or steps k x ≡ x) same e)

not_or : (r s : Bool) → (not r || s) ≡ true → r ≡ true → s ≡ true
not_or true s e h = e
not_or false s e h = absurd (false≢true h)

-- what the test says
module _ (terms : List Term) (steps : List Step) (e : is_table terms steps ≡ true) (s : Step) where
  halves : (list_all (λ x. list_any (λ t. is_term_step t x) terms) steps ≡ true)
      × (list_all (λ t. each_near (λ dx. each_near (λ dy. not (is_term_step t (step_of t dx dy)) || list_any (is_step (step_of t dx dy)) steps))) terms ≡ true)
  halves = and_parts _ _ e

  listed : Contains steps s → Denotes terms s
  listed h = any_weaker (λ t. is_term_step t s ≡ true) (λ t. IsTermStep t s) terms (λ t x. (is_term_step-decides t s).0 x)
      (Any-from_list_any (λ t. is_term_step t s) terms
      (All-contains (λ x. list_any (λ t. is_term_step t x) terms ≡ true) steps s (AllPass-from_list_all _ steps halves.0) h))

  denoted : Denotes terms s → Contains steps s
  denoted (k, t, h, at, step) =
      let near = atom_near t.atom s.dx s.dy step.leap.atom in
      let row : each_near (λ dx. each_near (λ dy. not (is_term_step t (step_of t dx dy)) || list_any (is_step (step_of t dx dy)) steps)) ≡ true =
      All-contains (λ u. each_near (λ dx. each_near (λ dy. not (is_term_step u (step_of u dx dy)) || list_any (is_step (step_of u dx dy)) steps)) ≡ true) terms t (AllPass-from_list_all _ terms halves.1) (k, h, at) in
      let file : each_near (λ dy. not (is_term_step t (step_of t s.dx dy)) || list_any (is_step (step_of t s.dx dy)) steps) ≡ true =
      near_at (λ dx. each_near (λ dy. not (is_term_step t (step_of t dx dy)) || list_any (is_step (step_of t dx dy)) steps)) row s.dx near.0 in
      let cell : (not (is_term_step t (step_of t s.dx s.dy)) || list_any (is_step (step_of t s.dx s.dy)) steps) ≡ true =
      near_at (λ dy. not (is_term_step t (step_of t s.dx dy)) || list_any (is_step (step_of t s.dx dy)) steps) file s.dy near.1 in
      let same : step_of t s.dx s.dy ≡ s = λ i. record { dx = s.dx; dy = s.dy; rider = sym step.rider i; mode = sym step.mode i } in
      let found = not_or _ _ cell ((is_term_step-decides t (step_of t s.dx s.dy)).1 (subst (IsTermStep t) (sym same) step)) in
      contains_any steps s (any_weaker (λ x. is_step (step_of t s.dx s.dy) x ≡ true) (λ x. x ≡ s) steps (λ x y. is_step-true (step_of t s.dx s.dy) x y ∙ same) (Any-from_list_any (is_step (step_of t s.dx s.dy)) steps found))

  pub table_exact : Contains steps s ↔ Denotes terms s
  table_exact = (listed, denoted)

-- ---- the tables of the kinds

passes : (k : Kind) → is_table (terms_of k) (table_of k) ≡ true
passes kind.King = refl
passes kind.Queen = refl
passes kind.Rook = refl
passes kind.Bishop = refl
passes kind.Knight = refl
passes kind.Pawn = refl

-- a kind's table has exactly the steps of its denotation
pub table_of-exact : (k : Kind) (s : Step) → Contains (table_of k) s ↔ Denotes (terms_of k) s
table_of-exact k s = table_exact (terms_of k) (table_of k) (passes k) s
