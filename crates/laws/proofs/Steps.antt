-- The steps of a unit when the board is turned about.
use Rattle.std.proofs.Common.{◌≡◌, ℕ, ◌<◌, ◌⊎◌, ℤ, pos, ◌+ℤ◌, neg_ℤ, ◌<ℤ◌, Bool, true, false, zero, suc, refl, sym, ap, subst, ◌∙◌, arith, inl, inr, length, get_or}
use Rattle.std.specs.Int.RustNames.{unsigned_abs}
use Rattle.std.proofs.lemmas.Int.{ints}
use Rattle.laws.proofs.Common.{false≢true, Game, Side, White, Black, Kind, King, Queen, Rook, Bishop, Knight, Pawn, Step, width_of, Place, IsOnBoard, ahead_of, IsShift, IsStep, size-ahead, Turning, mirrored, place_over, turned_place, exchanged, turned_side, KeepsAhead}
use Rattle.board.specs.declared.terms.Atom.{Atom}
use Rattle.board.specs.declared.terms.Atom.TheVariants.{Wazir, Ferz}
use Rattle.board.specs.declared.terms.Atom.TheVariants as atom
use Rattle.board.specs.declared.terms.Term.{Term}
use Rattle.board.specs.Denotation.{IsLeap, IsAtomLeap, IsTermStep, Denotes, terms_of}

-- ---- how far a step goes

-- a number of files or ranks, or if it is mirrored, as many the other way
abbrev pub signed : Bool → ℤ → ℤ
signed false z = z
signed true z = neg_ℤ z

-- the first, or over the diagonal the second
abbrev pub over : Bool → ℤ → ℤ → ℤ
over false a b = a
over true a b = b

abbrev pub turned_dx : Turning → ℤ → ℤ → ℤ
turned_dx t dx dy = over t.diagonal (signed t.left_right dx) (signed t.top_bottom dy)

abbrev pub turned_dy : Turning → ℤ → ℤ → ℤ
turned_dy t dx dy = over t.diagonal (signed t.top_bottom dy) (signed t.left_right dx)

mirrored-shift : (x : Bool) (w a b : ℕ) (z : ℤ) → a < w → b < w → pos b ≡ pos a +ℤ z → pos (mirrored x w b) ≡ pos (mirrored x w a) +ℤ signed x z
mirrored-shift false w a b z p q e = e
mirrored-shift true w a b z p q e = omega (arith, ints, e)

over-shift : (d : Bool) (f r f' r' : ℕ) (dx dy : ℤ) → pos f' ≡ pos f +ℤ dx → pos r' ≡ pos r +ℤ dy → IsShift (over d dx dy) (over d dy dx) (place_over d f r) (place_over d f' r')
over-shift false f r f' r' dx dy p q = record { file = p; rank = q }
over-shift true f r f' r' dx dy p q = record { file = q; rank = p }

-- squares that lie so lie so when they are turned
turned-shift : (g : Game) (t : Turning) (dx dy : ℤ) (s u : Place) → IsOnBoard g s → IsOnBoard g u → IsShift dx dy s u → IsShift (turned_dx t dx dy) (turned_dy t dx dy) (turned_place g t s) (turned_place g t u)
turned-shift g t dx dy s u a b h = over-shift t.diagonal _ _ _ _ _ _
    (mirrored-shift t.left_right (width_of g) s.file u.file dx a.file b.file h.file)
    (mirrored-shift t.top_bottom (width_of g) s.rank u.rank dy a.rank b.rank h.rank)

-- ---- steps

ahead_twice : (side : Side) (z : ℤ) → ahead_of side (ahead_of side z) ≡ z
ahead_twice White z = refl
ahead_twice Black z = omega (arith, ints)

-- the step when the board is turned, as what its side has become sees it
abbrev pub turned_step : Turning → Side → Step → Step
turned_step t side step = record {
  dx = turned_dx t step.dx (ahead_of side step.dy);
  dy = ahead_of (turned_side t side) (turned_dy t step.dx (ahead_of side step.dy));
  rider = step.rider;
  mode = step.mode;
}

pub turned-step : (g : Game) (t : Turning) (side : Side) (step : Step) (s u : Place) → IsOnBoard g s → IsOnBoard g u → IsStep side step s u → IsStep (turned_side t side) (turned_step t side step) (turned_place g t s) (turned_place g t u)
turned-step g t side step s u a b h =
    let shift = turned-shift g t step.dx (ahead_of side step.dy) s u a b h in
    let twice = ahead_twice (turned_side t side) (turned_dy t step.dx (ahead_of side step.dy)) in
    subst (λ dy. IsShift (turned_dx t step.dx (ahead_of side step.dy)) dy (turned_place g t s) (turned_place g t u)) (sym twice) shift

-- ---- what a kind's string says of them

-- of the same sizes, in one order or the other
abbrev AreSizes : ℤ → ℤ → ℤ → ℤ → Type 0
AreSizes a b x y = ((unsigned_abs x ≡ unsigned_abs a) × (unsigned_abs y ≡ unsigned_abs b)) ⊎ ((unsigned_abs x ≡ unsigned_abs b) × (unsigned_abs y ≡ unsigned_abs a))

size-signed : (x : Bool) (z : ℤ) → unsigned_abs (signed x z) ≡ unsigned_abs z
size-signed false z = refl
size-signed true z = omega (arith, ints)

over-sizes : (d : Bool) (dx dy x y : ℤ) → unsigned_abs x ≡ unsigned_abs dx → unsigned_abs y ≡ unsigned_abs dy → AreSizes dx dy (over d x y) (over d y x)
over-sizes false dx dy x y p q = inl (p, q)
over-sizes true dx dy x y p q = inr (q, p)

ahead-sizes : (side : Side) (a b x y : ℤ) → AreSizes a b x y → AreSizes a b x (ahead_of side y)
ahead-sizes side a b x y (inl h) = inl (h.0, size-ahead side y ∙ h.1)
ahead-sizes side a b x y (inr h) = inr (h.0, size-ahead side y ∙ h.1)

turned-sizes : (t : Turning) (side : Side) (step : Step) → AreSizes step.dx step.dy (turned_step t side step).dx (turned_step t side step).dy
turned-sizes t side step = ahead-sizes (turned_side t side) step.dx step.dy (turned_step t side step).dx (turned_dy t step.dx (ahead_of side step.dy)) (over-sizes t.diagonal step.dx step.dy (signed t.left_right step.dx) (signed t.top_bottom (ahead_of side step.dy))
    (size-signed t.left_right step.dx) (size-signed t.top_bottom (ahead_of side step.dy) ∙ size-ahead side step.dy))

leap-sizes : (m n : ℕ) (a b x y : ℤ) → AreSizes a b x y → IsLeap m n a b → IsLeap m n x y
leap-sizes m n a b x y (inl e) (inl h) = inl (e.0 ∙ h.0, e.1 ∙ h.1)
leap-sizes m n a b x y (inl e) (inr h) = inr (e.0 ∙ h.0, e.1 ∙ h.1)
leap-sizes m n a b x y (inr e) (inl h) = inr (e.0 ∙ h.1, e.1 ∙ h.0)
leap-sizes m n a b x y (inr e) (inr h) = inl (e.0 ∙ h.1, e.1 ∙ h.0)

atom-sizes : (k : Atom) (a b x y : ℤ) → AreSizes a b x y → IsAtomLeap k a b → IsAtomLeap k x y
atom-sizes Wazir a b x y e h = leap-sizes 1 0 a b x y e h
atom-sizes Ferz a b x y e h = leap-sizes 1 1 a b x y e h
atom-sizes atom.Knight a b x y e h = leap-sizes 1 2 a b x y e h

ahead-again : (x : Bool) (side : Side) (dy : ℤ) → ahead_of (exchanged x side) (signed x (ahead_of side dy)) ≡ dy
ahead-again false side dy = ahead_twice side dy
ahead-again true White dy = omega (arith, ints)
ahead-again true Black dy = omega (arith, ints)

same_dy : (d r x : Bool) (side : Side) (dx dy : ℤ) → d ≡ false → r ≡ x → ahead_of (exchanged x side) (over d (signed r (ahead_of side dy)) dx) ≡ dy
same_dy false r x side dx dy e f = rw f (ahead-again x side dy)
same_dy true r x side dx dy e f = cc

-- a step goes as far ahead as before
kept_ahead : (t : Turning) (side : Side) (step : Step) → KeepsAhead t → (turned_step t side step).dy ≡ step.dy
kept_ahead t side step keeps = same_dy t.diagonal t.top_bottom t.sides side (signed t.left_right step.dx) step.dy keeps.straight keeps.ahead

term_step : (t : Turning) (side : Side) (step : Step) (a : Term) → (a.forward ≡ true → KeepsAhead t) → IsTermStep a step → IsTermStep a (turned_step t side step)
term_step t side step a keeps h = record {
  leap = record {
    atom = atom-sizes a.atom _ _ _ _ (turned-sizes t side step) h.leap.atom;
    ahead = λ f. subst (λ dy. pos 0 <ℤ dy) (sym (kept_ahead t side step (keeps f))) (h.leap.ahead f);
  };
  rider = h.rider;
  mode = h.mode;
}

-- ---- only a pawn's string has the word for ahead

not_forward : (a t : Term) → a.forward ≡ false → a ≡ t → t.forward ≡ true → ⊥
not_forward a t never e f = false≢true (sym never ∙ ap (λ (x : Term). x.forward) e ∙ f)

forward_is_pawn : (k : Kind) (i : ℕ) (t : Term) → i < length (terms_of k) → get_or (terms_of k) i t ≡ t → t.forward ≡ true → k ≡ Pawn
forward_is_pawn King zero t h e f = absurd (not_forward _ t refl e f)
forward_is_pawn King (suc zero) t h e f = absurd (not_forward _ t refl e f)
forward_is_pawn King (suc (suc i)) t h e f = absurd (omega arith)
forward_is_pawn Queen zero t h e f = absurd (not_forward _ t refl e f)
forward_is_pawn Queen (suc zero) t h e f = absurd (not_forward _ t refl e f)
forward_is_pawn Queen (suc (suc i)) t h e f = absurd (omega arith)
forward_is_pawn Rook zero t h e f = absurd (not_forward _ t refl e f)
forward_is_pawn Rook (suc i) t h e f = absurd (omega arith)
forward_is_pawn Bishop zero t h e f = absurd (not_forward _ t refl e f)
forward_is_pawn Bishop (suc i) t h e f = absurd (omega arith)
forward_is_pawn Knight zero t h e f = absurd (not_forward _ t refl e f)
forward_is_pawn Knight (suc i) t h e f = absurd (omega arith)
forward_is_pawn Pawn i t h e f = refl

-- what a kind's string denotes it denotes when the board is turned
pub turned-denoted : (t : Turning) (side : Side) (step : Step) (k : Kind) → (k ≡ Pawn → KeepsAhead t) → Denotes (terms_of k) step → Denotes (terms_of k) (turned_step t side step)
turned-denoted t side step k keeps (i, a, h, e, is) = (i, a, h, e, term_step t side step a (λ f. keeps (forward_is_pawn k i a h e f)) is)
