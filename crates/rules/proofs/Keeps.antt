-- A pseudo-legal move leads from a position to a position.
use Rattle.std.proofs.Common.{get_or-set_other, ◌≡◌, ℕ, ◌+◌, ◌*◌, ◌<◌, ◌≤◌, inl, inr, zero, suc, refl, sym, ap, subst, ◌∙◌, arith, Bool, true, false, not, cond, ◌↔◌, ◌&&◌, List, [], ◌∷◌, length, get_or, Option, Some, None, ℤ, pos, ◌<ℤ◌, ◌+ℤ◌, IsTrue}
use Rattle.rules.proofs.Common.{IfSome, IfNone, IsSome, unwrap_or, count_by, unsigned_abs, ints, sum_by-set, same_Some, false≢true, Game, LosAlamos, Gardner, Side, White, Black, Kind, King, Queen, Rook, Bishop, Knight, Pawn, Man, Step, width_of, squares_of, other_side, is_same_side, IsPlayed, terms_of, Denotes, IsAtomLeap, PlainBoard, unit_on, is_king, is_king_of, is_of_side, IsInnerRank, MayStandOn, IsPosition, Place, Ply, IsOnBoard, square_number, unit_at, Allows, IsStep, Leads, ahead_of, Reaches, IsInCheck, once, again, IsLastRank, IsPromotion, IsSomeKing, placed, after, IsPseudoLegal, IsMove, IsLawful}
use Rattle.std.proofs.Math.ListN.{set, length-set}
use Rattle.board.specs.declared.step.Mode.{Mode}
use Rattle.board.specs.declared.step.Mode.TheVariants.{Move, Capture, Both}
use Rattle.board.specs.declared.terms.Term.{Term}
use Rattle.board.specs.declared.terms.Atom.TheVariants.{Wazir, Ferz}
use Rattle.rules.proofs.Listed.{number_within}

-- ---- what a unit that moves finds

pub Leads-on_board : (b : PlainBoard) (side : Side) (step : Step) (s t : Place) → Leads b side step s t → IsOnBoard b.game t
Leads-on_board b side step s t (once on a) = on
Leads-on_board b side step s t (again {u = u} r on a e l) = Leads-on_board b side step u t l

pub to_on_board : (b : PlainBoard) (m : Ply) (u : Man) → IsPseudoLegal b m u → IsOnBoard b.game m.to
to_on_board b m u p = Leads-on_board b u.side p.reaches.step m.from m.to p.reaches.reaches.leads

pub no_own : (side : Side) → side ≡ other_side side → ⊥
no_own White e = cc
no_own Black e = cc

not_onto_own : (mode : Mode) (u : Man) → Allows mode u.side (Some u) → ⊥
not_onto_own Move u a = a
not_onto_own Capture u a = no_own u.side a
not_onto_own Both u a = no_own u.side a

-- the two squares differ
pub other_square : (b : PlainBoard) (m : Ply) (u : Man) → IsPseudoLegal b m u → square_number b.game m.from ≡ square_number b.game m.to → ⊥
other_square b m u p e =
    let there : unit_at b m.to ≡ Some u = subst (λ n. unit_on b n ≡ Some u) e p.stands in
    not_onto_own p.reaches.step.mode u (subst (Allows p.reaches.step.mode u.side) there p.reaches.reaches.allows)

-- ---- the placed unit

promotion_played : (g : Game) (k : Kind) → IsPromotion g k → IsPlayed g k
promotion_played LosAlamos Queen h = tt
promotion_played LosAlamos Rook h = tt
promotion_played LosAlamos Bishop h = h
promotion_played LosAlamos Knight h = tt
promotion_played LosAlamos King h = absurd h
promotion_played LosAlamos Pawn h = absurd h
promotion_played Gardner Queen h = tt
promotion_played Gardner Rook h = tt
promotion_played Gardner Bishop h = tt
promotion_played Gardner Knight h = tt
promotion_played Gardner King h = absurd h
promotion_played Gardner Pawn h = absurd h

placed_played : (g : Game) (o : Option Kind) (k : Kind) → IfSome o (IsPromotion g) → IsPlayed g k → IsPlayed g (unwrap_or o k)
placed_played g None k h p = p
placed_played g (Some q) k h p = promotion_played g q h

promotion_no_king : (g : Game) (k : Kind) → IsPromotion g k → is_king k ≡ false
promotion_no_king g Queen h = refl
promotion_no_king g Rook h = refl
promotion_no_king g Bishop h = refl
promotion_no_king g Knight h = refl
promotion_no_king g King h = absurd h
promotion_no_king g Pawn h = refl

-- a promotion neither takes nor makes a king
same_crown : (g : Game) (o : Option Kind) (k : Kind) → IfSome o (IsPromotion g) → (IsSome o → k ≡ Pawn) → is_king (unwrap_or o k) ≡ is_king k
same_crown g None k h named = refl
same_crown g (Some q) k h named = promotion_no_king g q h ∙ sym (ap is_king (named refl))

-- ---- a pawn's step

size_one : (z : ℤ) → unsigned_abs z ≤ 1 → pos 0 <ℤ z → z ≡ pos 1
size_one z h p = omega (arith, ints, h, p)

pawn_step : (s : Step) → Denotes (terms_of Pawn) s → (s.rider ≡ false) × (s.dy ≡ pos 1)
pawn_step s (zero, t, h, e, ts) =
    let r : t.rider ≡ false = sym (ap (λ (x : Term). x.rider) e) in
    let f : t.forward ≡ true = sym (ap (λ (x : Term). x.forward) e) in
    let a : t.atom ≡ Wazir = sym (ap (λ (x : Term). x.atom) e) in
    let l : IsAtomLeap Wazir s.dx s.dy = subst (λ x. IsAtomLeap x s.dx s.dy) a ts.leap.atom in
    (ts.rider ∙ r, size_one s.dy (elim l [ inl x ↦ omega (arith, x.1) | inr x ↦ omega (arith, x.1) ]) (ts.leap.ahead f))
pawn_step s (suc zero, t, h, e, ts) =
    let r : t.rider ≡ false = sym (ap (λ (x : Term). x.rider) e) in
    let f : t.forward ≡ true = sym (ap (λ (x : Term). x.forward) e) in
    let a : t.atom ≡ Ferz = sym (ap (λ (x : Term). x.atom) e) in
    let l : IsAtomLeap Ferz s.dx s.dy = subst (λ x. IsAtomLeap x s.dx s.dy) a ts.leap.atom in
    (ts.rider ∙ r, size_one s.dy (elim l [ inl x ↦ omega (arith, x.1) | inr x ↦ omega (arith, x.1) ]) (ts.leap.ahead f))
pawn_step s (suc (suc k), t, h, e, ts) = absurd (omega arith)

pub Leads-single_step : (b : PlainBoard) (side : Side) (step : Step) (s t : Place) → step.rider ≡ false → Leads b side step s t → IsStep side step s t
Leads-single_step b side step s t r (once on a) = a
Leads-single_step b side step s t r (again {u = u} r' on a e l) = cc

-- where a pawn comes to: one rank ahead
abbrev pub IsRankAhead : Side → ℕ → ℕ → Type 0
IsRankAhead White from to = to ≡ from + 1
IsRankAhead Black from to = to + 1 ≡ from

rank_ahead : (side : Side) (from to : ℕ) (dy : ℤ) → dy ≡ pos 1 → pos to ≡ pos from +ℤ ahead_of side dy → IsRankAhead side from to
rank_ahead White from to dy e h = omega (arith, ints, rw e at h)
rank_ahead Black from to dy e h = omega (arith, ints, rw e at h)

pub pawn_ahead : (b : PlainBoard) (u : Man) (s t : Place) (target : Option Man) → u.kind ≡ Pawn → Reaches b u s t target → IsRankAhead u.side s.rank t.rank
pawn_ahead b u s t target e r =
    let p = pawn_step r.step (subst (λ k. Denotes (terms_of k) r.step) e r.denoted) in
    rank_ahead u.side s.rank t.rank r.step.dy p.1 (Leads-single_step b u.side r.step s t p.0 r.reaches.leads).rank

-- ---- a pawn that stays one stands between the first rank and the last

inner_ahead : (g : Game) (side : Side) (f r f' r' : ℕ) → f < width_of g → f' < width_of g → r' < width_of g → IsInnerRank g (f + width_of g * r) → IsRankAhead side r r' → (IsLastRank g side r' → ⊥) → IsInnerRank g (f' + width_of g * r')
inner_ahead LosAlamos White f r f' r' a b c i h l = (omega arith, omega arith)
inner_ahead LosAlamos Black f r f' r' a b c i h l = (omega arith, omega arith)
inner_ahead Gardner White f r f' r' a b c i h l = (omega arith, omega arith)
inner_ahead Gardner Black f r f' r' a b c i h l = (omega arith, omega arith)

placed_inner : (g : Game) (o : Option Kind) (k : Kind) (n : ℕ) → IfSome o (IsPromotion g) → ((k ≡ Pawn) → (IsSome o → ⊥) → IsInnerRank g n) → unwrap_or o k ≡ Pawn → IsInnerRank g n
placed_inner g None k n h inner e = inner e (λ s. cc)
placed_inner g (Some q) k n h inner e = absurd (subst (IsPromotion g) e h)

-- ---- the units

set_IfSome : (P : ℕ → Man → Type 0) (xs : List (Option Man)) (k : ℕ) (v : Option Man) → ((i : ℕ) → IfSome (get_or xs i None) (P i)) → IfSome v (P k) → (i : ℕ) → IfSome (get_or (set xs k v) i None) (P i)
set_IfSome P [] k v h p i = h i
set_IfSome P (x ∷ xs) zero v h p zero = p
set_IfSome P (x ∷ xs) zero v h p (suc i) = h (suc i)
set_IfSome P (x ∷ xs) (suc k) v h p zero = h zero
set_IfSome P (x ∷ xs) (suc k) v h p (suc i) = set_IfSome (λ j. P (suc j)) xs k v (λ j. h (suc j)) p i

weight : Bool → ℕ
weight x = cond x 1 0

no_weight : weight false ≡ 0
unfolding weight
no_weight = refl

-- a unit moves from n to k, where a unit stood that doesn't count: the count stays, or falls by the one taken
count_moved : (f : Option Man → Bool) (xs : List (Option Man)) (n k : ℕ) (u p : Man) → n < length xs → k < length xs → (k ≡ n → ⊥) → get_or xs n None ≡ Some u → f None ≡ false → f (Some p) ≡ f (Some u) → count_by f (set (set xs n None) k (Some p)) + weight (f (get_or xs k None)) ≡ count_by f xs
unfolding weight
count_moved f xs n k u p in_n in_k other stands none same =
    let w : Option Man → ℕ = λ o. cond (f o) 1 0 in
    let ys = set xs n None in
    let a = sum_by-set w xs n None None in_n in
    let b = sum_by-set w ys k (Some p) None (rw (length-set {A = Option Man}) in_k) in
    let there : get_or ys k None ≡ get_or xs k None = get_or-set_other xs n k None None other in
    let at_n : w (get_or xs n None) ≡ w (Some u) = ap w stands in
    let at_k : w (get_or ys k None) ≡ w (get_or xs k None) = ap w there in
    let at_p : w (Some p) ≡ w (Some u) = ap (λ x. cond x 1 0) same in
    let at_none : w None ≡ 0 = ap (λ x. cond x 1 0) none in
    omega (arith, a, b, at_n, at_k, at_p, at_none)

IsSomeKing-king_of : (side : Side) (o : Option Man) → (IsSomeKing o → ⊥) → is_king_of side o ≡ false
IsSomeKing-king_of side None h = refl
IsSomeKing-king_of side (Some u) h = ap (λ x. x && is_same_side side u.side) (not_king u.kind h)
  where
    not_king : (k : Kind) → (k ≡ King → ⊥) → is_king k ≡ false
    not_king King h = absurd (h refl)
    not_king Queen h = refl
    not_king Rook h = refl
    not_king Bishop h = refl
    not_king Knight h = refl
    not_king Pawn h = refl

-- ---- the position after a pseudo-legal move

module _ (b : PlainBoard) (m : Ply) (u : Man) (pos_b : IsPosition b) (p : IsPseudoLegal b m u) where
  may_stand_from : MayStandOn b.game (square_number b.game m.from) u
  may_stand_from = subst (λ o. IfSome o (MayStandOn b.game (square_number b.game m.from))) p.stands (pos_b.squares (square_number b.game m.from))

  stays_pawn : u.kind ≡ Pawn → (IsSome m.promotion → ⊥) → IsInnerRank b.game (square_number b.game m.to)
  stays_pawn e none =
      let to = to_on_board b m u p in
      inner_ahead b.game u.side m.from.file m.from.rank m.to.file m.to.rank p.on_board.file to.file to.rank (may_stand_from.inner e)
      (pawn_ahead b u m.from m.to (unit_at b m.to) e p.reaches) (λ last. none (p.named.1 (e, last)))

  may_stand_to : MayStandOn b.game (square_number b.game m.to) (placed u m)
  may_stand_to = record {
    on_board = number_within b.game m.to (to_on_board b m u p);
    played = placed_played b.game m.promotion u.kind p.allowed may_stand_from.played;
    inner = placed_inner b.game m.promotion u.kind (square_number b.game m.to) p.allowed stays_pawn;
  }

  within_36 : (g : Game) (n : ℕ) → n < squares_of g → n < 36
  within_36 LosAlamos n h = h
  within_36 Gardner n h = omega arith

  from_within : square_number b.game m.from < length b.units
  from_within = rw pos_b.places (within_36 b.game _ (number_within b.game m.from p.on_board))

  to_within : square_number b.game m.to < length b.units
  to_within = rw pos_b.places (within_36 b.game _ (number_within b.game m.to (to_on_board b m u p)))

  moved_count : (f : Option Man → Bool) → f None ≡ false → f (Some (placed u m)) ≡ f (Some u) → count_by f (after b m u).units + weight (f (unit_at b m.to)) ≡ count_by f b.units
  moved_count f none same = count_moved f b.units (square_number b.game m.from) (square_number b.game m.to) u (placed u m) from_within to_within (λ e. other_square b m u p (sym e)) p.stands none same

  pub IsPosition-after : IsPosition (after b m u)
  IsPosition-after = record {
    places = simp length-set pos_b.places;
    squares = set_IfSome (MayStandOn b.game) _ (square_number b.game m.to) (Some (placed u m)) (set_IfSome (MayStandOn b.game) b.units (square_number b.game m.from) None pos_b.squares tt) may_stand_to;
    armies = λ side. record {
      king = let taken : is_king_of side (unit_at b m.to) ≡ false = IsSomeKing-king_of side (unit_at b m.to) p.no_king in
          let zero_there = ap weight taken in
          let crown = same_crown b.game m.promotion u.kind p.allowed (λ s. (p.named.0 s).0) in
          let count = moved_count (is_king_of side) refl (ap (λ x. x && is_same_side side u.side) crown) in
          omega (arith, count, zero_there, no_weight, (pos_b.armies side).king);
      room = omega (arith, moved_count (is_of_side side) refl refl, (pos_b.armies side).room);
    };
  }

-- `Position::of` refuses no position
pub made_from : {X : Type 0} (o : Option X) (P : Type 0) → IfNone o (P → ⊥) → P → IsSome o
made_from None P h p = absurd (h p)
made_from (Some x) P h p = refl

-- the unit on the from-square is the only one that may make the move
pub one_mover : (b : PlainBoard) (m : Ply) (u v : Man) → IsPseudoLegal b m u → IsPseudoLegal b m v → u ≡ v
one_mover b m u v p q = same_Some u v (sym p.stands ∙ q.stands)

-- a pseudo-legal move is lawful where the mover isn't in check after it
pub lawful_from : (b : PlainBoard) (m : Ply) (u : Man) (q : PlainBoard) (side : Side) (r : Bool) → IsPseudoLegal b m u → q ≡ after b m u → side ≡ b.mover → (IsTrue r ↔ IsInCheck q side) → IsTrue (not r) ↔ IsLawful b m
lawful_from b m u q side true p e f h = (
  λ no. absurd (false≢true no),
  λ (x, move). absurd (move.safe (subst (λ s. IsInCheck x s) f
      (subst (λ y. IsInCheck y side) (e ∙ ap (after b m) (one_mover b m u move.unit p move.pseudo) ∙ sym move.leads) (h.0 refl)))),
)
lawful_from b m u q side false p e f h =
    (λ _. (q, record { unit = u; pseudo = p; leads = e; safe = λ check. false≢true (h.1 (subst (λ s. IsInCheck q s) (sym f) check)) }), λ _. refl)

-- ---- the position after a move

-- a move leads to one position
pub one_after : (b : PlainBoard) (m : Ply) (q r : PlainBoard) → IsMove b m q → IsMove b m r → q ≡ r
one_after b m q r x y = x.leads ∙ ap (after b m) (one_mover b m x.unit y.unit x.pseudo y.pseudo) ∙ sym y.leads

-- the opponent is to move then
pub mover-after : (b : PlainBoard) (m : Ply) (q : PlainBoard) → IsMove b m q → q.mover ≡ other_side b.mover
mover-after b m q x = ap (λ (y : PlainBoard). y.mover) x.leads
