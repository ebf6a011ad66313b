-- The mover's king, and the moves that keep it safe.
use Rattle.moves.proofs.Common.{◌≡◌, ℕ, ◌+◌, ◌/◌, ◌%◌, ◌<◌, ◌≤◌, zero, suc, refl, sym, ap, subst, ◌∙◌, arith, Bool, true, false, List, length, get_or, take, Option, Some, None, IsSome, IfSome, unwrap_or, count_by, false≢true, and_parts, false_from_ne_true, take_all, count_by_more_no, same_Some, Game, LosAlamos, Gardner, Side, White, Black, Kind, King, Queen, Rook, Bishop, Knight, Pawn, Man, squares_of, is_same_side, PlainBoard, unit_on, is_king, is_king_of, is_of_side, IsPosition, MayStandOn, Place, Ply, IsOnBoard, square_number, unit_at, IsSomeKing, IsPseudoLegal, after, cell_of, place_in, IsCell, IsCell-cell_of, place_in-cell_of, same_side-self}
use Rattle.moves.proofs.Laying.{unit_at-to, unit_at-other}
use Rattle.moves.proofs.Kings.{king_of}

-- ---- a unit of a side

own_side : (s t : Side) → is_same_side s t ≡ true → t ≡ s
own_side White White e = refl
own_side White Black e = cc
own_side Black White e = cc
own_side Black Black e = refl

-- ---- the king stands somewhere

none_counted : (p : Option Man → Bool) (xs : List (Option Man)) (n : ℕ) → ((i : ℕ) → i < length xs → p (get_or xs i None) ≡ false) → n ≤ length xs → count_by p (take n xs) ≡ 0
none_counted p xs zero none h = refl
none_counted p xs (suc n) none h =
    let next : suc n ≡ n + 1 = omega arith in
    let low : n < length xs = omega (arith, h) in
    ap (λ k. count_by p (take k xs)) next ∙ count_by_more_no p xs n None low (none n low) ∙ none_counted p xs n none (omega (arith, h))

pub king_kind : (k : Kind) → is_king k ≡ true → k ≡ King
king_kind King e = refl
king_kind Queen e = cc
king_kind Rook e = cc
king_kind Bishop e = cc
king_kind Knight e = cc
king_kind Pawn e = cc

king_from : (side : Side) (o : Option Man) → is_king_of side o ≡ true → o ≡ king_of side
king_from side None e = absurd (false≢true e)
king_from side (Some u) e = let w = and_parts _ _ e in λ i. Some (record { side = own_side side u.side w.1 i; kind = king_kind u.kind w.0 i })

-- the square of a number
pub numbered : (g : Game) (n : ℕ) → n < squares_of g → (s : Place) × IsOnBoard g s × (square_number g s ≡ n)
numbered LosAlamos n h = (record { file = n % 6; rank = n / 6 }, record { file = omega arith; rank = omega arith }, omega arith)
numbered Gardner n h = (record { file = n % 5; rank = n / 5 }, record { file = omega arith; rank = omega arith }, omega arith)

off_board : (g : Game) (o : Option Man) (n : ℕ) (u : Man) → IfSome o (MayStandOn g n) → o ≡ Some u → n < squares_of g
off_board g None n u m e = cc
off_board g (Some v) n u m e = m.on_board

pub no_kingless : (b : PlainBoard) → IsPosition b → (side : Side) → ((i : ℕ) → IsCell b.game i → unit_at b (place_in i) ≡ king_of side → ⊥) → ⊥
no_kingless b is side none =
    let all : take (length b.units) b.units ≡ b.units = take_all (length b.units) b.units (omega arith) in
    let zeroed = none_counted (is_king_of side) b.units (length b.units) (λ i h. false_from_ne_true _ (λ e. nowhere i (king_from side (unit_on b i) e))) (omega arith) in
    omega (arith, (is.armies side).king, rw all at zeroed)
  where
    nowhere : (n : ℕ) → unit_on b n ≡ king_of side → ⊥
    nowhere n e =
        let s = numbered b.game n (off_board b.game (unit_on b n) n _ (is.squares n) e) in
        none (cell_of s.0) (IsCell-cell_of b.game s.0 s.1) (ap (unit_at b) (place_in-cell_of b.game s.0 s.1) ∙ ap (unit_on b) s.2 ∙ e)

-- ---- the king after a move

no_promotion : (o : Option Kind) (k : Kind) (P : Type 0) → k ≡ King → (IsSome o → k ≡ Pawn) → unwrap_or o k ≡ King
no_promotion None k P e f = e
no_promotion (Some q) k P e f = cc (sym e ∙ f refl)

module _ (b : PlainBoard) (m : Ply) (u : Man) (is : IsPosition b) (p : IsPseudoLegal b m u) where
  -- a king that moves stands on the to-square
  pub king_moved : u.kind ≡ King → unit_at (after b m u) m.to ≡ king_of u.side
  king_moved e = unit_at-to b m u is p ∙ λ i. Some (record { side = u.side; kind = no_promotion m.promotion u.kind ⊥ e (λ s. (p.named.0 s).0) i })

  -- and one that doesn't stays
  pub king_stays : (k : Place) → IsOnBoard b.game k → unit_at b k ≡ king_of b.mover → (u.kind ≡ King → ⊥) → unit_at (after b m u) k ≡ king_of u.side
  king_stays k on king other =
      unit_at-other b m u is p k on
      (λ e. other (ap (λ (x : Man). x.kind) (same_Some u _ (sym p.stands ∙ ap (unit_at b) (sym e) ∙ king))))
      (λ e. p.no_king (taken (unit_at b m.to) (ap (unit_at b) (sym e) ∙ king)))
      ∙ king ∙ ap king_of (sym p.owner)
    where
      taken : (o : Option Man) → o ≡ king_of b.mover → IsSomeKing o
      taken None e = cc
      taken (Some v) e = ap (λ (x : Man). x.kind) (same_Some v _ e)

-- a unit of a side is its own
pub own_unit_side : (side : Side) (u : Man) → is_of_side side (Some u) ≡ true → u.side ≡ side
own_unit_side side u e = own_side side u.side e

pub is_own : (side : Side) (u : Man) → u.side ≡ side → is_of_side side (Some u) ≡ true
is_own side u e = subst (λ s. is_of_side s (Some u) ≡ true) e (same_side-self u.side)
