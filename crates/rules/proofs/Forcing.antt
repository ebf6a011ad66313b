-- Laws of forced mate.
use Rattle.std.proofs.Common.{◌≡◌, ℕ, ◌*◌, arith, inl, inr, zero, suc, refl, sym, subst, Bool, true, false, MatchBool}
use Rattle.rules.proofs.Common.{Side, White, Black, is_same_side, other_side, PlainBoard, Ply, IsMove, IsReached, Forces}
use Rattle.rules.specs.declared.goal.Goal.{Goal}
use Rattle.rules.proofs.Keeps.{mover-after}
use Rattle.board.proofs.RankText.{on_true as on_own, on_false as on_other}

-- ---- whose turn it is

map_turn : (r : Bool) (P Q P' Q' : Type 0) → (P → P') → (Q → Q') → MatchBool r P Q → MatchBool r P' Q'
map_turn true P Q P' Q' f g h = f h
map_turn false P Q P' Q' f g h = g h

-- the attacker's own turn, and its opponent's
abbrev pub IsOwnTurn : Side → PlainBoard → Type 0
IsOwnTurn side b = is_same_side side b.mover ≡ true

abbrev pub IsOtherTurn : Side → PlainBoard → Type 0
IsOtherTurn side b = is_same_side side b.mover ≡ false

pub to_own : (r : Bool) (P Q : Type 0) → r ≡ true → P → MatchBool r P Q
to_own true P Q e h = h
to_own false P Q e h = cc

pub to_other : (r : Bool) (P Q : Type 0) → r ≡ false → Q → MatchBool r P Q
to_other true P Q e h = cc
to_other false P Q e h = h

swap_own : (s t : Side) → is_same_side s t ≡ true → is_same_side s (other_side t) ≡ false
swap_own White White e = refl
swap_own White Black e = cc
swap_own Black White e = cc
swap_own Black Black e = refl

swap_other : (s t : Side) → is_same_side s t ≡ false → is_same_side s (other_side t) ≡ true
swap_other White White e = cc
swap_other White Black e = refl
swap_other Black White e = refl
swap_other Black Black e = cc

pub same_side-self : (s : Side) → is_same_side s s ≡ true
same_side-self White = refl
same_side-self Black = refl

-- a move passes the turn
pub turn-own : (side : Side) (b : PlainBoard) (m : Ply) (q : PlainBoard) → IsMove b m q → IsOwnTurn side b → IsOtherTurn side q
turn-own side b m q move own = subst (λ t. is_same_side side t ≡ false) (sym (mover-after b m q move)) (swap_own side b.mover own)

pub turn-other : (side : Side) (b : PlainBoard) (m : Ply) (q : PlainBoard) → IsMove b m q → IsOtherTurn side b → IsOwnTurn side q
turn-other side b m q move other = subst (λ t. is_same_side side t ≡ true) (sym (mover-after b m q move)) (swap_other side b.mover other)

-- ---- what is forced within n plies is forced within n + 1

pub Forces-more : (goal : Goal) (side : Side) (b : PlainBoard) (n : ℕ) → Forces goal side b n → Forces goal side b (suc n)
Forces-more goal side b zero f = map_turn (is_same_side side b.mover) ⊥ (IsReached goal b) _ _ (λ no. absurd no) (λ there. inl there) f
Forces-more goal side b (suc n) f = map_turn (is_same_side side b.mover) _ _ _ _
    (λ (m, q, move, g). (m, q, move, Forces-more goal side q n g))
    (λ h. elim h [ inl there ↦ inl there | inr w ↦ inr (w.0, λ m q move. Forces-more goal side q n (w.1 m q move)) ])
    f

-- ---- the last ply of an even number gains the attacker nothing

-- 2 n, by a recursion that computes
abbrev pub twice : ℕ → ℕ
twice zero = zero
twice (suc n) = suc (suc (twice n))

pub twice-double : (n : ℕ) → twice n ≡ 2 * n
twice-double zero = refl
twice-double (suc n) = let before = twice-double n in omega arith

even-from : (n : ℕ) (goal : Goal) (side : Side) → ((q : PlainBoard) → IsOtherTurn side q → Forces goal side q (suc (twice n)) → Forces goal side q (twice n)) → (b : PlainBoard) → IsOwnTurn side b → Forces goal side b (suc (suc (twice n))) → Forces goal side b (suc (twice n))
even-from n goal side odd b own f =
    let w = on_own (is_same_side side b.mover) _ _ own f in
    to_own (is_same_side side b.mover) _ _ own (w.0, w.1, w.2, odd w.1 (turn-own side b w.0 w.1 w.2 own) w.3)

Forces-odd : (n : ℕ) (goal : Goal) (side : Side) (b : PlainBoard) → IsOtherTurn side b → Forces goal side b (suc (twice n)) → Forces goal side b (twice n)
Forces-odd zero goal side b other f = to_other (is_same_side side b.mover) ⊥ (IsReached goal b) other
    (elim (on_other (is_same_side side b.mover) _ _ other f) [
      | inl there ↦ there
      | inr w ↦ absurd (on_own _ _ _ (turn-other side b w.0.0 w.0.1.0 w.0.1.1 other) (w.1 w.0.0 w.0.1.0 w.0.1.1))
    ])
Forces-odd (suc n) goal side b other f = to_other (is_same_side side b.mover) _ _ other
    (elim (on_other (is_same_side side b.mover) _ _ other f) [
      | inl there ↦ inl there
      | inr w ↦ inr (w.0, λ m q move. even-from n goal side (Forces-odd n goal side) q (turn-other side b m q move other) (w.1 m q move))
    ])

-- with the attacker to move, 2 n + 2 plies are no better than 2 n + 1
pub Forces-even : (n : ℕ) (goal : Goal) (side : Side) (b : PlainBoard) → IsOwnTurn side b → Forces goal side b (suc (suc (twice n))) → Forces goal side b (suc (twice n))
Forces-even n goal side b own f = even-from n goal side (Forces-odd n goal side) b own f
