-- What is forced on a turned board.
use Rattle.std.proofs.Common.{◌≡◌, ℕ, inl, inr, zero, suc, refl, sym, ap, subst, ◌∙◌, Bool, true, false, MatchBool}
use Rattle.laws.proofs.Common.{Side, other_side, is_same_side, PlainBoard, Place, Ply, IsOnBoard, IsInCheck, IsSound, IsMove, IsLawful, IsMated, IsStalemated, IsReached, Forces, Turning, turned_place, turned_side, turned_move, IsTurned, MayTurn, to_on_board}
use Rattle.rules.specs.declared.goal.Goal.{Goal}
use Rattle.rules.specs.declared.goal.Goal.TheVariants.{Mate, MateOrStale}
use Rattle.laws.proofs.Squares.{back_of, back_of-twice, turned_there, exchanged-other, back_side, same_turn}
use Rattle.laws.proofs.Turned.{IsTurned-back, MayTurn-back}
use Rattle.laws.proofs.Play.{IsInCheck-turned, IsInCheck-back, MayTurn-move, IsMove-turned}

-- ---- the moves of the turned board are those of the board

module _ (t : Turning) (b c : PlainBoard) (turned : IsTurned t b c) (may : MayTurn t b) where
  -- the move that a move of the turned board was
  abbrev move_back : Ply → Ply
  move_back m = turned_move c.game (back_of t) m

  pub IsMove-back : (m : Ply) (r : PlainBoard) → IsMove c m r → (q : PlainBoard) × IsMove b (move_back m) q × IsTurned t q r
  IsMove-back m r move =
      let found = IsMove-turned (back_of t) c b (IsTurned-back t b c turned) (MayTurn-back t b c turned may) m r move in
      (found.0, found.1, subst (λ x. IsTurned x found.0 r) (back_of-twice t) (IsTurned-back (back_of t) r found.0 found.2))

  pub there_again : (m : Ply) (r : PlainBoard) → IsMove c m r → turned_move b.game t (move_back m) ≡ m
  there_again m r move = same_ply _ m
      (place_again m.from move.pseudo.on_board)
      (place_again m.to (to_on_board c m move.unit move.pseudo))
      refl
    where
      place_again : (s : Place) → IsOnBoard c.game s → turned_place b.game t (turned_place c.game (back_of t) s) ≡ s
      place_again s on = subst (λ g. turned_place g t (turned_place c.game (back_of t) s) ≡ s) turned.game (turned_there c.game t s on)

      same_ply : (k l : Ply) → k.from ≡ l.from → k.to ≡ l.to → k.promotion ≡ l.promotion → k ≡ l
      same_ply k l e f h = λ i. record { from = e i; to = f i; promotion = h i }

  no_move-turned : ((m : Ply) → IsLawful b m → ⊥) → (m : Ply) → IsLawful c m → ⊥
  no_move-turned none m (r, move) = let found = IsMove-back m r move in none (move_back m) (found.0, found.1)

  -- ---- where a goal is reached

  check-turned : IsInCheck b b.mover → IsInCheck c c.mover
  check-turned check = subst (IsInCheck c) (sym turned.mover) (IsInCheck-turned t b c turned may b.mover check)

  no_check-turned : (IsInCheck b b.mover → ⊥) → IsInCheck c c.mover → ⊥
  no_check-turned safe check = safe (IsInCheck-back t b c turned may b.mover (subst (IsInCheck c) turned.mover check))

  pub IsMated-turned : IsMated b → IsMated c
  IsMated-turned h = record { check = check-turned h.check; no_move = no_move-turned h.no_move }

  pub IsStalemated-turned : IsStalemated b → IsStalemated c
  IsStalemated-turned h = record { no_check = no_check-turned h.no_check; no_move = no_move-turned h.no_move }

  pub IsSound-turned : IsSound b → IsSound c
  IsSound-turned sound check = sound (IsInCheck-back t b c turned may (other_side b.mover)
      (subst (IsInCheck c) (ap other_side turned.mover ∙ exchanged-other t.sides b.mover) check))

  IsReached-turned : (goal : Goal) → IsReached goal b → IsReached goal c
  IsReached-turned Mate h = IsMated-turned h
  IsReached-turned MateOrStale (inl h) = inl (IsMated-turned h)
  IsReached-turned MateOrStale (inr h) = inr (IsStalemated-turned h)

-- ---- whose turn it is

map_turn : (r r' : Bool) (P Q P' Q' : Type 0) → r' ≡ r → (P → P') → (Q → Q') → MatchBool r P Q → MatchBool r' P' Q'
map_turn true true P Q P' Q' e f g h = f h
map_turn true false P Q P' Q' e f g h = cc
map_turn false true P Q P' Q' e f g h = cc
map_turn false false P Q P' Q' e f g h = g h

turn-turned : (t : Turning) (a : Side) (b c : PlainBoard) → IsTurned t b c → is_same_side (turned_side t a) c.mover ≡ is_same_side a b.mover
turn-turned t a b c turned = ap (is_same_side (turned_side t a)) turned.mover ∙ same_turn t.sides a b.mover

-- ---- forced

pub Forces-turned : (n : ℕ) (t : Turning) (goal : Goal) (a : Side) (b c : PlainBoard) → IsTurned t b c → MayTurn t b → Forces goal a b n → Forces goal (turned_side t a) c n
Forces-turned zero t goal a b c turned may f = map_turn _ _ _ _ _ _ (turn-turned t a b c turned)
    (λ none. none) (IsReached-turned t b c turned may goal) f
Forces-turned (suc n) t goal a b c turned may f = map_turn _ _ _ _ _ _ (turn-turned t a b c turned)
    (λ (m, q, move, forced).
    let found = IsMove-turned t b c turned may m q move in
    (turned_move b.game t m, found.0, found.1, Forces-turned n t goal a q found.0 found.2 (MayTurn-move t b c turned may m q move) forced))
    (λ h. elim h [
      | inl reached ↦ inl (IsReached-turned t b c turned may goal reached)
      | inr w ↦ inr (
        (let found = IsMove-turned t b c turned may w.0.0 w.0.1.0 w.0.1.1 in (turned_move b.game t w.0.0, (found.0, found.1))),
        λ m r move. let found = IsMove-back t b c turned may m r move in
            Forces-turned n t goal a found.0 r found.2 (MayTurn-move t b c turned may _ found.0 found.1) (w.1 _ found.0 found.1),
      )
    ])
    f

pub Forces-back : (n : ℕ) (t : Turning) (goal : Goal) (a : Side) (b c : PlainBoard) → IsTurned t b c → MayTurn t b → Forces goal (turned_side t a) c n → Forces goal a b n
Forces-back n t goal a b c turned may f = subst (λ x. Forces goal x b n) (back_side t a)
    (Forces-turned n (back_of t) goal (turned_side t a) c b (IsTurned-back t b c turned) (MayTurn-back t b c turned may) f)

pub Forces-mover : (goal : Goal) (n : ℕ) (t : Turning) (b c : PlainBoard) → IsTurned t b c → MayTurn t b → Forces goal b.mover b n → Forces goal c.mover c n
Forces-mover goal n t b c turned may f = subst (λ a. Forces goal a c n) (sym turned.mover) (Forces-turned n t goal b.mover b c turned may f)
