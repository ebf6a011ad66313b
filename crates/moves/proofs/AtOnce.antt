-- What a side reaches with its next move.
use Rattle.moves.proofs.Common.{◌≡◌, ℕ, ◌<◌, ◌≤◌, ◌↔◌, IsTrue, Bool, true, false, not, inl, inr, refl, sym, ◌∙◌, ap, subst, arith, get_or, Option, Some, None, false≢true, same_Some, cases_lt, Kind, King, Queen, Rook, Bishop, Knight, Pawn, Side, Man, Mode, Move, Capture, Both, is_same_side, other_side, PlainBoard, Goal, Place, Ply, IsOnBoard, unit_at, Allows, Reaches, IsInCheck, Promotes, IsSomeKing, IsPseudoLegal, IsMove, IsLawful, IsMated, after, promotion_number, PROMOTIONS, IsReached, Forces, Attains, HasParts-lawful, promotes_to, to_own, to_other, same_side-self, turn-own, not-is}
use Rattle.rules.specs.declared.goal.Goal.TheVariants.{Mate, MateOrStale}
use Rattle.moves.proofs.Kings.{check_from}
use Rattle.moves.proofs.Looking.{other_twice}
use Rattle.board.proofs.RankText.{on_true as on_own, on_false as on_other}

-- ---- the goal, by check and by whether a move is lawful

-- in check, mate is want of a lawful move
pub mated_exactly : (b : PlainBoard) (some : Bool) → IsInCheck b b.mover → (IsTrue some ↔ ((m : Ply) × IsLawful b m)) → IsTrue (not some) ↔ IsMated b
mated_exactly b some check h = let w = not-is some h in (λ no. record { check = check; no_move = λ m lawful. w.0 no (m, lawful) }, λ mated. w.1 (λ l. mated.no_move l.0 l.1))

pub mated_if : (goal : Goal) (b : PlainBoard) (check some : Bool) → goal ≡ Mate → (IsTrue check ↔ IsInCheck b b.mover) → (IsTrue some ↔ ((m : Ply) × IsLawful b m)) → check ≡ true → IsTrue (not some) ↔ IsReached goal b
mated_if goal b check some is h k e = subst (λ (g : Goal). IsTrue (not some) ↔ IsReached g b) (sym is) (mated_exactly b some (h.0 e) k)

-- the second goal is want of a lawful move
pub no_move_of : (b : PlainBoard) → IsReached MateOrStale b → (m : Ply) → IsLawful b m → ⊥
no_move_of b (inl mated) = mated.no_move
no_move_of b (inr stale) = stale.no_move

-- where the goal wants the side to move, it has no move
pub no_move_at : (goal : Goal) (b : PlainBoard) → IsReached goal b → (m : Ply) → IsLawful b m → ⊥
no_move_at Mate b mated = mated.no_move
no_move_at MateOrStale b r = no_move_of b r

pub stale_exactly : (b : PlainBoard) (check some : Bool) → (IsTrue check ↔ IsInCheck b b.mover) → (IsTrue some ↔ ((m : Ply) × IsLawful b m)) → IsTrue (not some) ↔ IsReached MateOrStale b
stale_exactly b true some h k = let w = not-is some k in (λ no. inl (record { check = h.0 refl; no_move = λ m lawful. w.0 no (m, lawful) }), λ r. w.1 (λ l. no_move_of b r l.0 l.1))
stale_exactly b false some h k = let w = not-is some k in (λ no. inr (record { no_check = λ c. false≢true (h.1 c); no_move = λ m lawful. w.0 no (m, lawful) }), λ r. w.1 (λ l. no_move_of b r l.0 l.1))

pub stale_if : (goal : Goal) (b : PlainBoard) (check some : Bool) → goal ≡ MateOrStale → (IsTrue check ↔ IsInCheck b b.mover) → (IsTrue some ↔ ((m : Ply) × IsLawful b m)) → IsTrue (not some) ↔ IsReached goal b
stale_if goal b check some is h k = subst (λ (g : Goal). IsTrue (not some) ↔ IsReached g b) (sym is) (stale_exactly b check some h k)

-- ---- goals at once

module _ (goal : Goal) (b : PlainBoard) where
  pub forced_by : (m : Ply) → Attains goal b m → Forces goal b.mover b 1
  forced_by m w =
      to_own (is_same_side b.mover b.mover) _ _ (same_side-self b.mover)
      (m, w.next, w.move, to_other (is_same_side b.mover w.next.mover) ⊥ (IsReached goal w.next) (turn-own b.mover b m w.next w.move (same_side-self b.mover)) w.reached)

  pub not_forced : ((m : Ply) → Attains goal b m → ⊥) → Forces goal b.mover b 1 → ⊥
  not_forced none f =
      let (m, q, move, there) = on_own (is_same_side b.mover b.mover) _ _ (same_side-self b.mover) f in
      none m (record { next = q; move = move; reached = on_other (is_same_side b.mover q.mover) ⊥ (IsReached goal q) (turn-own b.mover b m q move (same_side-self b.mover)) there })

-- ---- the promotions that are tried

pub promotion_at : (o : Option Kind) → promotion_number o < 5 → get_or PROMOTIONS (promotion_number o) None ≡ o
promotion_at None h = refl
promotion_at (Some Queen) h = refl
promotion_at (Some Rook) h = refl
promotion_at (Some Bishop) h = refl
promotion_at (Some Knight) h = refl
promotion_at (Some King) h = absurd (omega (arith, h))
promotion_at (Some Pawn) h = absurd (omega (arith, h))

pub promotion_tried : (b : PlainBoard) (m : Ply) (u : Man) → unit_at b m.from ≡ Some u → IsLawful b m → (n : ℕ) → (Promotes b.game u m.to → n ≡ 5) → 1 ≤ n → promotion_number m.promotion < n
promotion_tried b m u stands l n five one = elim (cases_lt 0 (promotion_number m.promotion)) [
  | inl some ↦ let e = five (promotes_to b m u stands some l) in let p = (HasParts-lawful b m l).promotion in omega (arith, e, p)
  | inr none ↦ omega (arith, none, one)
]

-- ---- the move of the unit that stands there

module _ (b : PlainBoard) (m : Ply) (u : Man) (stands : unit_at b m.from ≡ Some u) where
  pub pseudo_by : IsLawful b m → IsPseudoLegal b m u
  pseudo_by (q, move) = subst (IsPseudoLegal b m) (same_Some move.unit u (sym move.pseudo.stands ∙ stands)) move.pseudo

  pub next_by : (q : PlainBoard) → IsMove b m q → q ≡ after b m u
  next_by q move = move.leads ∙ ap (after b m) (same_Some move.unit u (sym move.pseudo.stands ∙ stands))

  pub move_by : (l : IsLawful b m) → IsMove b m (after b m u)
  move_by (q, move) = subst (IsMove b m) (next_by q move) move

-- ---- moves that are lawful but for their own king's safety

enemy_on : (mode : Mode) (side : Side) (v : Man) → Allows mode side (Some v) → v.side ≡ other_side side
enemy_on Move side v h = absurd h
enemy_on Capture side v h = h
enemy_on Both side v h = h

-- where the other king isn't attacked, no unit of the mover comes to a king
pub takes_no_king : (b : PlainBoard) (u : Man) (s t : Place) (o : Option Man) → o ≡ unit_at b t → (IsInCheck b (other_side b.mover) → ⊥) → IsOnBoard b.game s → IsOnBoard b.game t → unit_at b s ≡ Some u → u.side ≡ b.mover → Reaches b u s t o → IsSomeKing o → ⊥
takes_no_king b u s t None at safe from to stands owner r king = king
takes_no_king b u s t (Some v) at safe from to stands owner r king =
    let foe : v.side ≡ other_side b.mover = enemy_on r.step.mode u.side v r.reaches.allows ∙ ap other_side owner in
    let there : v ≡ record { side = other_side b.mover; kind = King } = λ i. record { side = foe i; kind = king i } in
    let again = sym (other_twice b.mover) in
    let target : v ≡ record { side = other_side (other_side (other_side b.mover)); kind = King } = there ∙ ap (λ x. record { side = other_side x; kind = King }) again in
    safe (check_from b (other_side b.mover) t to (sym at ∙ ap Some there)
    (s, record { unit = u; on_board = from; stands = stands; owner = owner ∙ again; reaches = subst (λ (x : Man). Reaches b u s t (Some x)) target r }))
