-- A side's king stands on one square.
use Rattle.moves.proofs.Common.{◌≡◌, ℕ, ◌<◌, ◌≤◌, refl, sym, ap, subst, ◌∙◌, arith, inl, inr, Bool, true, cond, List, length, get_or, take, Option, Some, None, count_by, get_or-take, length-take, cases_order, sum_by_more_le, Side, White, Black, King, Man, other_side, PlainBoard, is_king_of, IsPosition, Place, IsOnBoard, square_number, unit_at, IsAttacked, IsInCheck, cell_of, place_in, IsCell, IsCell-cell_of, place_in-cell_of, same_number, number_within, squares_36}

abbrev pub king_of : Side → Option Man
king_of side = Some (record { side = side; kind = King })

is_king : (side : Side) → is_king_of side (king_of side) ≡ true
is_king White = refl
is_king Black = refl

counted : (p : Option Man → Bool) (o : Option Man) → p o ≡ true → 1 ≤ cond (p o) 1 0
counted p o e = subst (λ r. 1 ≤ cond r 1 0) (sym e) (omega arith)

-- what is counted once doesn't stand at two places
once_only : (p : Option Man → Bool) (xs : List (Option Man)) (i j : ℕ) (d : Option Man) → count_by p xs ≡ 1 → i < j → j < length xs → p (get_or xs i d) ≡ true → p (get_or xs j d) ≡ true → ⊥
once_only p xs i j d one less low a b =
    let later = sum_by_more_le (λ x. cond (p x) 1 0) xs j d low in
    let within : i < length (take j xs) = omega (arith, length-take {A = Option Man}, low, less) in
    let sooner = sum_by_more_le (λ x. cond (p x) 1 0) (take j xs) i d within in
    let at : p (get_or (take j xs) i d) ≡ true = ap p (get_or-take j xs i d less) ∙ a in
    omega (arith, later, sooner, counted p _ at, counted p _ b, one)

module _ (b : PlainBoard) (is : IsPosition b) (side : Side) where
  king_at : (s : Place) → unit_at b s ≡ king_of side → is_king_of side (get_or b.units (square_number b.game s) None) ≡ true
  king_at s e = ap (is_king_of side) e ∙ is_king side

  -- two squares that have the king are one
  pub one_king : (s t : Place) → IsOnBoard b.game s → IsOnBoard b.game t → unit_at b s ≡ king_of side → unit_at b t ≡ king_of side → s ≡ t
  one_king s t on on' e f = elim (cases_order (square_number b.game s) (square_number b.game t)) [
    | inl same ↦ same_number b.game s t on on' same
    | inr (inl before) ↦ absurd (once_only (is_king_of side) b.units _ _ None (is.armies side).king before (omega (arith, number_within b.game t on', squares_36 b.game, is.places)) (king_at s e) (king_at t f))
    | inr (inr after) ↦ absurd (once_only (is_king_of side) b.units _ _ None (is.armies side).king after (omega (arith, number_within b.game s on, squares_36 b.game, is.places)) (king_at t f) (king_at s e))
  ]

  -- check is an attack on the king's square
  pub check_at : (s : Place) → IsOnBoard b.game s → unit_at b s ≡ king_of side → IsInCheck b side → IsAttacked b s (other_side side)
  check_at s on e (t, check) = subst (λ x. IsAttacked b x (other_side side)) (one_king t s check.on_board on check.king e) check.attacked

pub check_from : (b : PlainBoard) (side : Side) (s : Place) → IsOnBoard b.game s → unit_at b s ≡ king_of side → IsAttacked b s (other_side side) → IsInCheck b side
check_from b side s on e attacked = (s, record { on_board = on; king = e; attacked = attacked })

-- where no cell has the king, there is no check
pub no_check : (b : PlainBoard) (side : Side) → ((i : ℕ) → IsCell b.game i → unit_at b (place_in i) ≡ king_of side → ⊥) → IsInCheck b side → ⊥
no_check b side none (s, check) =
    none (cell_of s) (IsCell-cell_of b.game s check.on_board) (ap (unit_at b) (place_in-cell_of b.game s check.on_board) ∙ check.king)
