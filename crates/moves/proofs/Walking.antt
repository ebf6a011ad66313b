-- A walk over cells in the order of their squares' numbers, as a set's cells are taken from the lowest on.
use Rattle.moves.proofs.Common.{◌≡◌, ◌≢◌, ℕ, ◌+◌, ◌<◌, ◌≤◌, ap, arith, inl, inr, ◌↔◌, cases_order, Game, LosAlamos, Gardner, squares_of, square_number, place_in, IsCell, number_within}

-- cells are ordered as their squares' numbers are
cell_order : (g : Game) (i j : ℕ) → IsCell g i → IsCell g j → (square_number g (place_in i) < square_number g (place_in j)) ↔ (i < j)
cell_order LosAlamos i j a b = let x = a.on_board.file in let y = b.on_board.file in let p = a.above in let q = b.above in (λ h. omega arith, λ h. omega arith)
cell_order Gardner i j a b = let x = a.on_board.file in let y = b.on_board.file in let p = a.above in let q = b.above in (λ h. omega arith, λ h. omega arith)

-- the cells with P on squares numbered from `upto` on are left, and H holds up to there
pub record IsWalked (g : Game) (P L H : ℕ → Type 0) : Type 0 where
  pub upto : ℕ
  pub within : upto ≤ squares_of g
  pub left : (i : ℕ) → L i ↔ (P i × (upto ≤ square_number g (place_in i)))
  pub holds : H upto

pub walked_start : (g : Game) (P L H : ℕ → Type 0) → ((i : ℕ) → L i ↔ P i) → H 0 → IsWalked g P L H
walked_start g P L H all start = record { upto = 0; within = omega arith; left = λ i. (λ h. ((all i).0 h, omega arith), λ w. (all i).1 w.0); holds = start }

-- where no cell with P is passed, H holds on
abbrev pub Jumps : (g : Game) (P H : ℕ → Type 0) → Type 0
Jumps g P H = (n k : ℕ) → n ≤ k → k ≤ squares_of g → ((i : ℕ) → P i → n ≤ square_number g (place_in i) → square_number g (place_in i) < k → ⊥) → H n → H k

module _ (g : Game) (P L H : ℕ → Type 0) (cell : (i : ℕ) → P i → IsCell g i) (jump : Jumps g P H) (s : IsWalked g P L H) where
  pub walked_end : ((i : ℕ) → L i → ⊥) → H (squares_of g)
  walked_end none = jump s.upto (squares_of g) s.within (omega arith) (λ i p low high. none i ((s.left i).1 (p, low))) s.holds

  -- the lowest cell that is left is the next
  module _ (to : ℕ) (there : L to) (least : (i : ℕ) → i < to → L i → ⊥) where
    pub next_holds : H (square_number g (place_in to))
    next_holds =
        let last = number_within g (place_in to) (cell to ((s.left to).0 there).0).on_board in
        jump s.upto (square_number g (place_in to)) ((s.left to).0 there).1 (omega (arith, last))
        (λ i p low high. least i ((cell_order g i to (cell i p) (cell to ((s.left to).0 there).0)).0 high) ((s.left i).1 (p, low))) s.holds

    -- once it is taken the others are left
    pub walked_more : (M K : ℕ → Type 0) → ((i : ℕ) → M i ↔ (L i × (i ≢ to))) → K (square_number g (place_in to) + 1) → IsWalked g P M K
    walked_more M K rest after =
        let last = number_within g (place_in to) (cell to ((s.left to).0 there).0).on_board in
        let first = ((s.left to).0 there).1 in
        record {
          upto = square_number g (place_in to) + 1;
          within = omega (arith, last);
          left = λ i. (
            λ h. let (l, other) = (rest i).0 h in let p = ((s.left i).0 l).0 in (p, later i p l other),
            λ (p, more). (rest i).1 ((s.left i).1 (p, omega (arith, first, more)), apart i more),
          );
          holds = after;
        }
      where
        later : (i : ℕ) → P i → L i → i ≢ to → square_number g (place_in to) + 1 ≤ square_number g (place_in i)
        later i p l other = elim (cases_order i to) [
          | inl same ↦ absurd (other same)
          | inr (inl below) ↦ absurd (least i below l)
          | inr (inr above) ↦ let e = (cell_order g to i (cell to ((s.left to).0 there).0) (cell i p)).1 above in omega (arith, e)
        ]

        apart : (i : ℕ) → square_number g (place_in to) + 1 ≤ square_number g (place_in i) → i ≢ to
        apart i more same = let e : square_number g (place_in i) ≡ square_number g (place_in to) = ap (λ x. square_number g (place_in x)) same in omega (arith, more, e)
