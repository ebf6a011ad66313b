-- The tables of lines: each has the rays of four ways.
use Rattle.std.proofs.Common.{◌≡◌, ℕ, refl, sym, subst, arith, ◌↔◌, ◌⊎◌, true, eqb, List, [], get_or}
use Rattle.std.specs.Int.RustNames.{bit_or}
use Rattle.std.proofs.lemmas.Bool.{eqb-true}
use Rattle.board.specs.declared.game.Game.{Game}
use Rattle.board.specs.declared.game.Game.TheVariants.{LosAlamos, Gardner}
use Rattle.cells.specs.declared.tables.Way.{Way}
use Rattle.cells.specs.declared.tables.Way.TheVariants.{North, South, East, West, NorthEast, SouthWest, NorthWest, SouthEast}
use Rattle.cells.specs.declared.tables.TheConstants.{STRAIGHT_LINES, SLANTED_LINES}
use Rattle.cells.specs.Mailbox.{IsCell}
use Rattle.cells.specs.CellSets.{Has}
use Rattle.cells.specs.Ways.{IsOnRay, IsOnStraight, IsOnSlanted, set_in, board_number}
use Rattle.cells.proofs.CellNumbers.{cell_small}
use Rattle.cells.proofs.Masks.{four-are}
use Rattle.cells.proofs.OnRays.{all_below, below-all, table_of, IsOnRay-table}

abbrev pub of_four : Way → Way → Way → Way → Game → ℕ → ℕ
of_four a b c d g i = bit_or (bit_or (bit_or (set_in (table_of a) g i) (set_in (table_of b) g i)) (set_in (table_of c) g i)) (set_in (table_of d) g i)

-- checked for each cell
straight_rays : (g : Game) → all_below (λ i. eqb (set_in STRAIGHT_LINES g i) (of_four North South East West g i)) 64 ≡ true
unfolding all_below
straight_rays LosAlamos = refl
straight_rays Gardner = refl

slanted_rays : (g : Game) → all_below (λ i. eqb (set_in SLANTED_LINES g i) (of_four NorthEast SouthWest NorthWest SouthEast g i)) 64 ≡ true
unfolding all_below
slanted_rays LosAlamos = refl
slanted_rays Gardner = refl

module _ (g : Game) (n i j : ℕ) (number : n ≡ board_number g) (cell : IsCell g i) where
  lines : (table : List (List ℕ)) (a b c d : Way) → all_below (λ k. eqb (set_in table g k) (of_four a b c d g k)) 64 ≡ true
      → Has (get_or (get_or table n []) i 0) j ↔ (IsOnRay g a i j ⊎ (IsOnRay g b i j ⊎ (IsOnRay g c i j ⊎ IsOnRay g d i j)))
  lines table a b c d test =
      let same = eqb-true _ _ (below-all (λ k. eqb (set_in table g k) (of_four a b c d g k)) 64 test i (let s = cell_small g i cell in omega arith)) in
      let P = λ (set : ℕ). Has set j ↔ (IsOnRay g a i j ⊎ (IsOnRay g b i j ⊎ (IsOnRay g c i j ⊎ IsOnRay g d i j))) in
      subst (λ k. P (get_or (get_or table k []) i 0)) (sym number)
      (subst P (sym same) (four-are (IsOnRay g a i) (IsOnRay g b i) (IsOnRay g c i) (IsOnRay g d i) (set_in (table_of a) g i) (set_in (table_of b) g i) (set_in (table_of c) g i) (set_in (table_of d) g i)
      (λ k. IsOnRay-table a g i k cell) (λ k. IsOnRay-table b g i k cell) (λ k. IsOnRay-table c g i k cell) (λ k. IsOnRay-table d g i k cell) j))

  pub straight : Has (get_or (get_or STRAIGHT_LINES n []) i 0) j ↔ IsOnStraight g i j
  straight = lines STRAIGHT_LINES North South East West (straight_rays g)

  pub slanted : Has (get_or (get_or SLANTED_LINES n []) i 0) j ↔ IsOnSlanted g i j
  slanted = lines SLANTED_LINES NorthEast SouthWest NorthWest SouthEast (slanted_rays g)
