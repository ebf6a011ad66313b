-- A set with a cell.
use Rattle.std.proofs.Common.{◌≡◌, ℕ, ◌*◌, ◌^◌, ◌%◌, ◌<◌, w64, sym, ap, subst, ◌∙◌, ◌⊎◌, inl, inr, ◌↔◌}
use Rattle.std.specs.Int.{bit_at}
use Rattle.std.specs.Int.RustNames.{bit_or}
use Rattle.std.proofs.lemmas.Bool.{cases_eq}
use Rattle.std.proofs.lemmas.Nat.Bits.{bit_at_set_same, bit_at_set_other}
use Rattle.board.specs.declared.game.Game.{Game}
use Rattle.cells.specs.Mailbox.{cell_of, place_in, IsCell}
use Rattle.cells.specs.CellSets.{Has}
use Rattle.cells.proofs.CellNumbers.{cell_of-place_in}

-- a set with a cell
pub Has-with : (set k i : ℕ) → k < 64 → Has (bit_or set (1 * 2 ^ k % 2 ^ 64)) i ↔ (Has set i ⊎ (k ≡ i))
Has-with set k i low = elim (cases_eq i k) [
  | inl same ↦ (
    λ _. inr (sym same),
    λ _. subst (λ n. bit_at (bit_or set (1 * 2 ^ k % 2 ^ 64)) n ≡ 1) (sym same) (bit_at_set_same w64 set k low),
  )
  | inr other ↦ (
    λ h. inl (sym (bit_at_set_other w64 set k low i other) ∙ h),
    λ h. elim h [ inl x ↦ bit_at_set_other w64 set k low i other ∙ x | inr y ↦ absurd (other (sym y)) ],
  )
]

-- cells of one square are one cell
pub same_cell : (g : Game) (i j : ℕ) → IsCell g i → IsCell g j → place_in i ≡ place_in j → i ≡ j
same_cell g i j a b e = sym (cell_of-place_in g i a) ∙ ap cell_of e ∙ cell_of-place_in g j b
