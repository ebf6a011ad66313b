-- Cells and steps: where a step from a square leads on the board with its border.
use Rattle.std.proofs.Common.{◌≡◌, ℕ, ◌+◌, ◌*◌, ◌<◌, ◌≤◌, ℤ, pos, negsuc, ◌+ℤ◌, ◌*ℤ◌, sym, subst, arith, ◌⊎◌, inl, inr}
use Rattle.std.specs.Int.RustNames.{unsigned_abs}
use Rattle.std.proofs.lemmas.Int.{ints}
use Rattle.std.proofs.lemmas.Bool.{cases_lt}
use Rattle.board.specs.declared.game.Game.{Game}
use Rattle.board.specs.declared.game.Game.TheVariants.{LosAlamos, Gardner}
use Rattle.board.specs.Games.{width_of}
use Rattle.rules.specs.Squares.{Place, IsOnBoard}
use Rattle.rules.specs.Reach.{IsShift}
use Rattle.cells.specs.Mailbox.{cell_of, place_in, IsAway, IsCell}
use Rattle.rules.proofs.Rides.{same_place, within_six as six}

-- a square stands in its cell
pub place_in-cell_of : (g : Game) (s : Place) → IsOnBoard g s → place_in (cell_of s) ≡ s
place_in-cell_of g s on =
    let f = six g s.file on.file in
    same_place (place_in (cell_of s)) s (omega arith) (omega arith)

pub cell_of-place_in : (g : Game) (i : ℕ) → IsCell g i → cell_of (place_in i) ≡ i
cell_of-place_in g i c = let a = c.above in omega arith

pub IsCell-cell_of : (g : Game) (s : Place) → IsOnBoard g s → IsCell g (cell_of s)
IsCell-cell_of g s on = record { above = omega arith; on_board = subst (IsOnBoard g) (sym (place_in-cell_of g s on)) on }

-- whether a cell is a square of the board
pub cell_cases : (g : Game) (i : ℕ) → IsCell g i ⊎ (IsCell g i → ⊥)
cell_cases g i = elim (cases_lt i 17) [
  | inl less ↦ inr (λ c. let a = c.above in absurd (omega arith))
  | inr above ↦ elim (cases_lt (place_in i).file (width_of g)) [
    | inr far ↦ inr (λ c. let f = c.on_board.file in absurd (omega arith))
    | inl file ↦ elim (cases_lt (place_in i).rank (width_of g)) [
      | inr high ↦ inr (λ c. let r = c.on_board.rank in absurd (omega arith))
      | inl rank ↦ inl (record { above = above; on_board = record { file = file; rank = rank } })
    ]
  ]
]

-- on the board with its border no step of two squares at most wraps round an edge
file_away : (dx dy : ℤ) (f r f' r' : ℕ) → f < 6 → f' < 6 → unsigned_abs dx ≤ 2 → pos (8 * r' + f') ≡ (pos (8 * r + f) +ℤ dx) +ℤ (pos 8 *ℤ dy) → (pos f' ≡ pos f +ℤ dx) × (pos r' ≡ pos r +ℤ dy)
file_away (pos x) (pos y) f r f' r' a b c e = (omega (arith, ints, e), omega (arith, ints, e))
file_away (pos x) (negsuc y) f r f' r' a b c e = (omega (arith, ints, e), omega (arith, ints, e))
file_away (negsuc x) (pos y) f r f' r' a b c e = (omega (arith, ints, e), omega (arith, ints, e))
file_away (negsuc x) (negsuc y) f r f' r' a b c e = (omega (arith, ints, e), omega (arith, ints, e))

-- a cell of the board that is a step away holds the square that the step leads to
pub shift_in : (g : Game) (dx dy : ℤ) (i j : ℕ) → IsCell g i → unsigned_abs dx ≤ 2 → IsAway dx dy i j → IsCell g j → IsShift dx dy (place_in i) (place_in j)
shift_in g dx dy i j from small away to =
    let a : i ≡ 17 + (8 * (place_in i).rank + (place_in i).file) = let h = from.above in omega arith in
    let b : j ≡ 17 + (8 * (place_in j).rank + (place_in j).file) = let h = to.above in omega arith in
    let e : pos (8 * (place_in j).rank + (place_in j).file) ≡ (pos (8 * (place_in i).rank + (place_in i).file) +ℤ dx) +ℤ (pos 8 *ℤ dy) = omega (arith, ints, a, b, away) in
    let w = file_away dx dy (place_in i).file (place_in i).rank (place_in j).file (place_in j).rank (six g _ from.on_board.file) (six g _ to.on_board.file) small e in
    record { file = w.0; rank = w.1 }

pub small_squares : (g : Game) → width_of g * width_of g ≤ 36
small_squares LosAlamos = omega arith
small_squares Gardner = omega arith

-- a square's cell is one of 64
pub cell_small : (g : Game) (i : ℕ) → IsCell g i → i < 63
cell_small g i c = let f = six g _ c.on_board.file in let r = six g _ c.on_board.rank in let a = c.above in omega arith
