-- The tables of leaps: each has the cells that the steps of the kind lead to at once.
use Rattle.std.proofs.Common.{◌≡◌, ℕ, ◌+◌, ◌^◌, ◌<◌, ◌≤◌, zero, suc, refl, sym, ap, subst, ◌∙◌, arith, ◌↔◌, inl, inr, Bool, true, false, ◌||◌, not, cond, eqb, ℤ, pos, ◌+ℤ◌, ◌*ℤ◌, List, [], ◌∷◌, Contains, All, ltb, ◌*◌, get_or}
use Rattle.std.specs.Int.RustNames.{bit_or, unsigned_abs}
use Rattle.std.proofs.lemmas.Int.{ints}
use Rattle.std.specs.List.{list_all}
use Rattle.std.proofs.lemmas.List.Sums.{AllPass-from_list_all}
use Rattle.std.proofs.lemmas.Bool.{eqb-true, ltb-true, false≢true}
use Rattle.board.specs.declared.game.Game.{Game}
use Rattle.board.specs.declared.game.Game.TheVariants.{LosAlamos, Gardner}
use Rattle.board.specs.declared.game.Side.{Side}
use Rattle.board.specs.declared.game.Side.TheVariants.{White, Black}
use Rattle.board.specs.declared.game.Kind.{Kind}
use Rattle.board.specs.declared.game.Kind.TheVariants.{King, Knight, Pawn}
use Rattle.board.specs.declared.step.Mode.{Mode}
use Rattle.board.specs.declared.step.Mode.TheVariants.{Move, Capture, Both}
use Rattle.board.specs.declared.step.Step.{Step}
use Rattle.cells.specs.Mailbox.{IsAway, IsCell}
use Rattle.rules.specs.Reach.{ahead_of}
use Rattle.cells.specs.StepTables.{table_of}
use Rattle.cells.specs.declared.tables.TheConstants.{KING_LEAPS, KNIGHT_LEAPS, WHITE_CAPTURES, BLACK_CAPTURES}
use Rattle.cells.specs.CellSets.{Has}
use Rattle.cells.specs.Leaps.{IsLeapt}
use Rattle.cells.specs.Ways.{set_in, board_number}
use Rattle.rules.proofs.Rides.{size-ahead}
use Rattle.cells.proofs.CellNumbers.{cell_small}
use Rattle.cells.proofs.TableTests.{table_of-exact}
use Rattle.cells.proofs.OnRays.{all_below, below-all, is_cell, cell-is, is-cell, Has-more, Has-none}

-- the cell that is dx files and dy ranks away, where there is one
abbrev pub cell_away : ℤ → ℤ → ℕ → ℕ
cell_away dx dy i = unsigned_abs ((pos i +ℤ dx) +ℤ (pos 8 *ℤ dy))

abbrev pub is_move : Mode → Bool
is_move Move = true
is_move Capture = false
is_move Both = false

-- the set of the cells to which steps that may capture lead
pub set_of : Game → Side → ℕ → List Step → ℕ
set_of g side i [] = 0
set_of g side i (x ∷ xs) = cond (is_move x.mode) (set_of g side i xs)
    (cond (is_cell g (cell_away x.dx (ahead_of side x.dy) i)) (bit_or (2 ^ cell_away x.dx (ahead_of side x.dy) i) (set_of g side i xs)) (set_of g side i xs))

-- some step of the list leads to j
pub record IsListed (g : Game) (side : Side) (i j : ℕ) (steps : List Step) : Type 0 where
  pub step : Step
  pub listed : Contains steps step
  pub cell : IsCell g j
  pub captures : step.mode ≡ Move → ⊥
  pub away : IsAway step.dx (ahead_of side step.dy) i j

-- a near step from a cell of the board stays above 0
abbrev pub IsShort : Step → Type 0
IsShort x = unsigned_abs x.dx + 8 * unsigned_abs x.dy < 18

away-is : (dx dy : ℤ) (i j : ℕ) → IsAway dx dy i j → cell_away dx dy i ≡ j
away-is dx dy i j e = omega (arith, ints, e)

is-away : (dx dy : ℤ) (i : ℕ) → 17 ≤ i → unsigned_abs dx + 8 * unsigned_abs dy < 18 → IsAway dx dy i (cell_away dx dy i)
is-away dx dy i h small = omega (arith, ints, h, small)

same_size : (side : Side) (x : Step) → IsShort x → unsigned_abs x.dx + 8 * unsigned_abs (ahead_of side x.dy) < 18
same_size side x h = let e = size-ahead side x.dy in omega (arith, e, h)

captures : (m : Mode) → is_move m ≡ false → m ≡ Move → ⊥
captures Move e h = cc
captures Capture e h = cc
captures Both e h = cc

is-move : (m : Mode) → (m ≡ Move → ⊥) → is_move m ≡ false
is-move Move h = absurd (h refl)
is-move Capture h = refl
is-move Both h = refl

module _ (g : Game) (side : Side) (i : ℕ) (low : 17 ≤ i) (j : ℕ) where
  later : (x : Step) (xs : List Step) → IsListed g side i j xs → IsListed g side i j (x ∷ xs)
  later x xs w =
      let (n, h, at) = w.listed in
      record { step = w.step; listed = (suc n, omega (arith, h), at); cell = w.cell; captures = w.captures; away = w.away }

  here : (x : Step) (xs : List Step) → (x.mode ≡ Move → ⊥) → IsCell g j → IsAway x.dx (ahead_of side x.dy) i j → IsListed g side i j (x ∷ xs)
  here x xs c cell a = record { step = x; listed = (0, omega arith, refl); cell = cell; captures = c; away = a }

  from_head : (x : Step) (xs : List Step) → IsShort x → (Has (set_of g side i xs) j → IsListed g side i j (x ∷ xs)) → Has (set_of g side i (x ∷ xs)) j → IsListed g side i j (x ∷ xs)
  unfolding set_of
  from_head x xs short rest has = by_mode (is_move x.mode) refl
    where
      by_cell : (r : Bool) → is_cell g (cell_away x.dx (ahead_of side x.dy) i) ≡ r → is_move x.mode ≡ false → Has (cond r (bit_or (2 ^ cell_away x.dx (ahead_of side x.dy) i) (set_of g side i xs)) (set_of g side i xs)) j → IsListed g side i j (x ∷ xs)
      by_cell true e m h = elim ((Has-more (cell_away x.dx (ahead_of side x.dy) i) _ j).0 h) [
        | inl same ↦ here x xs (captures x.mode m) (subst (IsCell g) same (is-cell g _ e)) (subst (IsAway x.dx (ahead_of side x.dy) i) same (is-away x.dx (ahead_of side x.dy) i low (same_size side x short)))
        | inr more ↦ rest more
      ]
      by_cell false e m h = rest h

      by_mode : (r : Bool) → is_move x.mode ≡ r → IsListed g side i j (x ∷ xs)
      by_mode true e = rest (subst (λ r. Has (cond r (set_of g side i xs) (cond (is_cell g (cell_away x.dx (ahead_of side x.dy) i)) (bit_or (2 ^ cell_away x.dx (ahead_of side x.dy) i) (set_of g side i xs)) (set_of g side i xs))) j) e has)
      by_mode false e = by_cell (is_cell g (cell_away x.dx (ahead_of side x.dy) i)) refl e (subst (λ r. Has (cond r (set_of g side i xs) (cond (is_cell g (cell_away x.dx (ahead_of side x.dy) i)) (bit_or (2 ^ cell_away x.dx (ahead_of side x.dy) i) (set_of g side i xs)) (set_of g side i xs))) j) e has)

  pub listed-has : (xs : List Step) → All IsShort xs → Has (set_of g side i xs) j → IsListed g side i j xs
  unfolding set_of
  listed-has [] short has = absurd (Has-none j has)
  listed-has (x ∷ xs) short has =
      from_head x xs (short 0 x (omega arith)) (λ h. later x xs (listed-has xs (λ k d l. short (suc k) d (omega (arith, l))) h)) has

  keeps : (x : Step) (xs : List Step) → Has (set_of g side i xs) j → Has (set_of g side i (x ∷ xs)) j
  unfolding set_of
  keeps x xs h = by_mode (is_move x.mode) (is_cell g (cell_away x.dx (ahead_of side x.dy) i))
    where
      by_mode : (r s : Bool) → Has (cond r (set_of g side i xs) (cond s (bit_or (2 ^ cell_away x.dx (ahead_of side x.dy) i) (set_of g side i xs)) (set_of g side i xs))) j
      by_mode true s = h
      by_mode false true = (Has-more _ _ j).1 (inr h)
      by_mode false false = h

  pub has-listed : (xs : List Step) → (step : Step) → Contains xs step → (step.mode ≡ Move → ⊥) → IsCell g j → IsAway step.dx (ahead_of side step.dy) i j → Has (set_of g side i xs) j
  unfolding set_of
  has-listed [] step (n, h, at) c cell a = absurd (omega (arith, h))
  has-listed (x ∷ xs) step (zero, h, at) c cell a =
      let e : cell_away x.dx (ahead_of side x.dy) i ≡ j = (λ k. cell_away (at k).dx (ahead_of side (at k).dy) i) ∙ away-is step.dx (ahead_of side step.dy) i j a in
      let m : is_move x.mode ≡ false = (λ k. is_move (at k).mode) ∙ is-move step.mode c in
      let on : is_cell g (cell_away x.dx (ahead_of side x.dy) i) ≡ true = ap (is_cell g) e ∙ cell-is g j cell in
      subst (λ r. Has (cond r (set_of g side i xs) (cond (is_cell g (cell_away x.dx (ahead_of side x.dy) i)) (bit_or (2 ^ cell_away x.dx (ahead_of side x.dy) i) (set_of g side i xs)) (set_of g side i xs))) j) (sym m)
      (subst (λ r. Has (cond r (bit_or (2 ^ cell_away x.dx (ahead_of side x.dy) i) (set_of g side i xs)) (set_of g side i xs)) j) (sym on)
      ((Has-more _ _ j).1 (inl e)))
  has-listed (x ∷ xs) step (suc n, h, at) c cell a = keeps x xs (has-listed xs step (n, omega (arith, h), at) c cell a)

-- ---- the tables

abbrev pub is_leaps : List (List ℕ) → Side → List Step → Game → ℕ → Bool
is_leaps table side steps g i = not (is_cell g i) || eqb (set_in table g i) (set_of g side i steps)

tested : (p q : Bool) → p ≡ true → (not p || q) ≡ true → q ≡ true
tested true q h e = e
tested false q h e = absurd (false≢true h)

pub IsLeapt-in : (table : List (List ℕ)) (side : Side) (kind : Kind) (g : Game) → all_below (is_leaps table side (table_of kind) g) 64 ≡ true → All IsShort (table_of kind) → (i j : ℕ) → IsCell g i → Has (set_in table g i) j ↔ IsLeapt g side kind i j
IsLeapt-in table side kind g all short i j c =
    let e : set_in table g i ≡ set_of g side i (table_of kind) =
    eqb-true _ _ (tested (is_cell g i) _ (cell-is g i c) (below-all (is_leaps table side (table_of kind) g) 64 all i (let s = cell_small g i c in omega arith))) in (
      λ h. let w = listed-has g side i c.above j (table_of kind) short (subst (λ s. Has s j) e h) in
          record { cell = w.cell; step = w.step; denoted = (table_of-exact kind w.step).0 w.listed; captures = w.captures; away = w.away },
      λ w. subst (λ s. Has s j) (sym e) (has-listed g side i c.above j (table_of kind) w.step ((table_of-exact kind w.step).1 w.denoted) w.captures w.cell w.away),
    )

abbrev pub is_short : Step → Bool
is_short x = ltb (unsigned_abs x.dx + 8 * unsigned_abs x.dy) 18

short-from : (xs : List Step) → list_all is_short xs ≡ true → All IsShort xs
short-from xs e = λ k d h. ltb-true _ _ (AllPass-from_list_all is_short xs e k d h)

pub king_leaps : (side : Side) (g : Game) → all_below (is_leaps KING_LEAPS side (table_of King) g) 64 ≡ true
unfolding all_below set_of
king_leaps White LosAlamos = refl
king_leaps White Gardner = refl
king_leaps Black LosAlamos = refl
king_leaps Black Gardner = refl

pub knight_leaps : (side : Side) (g : Game) → all_below (is_leaps KNIGHT_LEAPS side (table_of Knight) g) 64 ≡ true
unfolding all_below set_of
knight_leaps White LosAlamos = refl
knight_leaps White Gardner = refl
knight_leaps Black LosAlamos = refl
knight_leaps Black Gardner = refl

pub white_captures : (g : Game) → all_below (is_leaps WHITE_CAPTURES White (table_of Pawn) g) 64 ≡ true
unfolding all_below set_of
white_captures LosAlamos = refl
white_captures Gardner = refl

pub black_captures : (g : Game) → all_below (is_leaps BLACK_CAPTURES Black (table_of Pawn) g) 64 ≡ true
unfolding all_below set_of
black_captures LosAlamos = refl
black_captures Gardner = refl

pub king_short : All IsShort (table_of King)
king_short = short-from (table_of King) refl

pub knight_short : All IsShort (table_of Knight)
knight_short = short-from (table_of Knight) refl

pub pawn_short : All IsShort (table_of Pawn)
pawn_short = short-from (table_of Pawn) refl

-- as a table of one side is read
pub IsLeapt-entry : (table : List (List ℕ)) (side s : Side) → side ≡ s → (g : Game) (n i j : ℕ) → n ≡ board_number g → (Has (set_in table g i) j ↔ IsLeapt g s Pawn i j) → Has (get_or (get_or table n []) i 0) j ↔ IsLeapt g side Pawn i j
IsLeapt-entry table side s e g n i j f w =
    subst (λ x. Has (get_or (get_or table n []) i 0) j ↔ IsLeapt g x Pawn i j) (sym e) (subst (λ k. Has (get_or (get_or table k []) i 0) j ↔ IsLeapt g s Pawn i j) (sym f) w)
