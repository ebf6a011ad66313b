-- Boards that are turned about, unit by unit, and what is forced on them.
use Rattle.std.proofs.Common.{◌≡◌, ◌≢◌, ℕ, ◌+◌, ◌<◌, ◌≤◌, inl, inr, refl, sym, ap, subst, ◌∙◌, arith, List, length, get_or, set, replicate, Option, Some, None}
use Rattle.std.specs.Option.{IfSome}
use Rattle.std.proofs.lemmas.Bool.{cases_eq}
use Rattle.std.proofs.lemmas.List.{get_or-set_same, get_or-set_other, length-set}
use Rattle.board.specs.declared.game.Unit.{Unit as Man}
use Rattle.board.specs.Games.{squares_of}
use Rattle.board.specs.Board.{PlainBoard, board_of, unit_on, IsPosition, MayStandOn}
use Rattle.rules.specs.Squares.{Place, IsOnBoard, square_number, unit_at}
use Rattle.rules.proofs.Listed.{same_number, number_within}
use Rattle.laws.specs.Turnings.{Turning as Way, turned_place, turned_units, IsTurned}
use Rattle.laws.proofs.Squares.{back_of, turned_on_board, turned_back}
use Rattle.decision.specs.declared.turning.Turning.{Turning}
use Rattle.decision.specs.Turned.{turn_of}
use Rattle.moves.proofs.Packing.{within_36, replicate_none}

-- the units of the squares below n stand where their squares come to lie, and none past the board
pub record IsTurnedUpTo (t : Way) (b : PlainBoard) (units : List (Option Man)) (n : ℕ) : Type 0 where
  pub long : length units ≡ 36
  pub done : (s : Place) → IsOnBoard b.game s → square_number b.game s < n → get_or units (square_number b.game (turned_place b.game t s)) None ≡ unit_at b s
  pub past : (k : ℕ) → squares_of b.game ≤ k → get_or units k None ≡ None

abbrev nothing : Option Man
nothing = None

pub turned_none : (t : Way) (b : PlainBoard) → IsTurnedUpTo t b (replicate 36 nothing) 0
turned_none t b = record { long = refl; done = λ s on less. absurd (omega (arith, less)); past = λ k far. replicate_none 36 k }

-- one square more
module _ (t : Way) (b : PlainBoard) (units : List (Option Man)) (n : ℕ) (s : Place) (o : Option Man) (on : IsOnBoard b.game s) (number : square_number b.game s ≡ n) (stands : o ≡ unit_at b s) (c : IsTurnedUpTo t b units n) where
  abbrev to : ℕ
  to = square_number b.game (turned_place b.game t s)

  to_within : to < squares_of b.game
  to_within = number_within b.game (turned_place b.game t s) (turned_on_board b.game t s on)

  to_fits : to < length units
  to_fits = let less = within_36 b.game to to_within in omega (arith, less, c.long)

  apart : (x : Place) → IsOnBoard b.game x → square_number b.game x ≢ n → square_number b.game (turned_place b.game t x) ≢ to
  apart x on_x other same =
      let image = same_number b.game (turned_place b.game t x) (turned_place b.game t s) (turned_on_board b.game t x on_x) (turned_on_board b.game t s on) same in
      let back : x ≡ s = sym (turned_back b.game t x on_x) ∙ ap (turned_place b.game (back_of t)) image ∙ turned_back b.game t s on in
      other (ap (square_number b.game) back ∙ number)

  here : get_or (set units to o) (square_number b.game (turned_place b.game t s)) None ≡ unit_at b s
  here = get_or-set_same units to o None to_fits ∙ stands

  done : (x : Place) → IsOnBoard b.game x → square_number b.game x < n + 1 → get_or (set units to o) (square_number b.game (turned_place b.game t x)) None ≡ unit_at b x
  done x on_x less = elim (cases_eq (square_number b.game x) n) [
    | inl same ↦ subst (λ (y : Place). get_or (set units to o) (square_number b.game (turned_place b.game t y)) None ≡ unit_at b y) (sym (same_number b.game x s on_x on (same ∙ sym number))) here
    | inr other ↦ get_or-set_other units to _ o None (apart x on_x other) ∙ c.done x on_x (omega (arith, less, other))
  ]

  placed : IsTurnedUpTo t b (set units to o) (n + 1)
  placed = record {
    long = length-set units to o ∙ c.long;
    done = done;
    past = λ k far. let other : k ≢ to = λ same. (let w = to_within in omega (arith, far, w, same)) in get_or-set_other units to k o None other ∙ c.past k far;
  }

  pub turned_more : (at : ℕ) → at ≡ square_number b.game (turned_place b.game t s) → IsTurnedUpTo t b (set units at o) (n + 1)
  turned_more at is = subst (λ k. IsTurnedUpTo t b (set units k o) (n + 1)) (sym is) placed

-- where no side is exchanged, a unit stays as it is
same_units : (t : Turning) (o : Option Man) → turned_units (turn_of t) o ≡ o
same_units t None = refl
same_units t (Some u) = refl

no_unit : (b : PlainBoard) → IsPosition b → (n : ℕ) → squares_of b.game ≤ n → unit_on b n ≡ None
no_unit b is n far = by_unit (unit_on b n) (is.squares n)
  where
    by_unit : (o : Option Man) → IfSome o (MayStandOn b.game n) → o ≡ None
    by_unit None h = refl
    by_unit (Some u) h = absurd (let on = h.on_board in omega (arith, far, on))

-- all squares
pub turned_whole : (t : Turning) (b : PlainBoard) (units : List (Option Man)) (n : ℕ) → IsPosition b → n ≡ squares_of b.game → IsTurnedUpTo (turn_of t) b units n → IsTurned (turn_of t) b (board_of b.game b.mover units)
turned_whole t b units n is all c = record {
  game = refl;
  mover = refl;
  places = is.places;
  turned_places = c.long;
  units = λ s on. c.done s on (subst (λ k. square_number b.game s < k) (sym all) (number_within b.game s on)) ∙ sym (same_units t (unit_at b s));
  past = λ k far. c.past k far ∙ sym (ap (turned_units (turn_of t)) (no_unit b is k far));
}
