-- How many moves there can be: at most 36 of each of at most 12 units.
use Rattle.std.proofs.Common.{◌≡◌, ℕ, ◌+◌, ◌-◌, ◌*◌, ◌<◌, ◌≤◌, min, refl, subst, arith, Option}
use Rattle.rules.proofs.Common.{Game, LosAlamos, Gardner, Side, White, Black, Kind, King, Queen, Rook, Bishop, Knight, Pawn, Man, width_of, squares_of, PlainBoard, Place, IsOnBoard, square_number, Reaches}
use Rattle.rules.proofs.Keeps.{IsRankAhead, pawn_ahead}

-- the rank that a pawn comes to
ahead_rank : Side → ℕ → ℕ
ahead_rank White r = r + 1
ahead_rank Black r = r - 1

ahead_rank_is : (side : Side) (r t : ℕ) → IsRankAhead side r t → t ≡ ahead_rank side r
unfolding ahead_rank
ahead_rank_is White r t h = h
ahead_rank_is Black r t h = omega arith

-- how many moves a unit has at most to squares numbered below n
share_of : Kind → ℕ → ℕ → ℕ → ℕ
share_of King w a n = n
share_of Queen w a n = n
share_of Rook w a n = n
share_of Bishop w a n = n
share_of Knight w a n = n
share_of Pawn w a n = 5 * min w (n - w * a)

pub share : Game → Man → Place → ℕ → ℕ
share g u from n = share_of u.kind (width_of g) (ahead_rank u.side from.rank) n

share_of-more : (k : Kind) (w a n : ℕ) → share_of k w a n ≤ share_of k w a (n + 1)
unfolding share_of
share_of-more King w a n = omega arith
share_of-more Queen w a n = omega arith
share_of-more Rook w a n = omega arith
share_of-more Bishop w a n = omega arith
share_of-more Knight w a n = omega arith
share_of-more Pawn w a n = omega arith

share_of-step : (k : Kind) (w a n f r old new : ℕ) → (k ≡ Pawn → r ≡ a) → f < w → f + w * r ≡ n → new ≤ old + 5 → ((k ≡ Pawn → ⊥) → new ≤ old + 1) → new + share_of k w a n ≤ old + share_of k w a (n + 1)
unfolding share_of
share_of-step King w a n f r old new p h e few one = let x : new ≤ old + 1 = one (λ e. cc) in omega arith
share_of-step Queen w a n f r old new p h e few one = let x : new ≤ old + 1 = one (λ e. cc) in omega arith
share_of-step Rook w a n f r old new p h e few one = let x : new ≤ old + 1 = one (λ e. cc) in omega arith
share_of-step Bishop w a n f r old new p h e few one = let x : new ≤ old + 1 = one (λ e. cc) in omega arith
share_of-step Knight w a n f r old new p h e few one = let x : new ≤ old + 1 = one (λ e. cc) in omega arith
share_of-step Pawn w a n f r old new p h e few one = let k : f + w * a ≡ n = subst (λ x. f + w * x ≡ n) (p refl) e in omega arith

share_of-most : (k : Kind) (w a n : ℕ) → w ≤ 6 → n ≤ 36 → share_of k w a n ≤ 36
unfolding share_of
share_of-most King w a n h l = l
share_of-most Queen w a n h l = l
share_of-most Rook w a n h l = l
share_of-most Bishop w a n h l = l
share_of-most Knight w a n h l = l
share_of-most Pawn w a n h l = omega arith

pub width_six : (g : Game) → width_of g ≤ 6
width_six LosAlamos = omega arith
width_six Gardner = omega arith

pub squares_36 : (g : Game) → squares_of g ≤ 36
squares_36 LosAlamos = omega arith
squares_36 Gardner = omega arith

module _ (g : Game) (u : Man) (from : Place) where
  pub share-more : (n : ℕ) → share g u from n ≤ share g u from (n + 1)
  unfolding share
  share-more n = share_of-more u.kind (width_of g) (ahead_rank u.side from.rank) n

  pub share-most : (n : ℕ) → n ≤ squares_of g → share g u from n ≤ 36
  unfolding share
  share-most n h = share_of-most u.kind (width_of g) (ahead_rank u.side from.rank) n (width_six g) (omega (arith, squares_36 g))

-- the turn at a square that the unit reaches
pub share-step : (b : PlainBoard) (u : Man) (from to : Place) (target : Option Man) (n old new : ℕ) → Reaches b u from to target → IsOnBoard b.game to → square_number b.game to ≡ n → new ≤ old + 5 → ((u.kind ≡ Pawn → ⊥) → new ≤ old + 1) → new + share b.game u from n ≤ old + share b.game u from (n + 1)
unfolding share
share-step b u from to target n old new r on e few one =
    share_of-step u.kind (width_of b.game) (ahead_rank u.side from.rank) n to.file to.rank old new
    (λ k. ahead_rank_is u.side from.rank to.rank (pawn_ahead b u from to target k r)) on.file e few one
