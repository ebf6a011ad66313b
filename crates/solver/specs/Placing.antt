-- How far a search is told to be.
use Rattle.std.specs.Prelude.{ℕ, ◌+◌, ◌≤◌, ◌/◌, ◌%◌, min}
use Rattle.solver.specs.declared.listening.Place.{Place}

-- a place that a search can be at: of at most 512 moves some are tried, and nothing is forced within at most 63 plies
pub record IsPlace (place : Place) : Type 0 where
  pub plies : place.none_within ≤ 63
  pub moves : place.moves ≤ 512
  pub tried : place.tried ≤ place.moves

-- nothing is forced within so many plies, and so many are tried of so many moves
abbrev pub place : ℕ → ℕ → ℕ → Place
place none_within tried moves = record { none_within = none_within; tried = tried; moves = moves }

-- the place that a word stands for: its lowest 16 bits are the moves tried, the next 16 the moves, and those above the plies
abbrev pub word_place : ℕ → Place
word_place word = place (word / 65536 / 65536) (word % 65536) (word / 65536 % 65536)

-- the place at which a round begins
abbrev pub place_begun : ℕ → ℕ → Place
place_begun none_within moves = place (min none_within 63) 0 (min moves 512)

-- the place where a move more is tried, up to all
abbrev pub stepped : Place → Place
stepped p = place p.none_within (min (p.tried + 1) p.moves) p.moves
