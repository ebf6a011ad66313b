use Rattle.std.proofs.Common.{◌≡◌, ◌≤◌, take, drop, length, []}
use Rattle.board.proofs.FenParts.{squares_from}
use Rattle.board.proofs.fen.squares_of.Given as goal

-- the bytes that are left give the squares that all give
abbrev pub invariant-loop-c : goal.invariant-loop-c
invariant-loop-c l = (l.file ≤ length l.units.items) × (squares_from (take l.file l.units.items) (drop l.file l.units.items) (drop l.c-index l.board) ≡ squares_from [] [] l.board)
