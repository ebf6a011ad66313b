-- The outlines that a picture is made of: units in a square of 100 by 100, signs in one of 30.
use Rattle.std.specs.Prelude.{ℕ, zero, suc, List, codes}
use Rattle.board.specs.declared.game.Kind.{Kind}
use Rattle.board.specs.declared.game.Kind.TheVariants.{King, Queen, Rook, Bishop, Knight, Pawn}

-- the outline of a unit, but for what it stands on
abbrev pub outline : Kind → List ℕ
outline King = codes "M46 8h8v7h8v8h-8v9q6 1 8 7 20-9 23 8 1 12-14 28H29Q14 59 15 47q3-17 23-8 2-6 8-7v-9h-8v-8h8z"
outline Queen = codes "M18 28a6 6 0 1 1 5 0l13 18-1-24a6 6 0 1 1 6 0l9 22 9-22a6 6 0 1 1 6 0l-1 24 13-18a6 6 0 1 1 5 0l-10 47H28z"
outline Rook = codes "M27 18h11v8h7v-8h10v8h7v-8h11v20l-8 7 3 26H32l3-26-8-7z"
outline Bishop = codes "M50 10a6 6 0 0 1 4 10q17 11 17 27 0 8-7 14l3 14H33l3-14q-7-6-7-14 0-16 17-27a6 6 0 0 1 4-10z"
outline Knight = codes "M38 15l8 7q26 3 29 34 1 10-3 19H33q0-14 12-24-8 3-13 9-5 4-10 0-4-4 0-10 10-12 11-22 1-8 5-13z"
outline Pawn = codes "M50 20a13 13 0 0 1 8 23q8 3 8 7H57q1 14 11 25H32q10-11 11-25H34q0-4 8-7a13 13 0 0 1 8-23z"

-- what is drawn inside
abbrev pub detail : Kind → List ℕ
detail King = codes "M50 34v32M31 66h38"
detail Queen = codes "M30 66h40"
detail Rook = codes "M36 45h28M33 70h34"
detail Bishop = codes "M50 30v16M42 38h16M36 62h28"
detail Knight = codes "M44 34v.01M36 68q2-10 14-20"
detail Pawn = codes "M38 70h24"

-- the sign of a file: a to f
abbrev pub file_sign : ℕ → List ℕ
file_sign zero = codes "M21 11v17M21 20q0 8-6 8t-6-8 6-8 6 8"
file_sign (suc zero) = codes "M9 2v26M9 20q0-8 6-8t6 8-6 8-6-8"
file_sign (suc (suc zero)) = codes "M21 15q-2-3-6-3-7 0-7 8t7 8q4 0 6-3"
file_sign (suc (suc (suc zero))) = codes "M21 2v26M21 20q0-8-6-8t-6 8 6 8 6-8"
file_sign (suc (suc (suc (suc zero)))) = codes "M8 20h14q0-8-7-8t-7 8 7 8q4 0 6-3"
file_sign (suc (suc (suc (suc (suc file))))) = codes "M20 3q-7-3-7 5v20M8 13h10"

-- the sign of a rank: 1 to 6
abbrev pub rank_sign : ℕ → List ℕ
rank_sign zero = codes "M9 8l7-6v26"
rank_sign (suc zero) = codes "M8 8q0-6 7-6t7 6q0 6-14 20h14"
rank_sign (suc (suc zero)) = codes "M9 3h12l-7 10q8 0 8 7 0 8-7 8-6 0-7-5"
rank_sign (suc (suc (suc zero))) = codes "M18 28V2L8 19h14"
rank_sign (suc (suc (suc (suc zero)))) = codes "M21 3H10L9 13q3-2 6-2 7 0 7 8 0 9-7 9-6 0-7-5"
rank_sign (suc (suc (suc (suc (suc rank))))) = codes "M20 3Q9 8 9 19q0 9 6 9 7 0 7-8 0-7-7-7-5 0-6 6"
