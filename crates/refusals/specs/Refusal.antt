-- The words that stand after `refused: `.
use Rattle.std.specs.Prelude.{ℕ, List, ◌++◌, codes}
use Rattle.std.specs.Fmt.{decimal}
use Rattle.board.specs.declared.fault.FenFault.{FenFault}
use Rattle.board.specs.declared.fault.FenFault.TheVariants as fen
use Rattle.wintree.specs.declared.fault.TreeFault.{TreeFault}
use Rattle.wintree.specs.declared.fault.TreeFault.TheVariants as tree
use Rattle.refusals.specs.declared.refusal.Refusal.{Refusal}
use Rattle.refusals.specs.declared.refusal.Refusal.TheVariants.{Fields, Shape, Letter, Run, Side, Kings, Units, PawnRank, OtherInCheck, Move, Limit, Workers, Slots, TooLong, Grammar, Deep, Answer, Claim, NoMemory}

-- the name that is printed
abbrev pub refusal_text : Refusal → List ℕ
refusal_text Fields = codes "Fields"
refusal_text Shape = codes "Shape"
refusal_text Letter = codes "Letter"
refusal_text Run = codes "Run"
refusal_text Side = codes "Side"
refusal_text Kings = codes "Kings"
refusal_text Units = codes "Units"
refusal_text PawnRank = codes "PawnRank"
refusal_text OtherInCheck = codes "OtherInCheck"
refusal_text Move = codes "Move"
refusal_text Limit = codes "Limit"
refusal_text Workers = codes "Workers"
refusal_text Slots = codes "Slots"
refusal_text TooLong = codes "TooLong"
refusal_text (Grammar offset) = codes "Grammar at offset " ++ decimal offset
refusal_text Deep = codes "Deep"
refusal_text Answer = codes "Answer"
refusal_text (Claim line) = codes "Claim at line " ++ decimal line
refusal_text NoMemory = codes "NoMemory"

-- the status of a run that ends with it
abbrev pub refusal_status : Refusal → ℕ
refusal_status NoMemory = 3
refusal_status _ = 1

-- the refusal of each fault of a position's text
abbrev pub refusal_of_fen : FenFault → Refusal
refusal_of_fen fen.Fields = Fields
refusal_of_fen fen.Shape = Shape
refusal_of_fen fen.Letter = Letter
refusal_of_fen fen.Run = Run
refusal_of_fen fen.Side = Side
refusal_of_fen fen.Kings = Kings
refusal_of_fen fen.Units = Units
refusal_of_fen fen.PawnRank = PawnRank
refusal_of_fen fen.OtherInCheck = OtherInCheck

-- the refusal of each fault of a tree's text
abbrev pub refusal_of_tree : TreeFault → Refusal
refusal_of_tree (tree.Grammar offset) = Grammar offset
refusal_of_tree tree.Deep = Deep
refusal_of_tree tree.NoMemory = NoMemory
