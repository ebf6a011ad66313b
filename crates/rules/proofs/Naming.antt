-- The names of moves.
use Rattle.std.proofs.Common.{◌≡◌, ℕ, ◌+◌, List, [], ◌∷◌, refl, sym, ap, ◌∙◌, arith, cond, eqb, Option, Some, None, IfSome}
use Rattle.rules.proofs.Common.{Game, LosAlamos, Gardner, Kind, King, Queen, Rook, Bishop, Knight, Pawn, PlainBoard, Place, Ply, IsOnBoard, IsPromotion, IsPromoted, IsPly, IsLawful}
use Rattle.rules.specs.MoveText.{promotion_text, move_text}
use Rattle.rules.proofs.Rides.{same_place}
use Rattle.rules.proofs.Keeps.{to_on_board}

-- ---- a name is of one move

-- what the letter says
kind_named : List ℕ → Option Kind
kind_named [] = None
kind_named (b ∷ rest) =
    cond (eqb b 113) (Some Queen) (cond (eqb b 114) (Some Rook) (cond (eqb b 98) (Some Bishop) (cond (eqb b 110) (Some Knight) None)))

kind_named-text : (p : Option Kind) → IfSome p IsPromoted → kind_named (promotion_text p) ≡ p
unfolding kind_named
kind_named-text None promotes = refl
kind_named-text (Some King) promotes = absurd promotes
kind_named-text (Some Queen) promotes = refl
kind_named-text (Some Rook) promotes = refl
kind_named-text (Some Bishop) promotes = refl
kind_named-text (Some Knight) promotes = refl
kind_named-text (Some Pawn) promotes = absurd promotes

one_promotion : (p q : Option Kind) → IfSome p IsPromoted → IfSome q IsPromoted → promotion_text p ≡ promotion_text q → p ≡ q
one_promotion p q promotes also e = sym (kind_named-text p promotes) ∙ ap kind_named e ∙ kind_named-text q also

plus_cancel : (k a b : ℕ) → k + a ≡ k + b → a ≡ b
plus_cancel k a b e = omega arith

same_move : (m n : Ply) → m.from ≡ n.from → m.to ≡ n.to → m.promotion ≡ n.promotion → m ≡ n
same_move m n from to promotion = λ i. record { from = from i; to = to i; promotion = promotion i }

pub one_name : (m n : Ply) → IsPly m → IsPly n → move_text m ≡ move_text n → m ≡ n
one_name m n ply also e =
    let from_file : 97 + m.from.file ≡ 97 + n.from.file = cc in
    let from_rank : 49 + m.from.rank ≡ 49 + n.from.rank = cc in
    let to_file : 97 + m.to.file ≡ 97 + n.to.file = cc in
    let to_rank : 49 + m.to.rank ≡ 49 + n.to.rank = cc in
    let letter : promotion_text m.promotion ≡ promotion_text n.promotion = cc in
    same_move m n (same_place m.from n.from (plus_cancel 97 _ _ from_file) (plus_cancel 49 _ _ from_rank)) (same_place m.to n.to (plus_cancel 97 _ _ to_file) (plus_cancel 49 _ _ to_rank))
    (one_promotion m.promotion n.promotion ply.promotion also.promotion letter)

-- ---- a lawful move has a name

on_larger : (g : Game) (s : Place) → IsOnBoard g s → IsOnBoard LosAlamos s
on_larger LosAlamos s on = on
on_larger Gardner s on = record { file = omega (arith, on.file); rank = omega (arith, on.rank) }

promoted : (g : Game) (o : Option Kind) → IfSome o (IsPromotion g) → IfSome o IsPromoted
promoted g None h = tt
promoted Gardner (Some k) h = h
promoted LosAlamos (Some King) h = absurd h
promoted LosAlamos (Some Queen) h = tt
promoted LosAlamos (Some Rook) h = tt
promoted LosAlamos (Some Bishop) h = absurd h
promoted LosAlamos (Some Knight) h = tt
promoted LosAlamos (Some Pawn) h = absurd h

pub ply_of_lawful : (b : PlainBoard) (m : Ply) → IsLawful b m → IsPly m
ply_of_lawful b m (q, move) = record {
  from = on_larger b.game m.from move.pseudo.on_board;
  to = on_larger b.game m.to (to_on_board b m move.unit move.pseudo);
  promotion = promoted b.game m.promotion move.pseudo.allowed;
}
