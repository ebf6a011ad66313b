use Rattle.moves.proofs.Common.{◌≡◌, ℕ, ◌↔◌, refl, inl, inr, sym, subst, Game, Side, Kind, King, Queen, Rook, Bishop, Knight, Pawn, PlainBoard, IsCell, Has, IsLeapt, Has-or, via}
use Rattle.moves.proofs.Seeing.{Sees, IsLeaper, Sees-rook, Sees-bishop, Sees-queen, Sees-leaper}
use Rattle.moves.proofs.seen.seen.Goals as goal

module _ (b : PlainBoard) (side : Side) (i set : ℕ) (kind q : Kind) (is : kind ≡ q) where
  as_seen : ((j : ℕ) → Has set j ↔ Sees b side i j q) → (j : ℕ) → Has set j ↔ Sees b side i j kind
  as_seen are = subst (λ k. (j : ℕ) → Has set j ↔ Sees b side i j k) (sym is) are

  leapt : (g : Game) → IsLeaper q → IsCell b.game i → g ≡ b.game → ((j : ℕ) → Has set j ↔ IsLeapt g side q i j) → (j : ℕ) → Has set j ↔ Sees b side i j kind
  leapt g all cell same are = as_seen (λ j. via (subst (λ x. Has set j ↔ IsLeapt x side q i j) same (are j)) (Sees-leaper b side i j cell q all))

pub returns-in-King : goal.returns-in-King
returns-in-King c = leapt c.args.board.now c.args.side c.args.cell c.king_leaps.result c.args.kind King c.in-King.is c.game.result refl c.requires c.game.ensures.value (c.king_leaps.ensures c.args.side)

pub returns-in-Queen : goal.returns-in-Queen
returns-in-Queen c = as_seen c.args.board.now c.args.side c.args.cell _ c.args.kind Queen c.in-Queen.is (λ j. via (Has-or c.straight.result c.slanted.result j) (via (
  λ h. elim h [ inl x ↦ inl ((c.straight.ensures j).0 x) | inr x ↦ inr ((c.slanted.ensures j).0 x) ],
  λ w. elim w [ inl x ↦ inl ((c.straight.ensures j).1 x) | inr x ↦ inr ((c.slanted.ensures j).1 x) ],
) (Sees-queen c.args.board.now c.args.side c.args.cell j c.requires)))

pub returns-in-Rook : goal.returns-in-Rook
returns-in-Rook c = as_seen c.args.board.now c.args.side c.args.cell _ c.args.kind Rook c.in-Rook.is (λ j. via (c.straight-in-Rook.ensures j) (Sees-rook c.args.board.now c.args.side c.args.cell j c.requires))

pub returns-in-Bishop : goal.returns-in-Bishop
returns-in-Bishop c = as_seen c.args.board.now c.args.side c.args.cell _ c.args.kind Bishop c.in-Bishop.is (λ j. via (c.slanted-in-Bishop.ensures j) (Sees-bishop c.args.board.now c.args.side c.args.cell j c.requires))

pub returns-in-Knight : goal.returns-in-Knight
returns-in-Knight c = leapt c.args.board.now c.args.side c.args.cell c.knight_leaps.result c.args.kind Knight c.in-Knight.is c.game-in-Knight.result refl c.requires c.game-in-Knight.ensures.value (c.knight_leaps.ensures c.args.side)

pub returns-in-Pawn : goal.returns-in-Pawn
returns-in-Pawn c = leapt c.args.board.now c.args.side c.args.cell c.pawn_captures.result c.args.kind Pawn c.in-Pawn.is c.game-in-Pawn.result refl c.requires c.game-in-Pawn.ensures.value c.pawn_captures.ensures
