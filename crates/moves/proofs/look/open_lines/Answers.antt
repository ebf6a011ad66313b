use Rattle.moves.proofs.Common.{◌≡◌, ℕ, inl, inr, refl, subst, sym, Game, Side, Kind, King, Queen, Rook, Bishop, Knight, Pawn, Wazir, Ferz, Way, PlainBoard, place_in, IsCell, IsOnStraight, IsOnSlanted, IsOnRay, IsLeapt, Has-or, Aims, RidesBy}
use Rattle.moves.proofs.Riding.{rides-ray}
use Rattle.moves.proofs.Seeing.{Sees, IsLeaper, wazir_ways, ferz_ways, Sees-rook, Sees-bishop, Sees-queen, Sees-leaper}
use Rattle.moves.proofs.look.open_lines.Goals as goal

module _ (side : Side) (kind : Kind) (game : Game) (i : ℕ) (cell : IsCell game i) (b : PlainBoard) (j : ℕ) (same : b.game ≡ game) (to : IsCell game j) (aims : Aims b (record { side = side; kind = kind }) (place_in i) (place_in j)) where
  here : IsCell b.game i
  here = subst (λ g. IsCell g i) (sym same) cell

  sees : (q : Kind) → kind ≡ q → Sees b side i j q
  sees q is = (subst (λ g. IsCell g j) (sym same) to, subst (λ k. Aims b (record { side = side; kind = k }) (place_in i) (place_in j)) is aims)

  leapt : (q : Kind) → kind ≡ q → IsLeaper q → IsLeapt game side q i j
  leapt q is all = subst (λ g. IsLeapt g side q i j) same ((Sees-leaper b side i j here q all).1 (sees q is))

  on_straight : RidesBy b Wazir i j → IsOnStraight game i j
  on_straight r = subst (λ g. IsOnStraight g i j) same ((wazir_ways (λ (way : Way). IsOnRay b.game way i j)).1 (record { way = r.way; leap = r.leap; holds = rides-ray b r.way i j r.holds }))

  on_slanted : RidesBy b Ferz i j → IsOnSlanted game i j
  on_slanted r = subst (λ g. IsOnSlanted g i j) same ((ferz_ways (λ (way : Way). IsOnRay b.game way i j)).1 (record { way = r.way; leap = r.leap; holds = rides-ray b r.way i j r.holds }))

  straight : kind ≡ Rook → IsOnStraight game i j
  straight is = on_straight ((Sees-rook b side i j here).1 (sees Rook is))

  slanted : kind ≡ Bishop → IsOnSlanted game i j
  slanted is = on_slanted ((Sees-bishop b side i j here).1 (sees Bishop is))

pub returns-in-King : goal.returns-in-King
returns-in-King c = λ b j same to aims. (c.king_leaps.ensures c.args.side j).1 (leapt c.args.side c.args.kind c.args.game c.args.cell c.requires b j same to aims King c.in-King.is refl)

pub returns-in-Knight : goal.returns-in-Knight
returns-in-Knight c = λ b j same to aims. (c.knight_leaps.ensures c.args.side j).1 (leapt c.args.side c.args.kind c.args.game c.args.cell c.requires b j same to aims Knight c.in-Knight.is refl)

pub returns-in-Pawn : goal.returns-in-Pawn
returns-in-Pawn c = λ b j same to aims. (c.pawn_captures.ensures j).1 (leapt c.args.side c.args.kind c.args.game c.args.cell c.requires b j same to aims Pawn c.in-Pawn.is refl)

pub returns-in-Queen : goal.returns-in-Queen
returns-in-Queen c = λ b j same to aims.
    let sees = (Sees-queen b c.args.side c.args.cell j (here c.args.side c.args.kind c.args.game c.args.cell c.requires b j same to aims)).1 (sees c.args.side c.args.kind c.args.game c.args.cell c.requires b j same to aims Queen c.in-Queen.is) in
    (Has-or c.straight_lines.result c.slanted_lines.result j).1 (elim sees [
      | inl r ↦ inl ((c.straight_lines.ensures j).1 (on_straight c.args.side c.args.kind c.args.game c.args.cell c.requires b j same to aims r))
      | inr r ↦ inr ((c.slanted_lines.ensures j).1 (on_slanted c.args.side c.args.kind c.args.game c.args.cell c.requires b j same to aims r))
    ])

pub returns-in-Rook : goal.returns-in-Rook
returns-in-Rook c = λ b j same to aims. (c.straight_lines-in-Rook.ensures j).1 (straight c.args.side c.args.kind c.args.game c.args.cell c.requires b j same to aims c.in-Rook.is)

pub returns-in-Bishop : goal.returns-in-Bishop
returns-in-Bishop c = λ b j same to aims. (c.slanted_lines-in-Bishop.ensures j).1 (slanted c.args.side c.args.kind c.args.game c.args.cell c.requires b j same to aims c.in-Bishop.is)
