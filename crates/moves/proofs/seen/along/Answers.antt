use Rattle.moves.proofs.Common.{◌≡◌, ◌⊎◌, true, false, inl, inr, ap, Way, North, South, East, West, NorthEast, NorthWest, SouthEast, SouthWest, rises}
use Rattle.moves.proofs.Riding.{ray-of, cut-up, cut-down}
use Rattle.moves.proofs.seen.along.Goals as goal

up : (way : Way) → (way ≡ North) ⊎ ((way ≡ East) ⊎ ((way ≡ NorthEast) ⊎ (way ≡ NorthWest))) → rises way ≡ true
up way w = elim w [ inl e ↦ ap rises e | inr (inl e) ↦ ap rises e | inr (inr (inl e)) ↦ ap rises e | inr (inr (inr e)) ↦ ap rises e ]

down : (way : Way) → (way ≡ South) ⊎ ((way ≡ West) ⊎ ((way ≡ SouthEast) ⊎ (way ≡ SouthWest))) → rises way ≡ false
down way w = elim w [ inl e ↦ ap rises e | inr (inl e) ↦ ap rises e | inr (inr (inl e)) ↦ ap rises e | inr (inr (inr e)) ↦ ap rises e ]

pub returns-in-North : goal.returns-in-North
returns-in-North c =
    let b = c.args.board.now in
    let on = ray-of b c.args.way c.args.cell c.ray-line.result c.game.result c.game.ensures.value c.ray-line.ensures in
    cut-up b c.args.way c.args.cell c.ray-line.result c.taken.result _ on c.taken.ensures (up c.args.way c.in-North.is) c.up_to_lowest.ensures

pub returns-in-South : goal.returns-in-South
returns-in-South c =
    let b = c.args.board.now in
    let on = ray-of b c.args.way c.args.cell c.ray-line.result c.game.result c.game.ensures.value c.ray-line.ensures in
    cut-down b c.args.way c.args.cell c.ray-line.result c.taken.result _ on c.taken.ensures (down c.args.way c.in-South.is) c.down_to_highest.ensures
