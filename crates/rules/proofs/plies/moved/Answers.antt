use Rattle.std.proofs.Common.{◌≡◌, ap}
use Rattle.rules.specs.Squares.{Ply}
use Rattle.rules.proofs.Keeps.{to_on_board, made_from, IsPosition-after}
use Rattle.rules.proofs.plies.moved.Goals as goal

pub number-requires-2 : goal.number-requires-2
number-requires-2 c =
    let to : c.m.inside.to ≡ c.args.m.to = ap (λ (x : Ply). x.to) c.m.view_is in
    rw (c.game-game.ensures.value, to) (to_on_board c.args.position.now c.args.m c.args.unit c.requires)

pub unwrap-requires : goal.unwrap-requires
unwrap-requires c =
    let from : c.m.inside.from ≡ c.args.m.from = ap (λ (x : Ply). x.from) c.m.view_is in
    let to : c.m.inside.to ≡ c.args.m.to = ap (λ (x : Ply). x.to) c.m.view_is in
    let promotion : c.m.inside.promotion ≡ c.args.m.promotion = ap (λ (x : Ply). x.promotion) c.m.view_is in
    let is_position = IsPosition-after c.args.position.now c.args.m c.args.unit c.game-game.ensures.position c.requires in
    made_from c.of.result _ c.of.ensures.refused
    (rw (c.other.ensures, c.mover.ensures, c.units-units.ensures, c.number.ensures.value, c.number-2.ensures.value, c.unwrap_or.ensures, c.game-game.ensures.value, from, to, promotion) is_position)
