use Rattle.std.proofs.Common.{◌≡◌, List, Option, sym, ap, subst, ◌∙◌}
use Rattle.solutions.proofs.Common.{Game, other_side, PlainBoard, board_of, IsPosition, passed}
use Rattle.board.specs.declared.game.Unit.{Unit as Man}
use Rattle.rules.specs.Reach.{IsSound}
use Rattle.solutions.proofs.passing.passed.Goals as goal

pub unreachable-requires : goal.unreachable-requires
unreachable-requires c =
    let p = c.game.ensures.position in
    c.in_default.ensures.refused (subst (λ (parts : Game × List (Option Man)). IsPosition (board_of parts.0 c.other.result parts.1))
    (λ i. (sym c.game.ensures.value i, sym c.units.ensures i)) (record { places = p.places; squares = p.squares; armies = p.armies }))

pub returns-then-sound : goal.returns-then-sound
returns-then-sound c =
    let here = c.position-position.ensures in
    let game = c.game.ensures.value ∙ ap (λ (b : PlainBoard). b.game) here in
    let mover = c.other.ensures ∙ ap other_side (c.mover.ensures ∙ ap (λ (b : PlainBoard). b.mover) here) in
    let units = c.units.ensures ∙ ap (λ (b : PlainBoard). b.units) here in
    let next : c.in-Some.next ≡ passed c.args.board.now = c.in-Some.ensures.made ∙ (λ i. board_of (game i) (mover i) (units i)) in
    (c.of-then-sound.ensures ∙ next, subst IsSound next (c.sound.ensures.0 c.if-sound.true))
