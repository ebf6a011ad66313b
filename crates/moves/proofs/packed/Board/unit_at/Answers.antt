use Rattle.moves.proofs.Common.{◌≡◌, sym, ap, ◌∙◌, PlainBoard, unit_on, square_number, code_on, man_of, game_of, number_within}
use Rattle.moves.proofs.Packing.{units_in-at, within_36}
use Rattle.moves.proofs.packed.Board.unit_at.Goals as goal

pub returns : goal.returns
returns c =
    let b = c.args.self.now in
    let words = c.self.inside.words in
    let same : game_of words ≡ b.game = ap (λ (x : PlainBoard). x.game) c.self.view_is in
    let n = square_number b.game c.args.square in
    c.unit_of.ensures
    ∙ ap man_of (c.code_on.ensures.value ∙ ap (λ g. code_on g words (square_number g c.args.square)) c.game.ensures.value ∙ ap (λ g. code_on g words n) (sym same))
    ∙ sym (units_in-at _ words n (within_36 _ _ (number_within b.game c.args.square c.requires)))
    ∙ ap (λ (x : PlainBoard). unit_on x n) c.self.view_is
