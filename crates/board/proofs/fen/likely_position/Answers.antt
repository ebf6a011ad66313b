use Rattle.std.proofs.Common.{◌≡◌, ◌-◌, ◌++◌, List, drop, Option, None, length, replicate, ap, ◌∙◌, arith}
use Rattle.board.proofs.Common.{Man, board_of, width_of}
use Rattle.std.proofs.lemmas.List.{drop-replicate}
use Rattle.board.proofs.FenParts.{says, few_squares, game_is, side_is, same_board, made_is}
use Rattle.board.proofs.fen.likely_position.Goals as goal
use Rattle.board.proofs.fen.likely_position.Goals.{then-len-eq36, else-len-eq36, then-mover-eq119, else-mover-eq119}

pub returns-in_err-units : goal.returns-in_err-units
returns-in_err-units c = λ b position fen.
    let s = says c.args.text.now b fen in
    absurd (c.in_err-units.ensures (width_of b.game) (width_of b.game) b.mover s.squares (omega (arith, s.long, few_squares b.game)) s.ranks)

pub returns : goal.returns
returns c = λ b position fen.
    let s = says c.args.text.now b fen in
    let squares = c.in_ok-units.ensures (width_of b.game) (width_of b.game) b.mover s.squares (omega (arith, s.long, few_squares b.game)) s.ranks in
    let units : c.as_slice.result.now ≡ s.squares = c.as_slice.ensures.value ∙ squares in
    let long = c.len.ensures.value ∙ ap (length {A = Option Man}) squares ∙ s.long in
    let game : c.if-len-eq36.game ≡ b.game = elim c.if-len-eq36.branch [
      | then-len-eq36 w ↦ w.game-is ∙ (game_is b.game c.len.result long).0 w.if-len-eq36.true
      | else-len-eq36 w ↦ w.game-is ∙ (game_is b.game c.len.result long).1 w.if-len-eq36.false
    ] in
    let mover : c.if-mover-eq119.mover ≡ b.mover = elim c.if-mover-eq119.branch [
      | then-mover-eq119 w ↦ w.mover-is ∙ (side_is b.mover _ s.side).0 w.if-mover-eq119.true
      | else-mover-eq119 w ↦ w.mover-is ∙ (side_is b.mover _ s.side).1 w.if-mover-eq119.false
    ] in
    let places = c.copy_from_slice.new.self ++ drop c.len-2.result (replicate 36 None) in
    let padded : places ≡ b.units =
    ap (λ (us : List (Option Man)). us ++ drop c.len-2.result (replicate 36 None)) (c.copy_from_slice.ensures.after ∙ units)
    ∙ ap (λ (us : List (Option Man)). s.squares ++ us) (drop-replicate c.len-2.result 36 None ∙ ap (λ n. replicate (36 - n) None) (c.len-2.ensures.value ∙ ap (length {A = Option Man}) squares))
    ∙ s.units in
    made_is c.of.result (board_of c.if-len-eq36.game c.if-mover-eq119.mover places) b c.of.ensures.refused c.of.ensures.made (same_board _ b game mover padded) position
