use Rattle.std.proofs.Common.{◌≡◌, ℕ, ◌+◌, ◌*◌, sym, ap, subst, ◌∙◌, arith}
use Rattle.rules.proofs.Common.{false≢true, array_vec_len, Game, squares_of, unit_on, IsOnBoard, square_number, unit_at, Reaches, ListsBelow}
use Rattle.rules.proofs.Lists.{ListsBelow-unreached, ListsBelow-all_to}
use Rattle.rules.proofs.Room.{share-more, share-most, share-step, squares_36}
use Rattle.rules.proofs.list.push_from.Goals as goal
use Rattle.rules.proofs.list.push_from.Goals.{then-reaches, else-reaches}

-- the loop's end is the game's number of squares
end_is : (e : ℕ) (g h : Game) → e ≡ squares_of g → g ≡ h → e ≡ squares_of h
end_is e g h p q = p ∙ ap squares_of q

pub push_between-requires-clause-room : goal.push_between-requires-clause-room
push_between-requires-clause-room c =
    let g = c.args.position.now.game in
    let end = end_is c.squares-number-end.result _ g c.squares-number-end.ensures c.game-game.ensures.value in
    let most = share-most g c.args.unit c.args.from c.loop-number.number (omega arith) in
    omega (arith, c.loop-number.invariant.few)

pub loop-number-preserved : goal.loop-number-preserved
loop-number-preserved c =
    let b = c.args.position.now in
    let n = c.loop-number.number in
    let to = c.of_number-to.result in
    let on_to : IsOnBoard b.game to = rw c.game-game.ensures.value at c.of_number-to.ensures.on_board in
    let at : square_number b.game to ≡ n = rw c.game-game.ensures.value at c.of_number-to.ensures.number in
    let target : c.unit.result ≡ unit_at b to = c.unit.ensures ∙ ap (unit_on b) (sym at) in
    elim c.if-reaches.branch [
      | then-reaches w ↦ record {
        lists =
            let next : (square_number b.game c.args.from * 36 + square_number b.game to + 1) * 5 ≡ (square_number b.game c.args.from * 36 + (n + 1)) * 5 = omega (arith, at) in
            rw w.moves-is (subst (λ k. ListsBelow b k w.push_between.new.moves.items) next w.push_between.ensures.after);
        few =
            let step = share-step b c.args.unit c.args.from to c.unit.result n (array_vec_len c.loop-number.moves) (array_vec_len c.if-reaches.moves) (c.reaches.ensures.0 w.if-reaches.true) on_to at (rw w.moves-is w.push_between.ensures.few) (rw w.moves-is (w.push_between.ensures.one c.args.unit c.requires.stands)) in
            omega (arith, step, c.loop-number.invariant.few);
      }
      | else-reaches w ↦ record {
        lists = rw w.moves-is (ListsBelow-unreached b n c.loop-number.moves.items c.args.unit c.args.from to c.requires.on_board on_to at c.requires.stands
            (λ r. false≢true (sym w.if-reaches.false ∙ c.reaches.ensures.1 (subst (Reaches b c.args.unit c.args.from to) (sym target) r))) c.loop-number.invariant.lists);
        few = rw w.moves-is (omega (arith, c.loop-number.invariant.few, share-more b.game c.args.unit c.args.from n));
      }
    ]

pub returns-clause-after : goal.returns-clause-after
returns-clause-after c =
    let g = c.args.position.now.game in
    let end = end_is c.squares-number-end.result _ g c.squares-number-end.ensures c.game-game.ensures.value in
    ListsBelow-all_to c.args.position.now _ c.loop-number.number _ (omega arith) (omega (arith, squares_36 g)) c.loop-number.invariant.lists

pub returns-clause-few : goal.returns-clause-few
returns-clause-few c =
    let g = c.args.position.now.game in
    let end = end_is c.squares-number-end.result _ g c.squares-number-end.ensures c.game-game.ensures.value in
    let most = share-most g c.args.unit c.args.from c.loop-number.number (omega arith) in
    omega (arith, c.loop-number.invariant.few)
