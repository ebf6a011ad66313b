use Rattle.std.proofs.Common.{◌≡◌, ℕ, ◌+◌, ◌*◌, ◌<◌, ◌≤◌, ap, subst, ◌∙◌, arith, true, false, Bool, cond, None, Option, take}
use Rattle.rules.proofs.Common.{count_by, count_by_more_yes, count_by_more_no, sum_by-take-le, Game, LosAlamos, Gardner, Man, squares_of, most_units, PlainBoard, unit_on, is_of_side, IsPosition, square_number, ListsBelow}
use Rattle.rules.proofs.Lists.{ListsBelow-not_own, ListsLawful-from}
use Rattle.rules.proofs.Room.{squares_36}
use Rattle.rules.proofs.list.lawful.Goals as goal
use Rattle.rules.proofs.list.lawful.Goals.{in-Some, in_default}

-- the loop's end is the game's number of squares
end_is : (e : ℕ) (g h : Game) → e ≡ squares_of g → g ≡ h → e ≡ squares_of h
end_is e g h p q = p ∙ ap squares_of q

most_12 : (g : Game) → most_units g ≤ 12
most_12 LosAlamos = omega arith
most_12 Gardner = omega arith

-- one more of the mover's units is counted
module _ (b : PlainBoard) (position : IsPosition b) (n : ℕ) (within : n < 36) where
  abbrev own : Option Man → Bool
  own = is_of_side b.mover

  one_more : own (unit_on b n) ≡ true → count_by own (take (n + 1) b.units) ≡ count_by own (take n b.units) + 1
  one_more h = count_by_more_yes own b.units n None (rw position.places within) h

  no_more : own (unit_on b n) ≡ false → count_by own (take (n + 1) b.units) ≡ count_by own (take n b.units)
  no_more h = count_by_more_no own b.units n None (rw position.places within) h

  at_most : count_by own (take (n + 1) b.units) ≤ 12
  at_most =
      let part : count_by own (take (n + 1) b.units) ≤ count_by own b.units = sum_by-take-le (λ x. cond (own x) 1 0) b.units (n + 1) in
      omega (arith, (position.armies b.mover).room, most_12 b.game)

pub push_from-requires-clause-room : goal.push_from-requires-clause-room
push_from-requires-clause-room c =
    let b = c.args.position.now in
    let n = c.loop-number.number in
    let end = end_is c.squares-number-end.result _ b.game c.squares-number-end.ensures c.game-game.ensures.value in
    let within : n < 36 = omega (arith, squares_36 b.game) in
    omega (arith, c.loop-number.invariant.few, one_more b c.game-game.ensures.position n within c.in-Some.ensures.1, at_most b c.game-game.ensures.position n within)

pub loop-number-preserved : goal.loop-number-preserved
loop-number-preserved c =
    let b = c.args.position.now in
    let n = c.loop-number.number in
    let end = end_is c.squares-number-end.result _ b.game c.squares-number-end.ensures c.game-game.ensures.value in
    let within : n < 36 = omega (arith, squares_36 b.game) in
    elim c.match-own_unit.branch [
      | in-Some w ↦
          let at : square_number b.game w.of_number.result ≡ n = rw c.game-game.ensures.value at w.of_number.ensures.number in
          record {
            lists = rw w.moves-is (subst (λ k. ListsBelow b ((k + 1) * 36 * 5) w.push_from.new.moves.items) at w.push_from.ensures.after);
            few = rw w.moves-is (omega (arith, w.push_from.ensures.few, c.loop-number.invariant.few, one_more b c.game-game.ensures.position n within w.in-Some.ensures.1));
          }
      | in_default w ↦ record {
        lists = rw w.moves-is (ListsBelow-not_own b n c.loop-number.moves.items w.in_default.ensures c.loop-number.invariant.lists);
        few = rw w.moves-is (omega (arith, c.loop-number.invariant.few, no_more b c.game-game.ensures.position n within w.in_default.ensures));
      }
    ]

pub returns : goal.returns
returns c =
    let b = c.args.position.now in
    let end = end_is c.squares-number-end.result _ b.game c.squares-number-end.ensures c.game-game.ensures.value in
    ListsLawful-from b c.loop-number.number c.loop-number.moves.items (omega arith) c.loop-number.invariant.lists
