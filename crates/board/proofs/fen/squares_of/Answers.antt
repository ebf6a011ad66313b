use Rattle.std.proofs.Common.{Option, length, take, drop, get_or, ap, sym, ◌∙◌, arith}
use Rattle.board.proofs.Common.{Man}
use Rattle.std.proofs.lemmas.List.{drop_all, take-append-drop}
use Rattle.board.proofs.FenParts.{squares_from, places_is, room, rank_turn, cut_turn, listed}
use Rattle.board.proofs.fen.squares_of.Goals as goal
use Rattle.board.proofs.fen.squares_of.Goals.{then-c-eq47, else-c-eq47+else-len-times-gt36}

pub returns-then-len-times-gt36 : goal.returns-then-len-times-gt36
returns-then-len-times-gt36 c = λ w n side units fits text.
    let i = c.loop-c.invariant in
    let p = c.places_of-place in
    let is = places_is (get_or c.args.board.now c.loop-c.c-index 0) p.result.1 p.result.0 p.ensures in
    let more = room c.args.board.now c.loop-c.c-index c.loop-c.file c.loop-c.units.items c.loop-c-test.true i.1 p.result.1 p.result.0 i.0 c.if-c-eq47.false is in
    omega (arith, fits, more, ap (length {A = Option Man}) (listed c.args.board.now w n side units text), c.len.ensures.value, c.if-len-times-gt36.true)

pub loop-c-preserved : goal.loop-c-preserved
loop-c-preserved c =
    let i = c.loop-c.invariant in
    elim c.if-c-eq47.branch [
      | then-c-eq47 w ↦ rw (w.file-is, w.units-is) (omega arith, cut_turn c.args.board.now c.loop-c.c-index c.loop-c.file c.loop-c.units.items c.loop-c-test.true i.1 w.if-c-eq47.true)
      | else-c-eq47+else-len-times-gt36 w ↦
          let p = w.places_of-place in
          let is = places_is (get_or c.args.board.now c.loop-c.c-index 0) p.result.1 p.result.0 p.ensures in
          rw (w.file-is, w.units-is) (rank_turn c.args.board.now c.loop-c.c-index c.loop-c.file c.loop-c.units.items c.loop-c-test.true i.1 p.result.1 p.result.0 i.0 w.if-c-eq47.false is w.insert_places.new.units.items w.insert_places.ensures)
    ]

pub returns : goal.returns
returns c = λ w n side units fits text.
    let i = c.loop-c.invariant in
    let nothing = drop_all c.loop-c.c-index c.args.board.now c.loop-c-test.false in
    sym (take-append-drop c.loop-c.file c.loop-c.units.items)
    ∙ sym (ap (squares_from (take c.loop-c.file c.loop-c.units.items) (drop c.loop-c.file c.loop-c.units.items)) nothing)
    ∙ i.1 ∙ listed c.args.board.now w n side units text
