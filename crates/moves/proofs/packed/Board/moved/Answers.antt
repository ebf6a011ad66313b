use Rattle.moves.proofs.Common.{◌≡◌, Some, set, unwrap_or, sym, ap, subst, ◌∙◌, Game, Man, Ply, square_number, cell_of, Shows, AreMoved, placed, after, to_on_board, man_of, unpacked, IsPacked}
use Rattle.moves.proofs.Shown.{Shows-after}
use Rattle.moves.proofs.Packing.{IsPut, unpacked_after, IsPacked-after}
use Rattle.moves.proofs.packed.Board.moved.Goals as goal

pub put-requires-2-clause-square : goal.put-requires-2-clause-square
put-requires-2-clause-square c =
    let to : c.m.inside.to ≡ c.args.m.to = ap (λ (x : Ply). x.to) c.m.view_is in
    rw (c.game-game.ensures.value, to) (to_on_board c.args.self.now c.args.m c.args.unit c.requires)

module _ (c : goal.After-moved-sets) where
  first : IsPut c.args.self.now.game c.self.inside.words c.put.new.words (square_number c.args.self.now.game c.args.m.from) 0
  first =
      let put : IsPut c.game-game.result c.self.inside.words c.put.new.words (square_number c.game-game.result c.m.inside.from) 0 = record { there = c.put.ensures.there; elsewhere = c.put.ensures.elsewhere } in
      subst (λ (x : Ply). IsPut c.args.self.now.game c.self.inside.words c.put.new.words (square_number c.args.self.now.game x.from) 0) c.m.view_is
      (subst (λ (g : Game). IsPut g c.self.inside.words c.put.new.words (square_number g c.m.inside.from) 0) c.game-game.ensures.value put)

  second : IsPut c.args.self.now.game c.put.new.words c.put-2.new.words (square_number c.args.self.now.game c.args.m.to) c.code_of.result
  second =
      let put : IsPut c.game-game.result c.put.new.words c.put-2.new.words (square_number c.game-game.result c.m.inside.to) c.code_of.result = record { there = c.put-2.ensures.there; elsewhere = c.put-2.ensures.elsewhere } in
      subst (λ (x : Ply). IsPut c.args.self.now.game c.put.new.words c.put-2.new.words (square_number c.args.self.now.game x.to) c.code_of.result) c.m.view_is
      (subst (λ (g : Game). IsPut g c.put.new.words c.put-2.new.words (square_number g c.m.inside.to) c.code_of.result) c.game-game.ensures.value put)

  man : Man
  man = record { side = c.args.unit.side; kind = c.unwrap_or.result }

  placed_is : man ≡ placed c.args.unit c.args.m
  unfolding man
  placed_is = λ i. record { side = c.args.unit.side; kind = (c.unwrap_or.ensures ∙ ap (λ (x : Ply). unwrap_or x.promotion c.args.unit.kind) c.m.view_is) i }

  stands : man_of c.code_of.result ≡ Some (placed c.args.unit c.args.m)
  unfolding man
  stands = c.code_of.ensures.value ∙ ap Some placed_is

  pub view_after : unpacked (set c.put-2.new.words 0 c.turned.result) ≡ after c.args.self.now c.args.m c.args.unit
  view_after =
      unpacked_after c.args.self.now c.args.m c.args.unit c.game-game.ensures.position c.requires c.self.inside.words c.put.new.words c.put-2.new.words c.turned.result c.code_of.result
      c.self.invariant.packed c.self.view_is first second stands c.code_of.ensures.code c.put-2.array_long c.turned.ensures.flags c.turned.ensures.elsewhere

  pub packed_after : IsPacked (set c.put-2.new.words 0 c.turned.result)
  packed_after =
      IsPacked-after c.args.self.now c.args.m c.args.unit c.game-game.ensures.position c.requires c.self.inside.words c.put.new.words c.put-2.new.words c.turned.result c.code_of.result
      c.self.invariant.packed c.self.view_is first second stands c.code_of.ensures.code c.put-2.array_long c.turned.ensures.flags c.turned.ensures.elsewhere

  sets_after : AreMoved c.self.inside.sets c.moved-sets.result (cell_of c.args.m.from) (cell_of c.args.m.to) (placed c.args.unit c.args.m)
  unfolding man
  sets_after =
      let from : c.cell_of.result ≡ cell_of c.args.m.from = c.cell_of.ensures.value ∙ ap (λ (x : Ply). cell_of x.from) c.m.view_is in
      let to : c.cell_of-2.result ≡ cell_of c.args.m.to = c.cell_of-2.ensures.value ∙ ap (λ (x : Ply). cell_of x.to) c.m.view_is in
      subst (AreMoved c.self.inside.sets c.moved-sets.result (cell_of c.args.m.from) (cell_of c.args.m.to)) placed_is
      (subst (λ x. AreMoved c.self.inside.sets c.moved-sets.result (cell_of c.args.m.from) x man) to (subst (λ x. AreMoved c.self.inside.sets c.moved-sets.result x c.cell_of-2.result man) from c.moved-sets.ensures))

pub invariant_of-result : goal.invariant_of-result
invariant_of-result c = record {
  packed = packed_after c;
  shows = subst (λ b. Shows b c.moved-sets.result) (sym (view_after c)) (Shows-after c.args.self.now c.args.m c.args.unit c.game-game.ensures.position c.requires c.self.inside.sets c.moved-sets.result
      (subst (λ b. Shows b c.self.inside.sets) c.self.view_is c.self.invariant.shows) (sets_after c));
}

pub returns : goal.returns
returns c = view_after c
