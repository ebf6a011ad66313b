use Rattle.moves.proofs.Common.{◌≡◌, ◌↔◌, IsSome, IfSome, ℕ, ◌+◌, ◌*◌, ◌<◌, get_or, None, refl, subst, sym, ap, ◌∙◌, arith, add_assoc, false≢true, PROMOTIONS, Ply, square_number, Promotes, IsPromotion, IsLawful, promotion_number, ply_number, IsNumbered, numbered_promotion, ListsBelow-skip, ListsBelow-push, ListsBelow-promoted, first_promotion}
use Rattle.moves.proofs.AtOnce.{pseudo_by}
use Rattle.moves.proofs.board_list.push_to.Goals as goal
use Rattle.moves.proofs.board_list.push_to.Goals.{then-is_promoted_well, else-is_promoted_well}

pub loop-i-preserved : goal.loop-i-preserved
loop-i-preserved c =
    let b = c.args.board.now in
    let i = c.loop-i.i in
    let n : ℕ = (square_number b.game c.args.from * 36 + square_number b.game c.args.to) * 5 in
    let m : Ply = record { from = c.args.from; to = c.args.to; promotion = get_or PROMOTIONS i None } in
    let at : promotion_number m.promotion ≡ i = numbered_promotion i (omega (arith, c.promotion_count-i-end.ensures.within.1)) in
    let numbered : IsNumbered b m = record { from = c.requires.from_on_board; to = c.requires.to_on_board; promotion = omega arith } in
    let here : ply_number b.game m ≡ n + i = ap (λ x. n + x) at in
    let game = c.game-game.ensures.value in
    let u = c.args.unit in
    elim c.if-is_promoted_well.branch [
      | then-is_promoted_well w ↦
          let well = subst (λ g. (IsSome m.promotion ↔ Promotes g u m.to) × IfSome m.promotion (IsPromotion g)) game (c.is_promoted_well.ensures.0 w.if-is_promoted_well.true) in
          let lawful : IsLawful b m = c.requires.lawful m refl refl (record { named = well.0; allowed = well.1 }) in
          record {
            lists = rw (w.moves-is, w.push.ensures.items, ← add_assoc n i 1) (ListsBelow-push b (n + i) c.loop-i.moves.items m c.loop-i.invariant.lists lawful here);
            few = rw w.moves-is (omega (arith, w.push.ensures.len));
            one = λ piece.
                let first : i < 1 = first_promotion b m c.args.unit c.requires.stands piece lawful i at in
                let old = c.loop-i.invariant.one piece in
                rw w.moves-is (omega (arith, w.push.ensures.len));
          }
      | else-is_promoted_well w ↦
          let unlawful : IsLawful b m → ⊥ = λ l. false≢true (sym w.if-is_promoted_well.false ∙ c.is_promoted_well.ensures.1
          (subst (λ g. (IsSome m.promotion ↔ Promotes g u m.to) × IfSome m.promotion (IsPromotion g)) (sym game) (let p = pseudo_by b m u c.requires.stands l in (p.named, p.allowed)))) in
          record {
            lists = rw (w.moves-is, ← add_assoc n i 1) (ListsBelow-skip b (n + i) c.loop-i.moves.items m c.loop-i.invariant.lists numbered here unlawful);
            few = rw w.moves-is (omega arith);
            one = λ piece. let old = c.loop-i.invariant.one piece in rw w.moves-is (omega arith);
          }
    ]

pub push-requires : goal.push-requires
push-requires c = omega (arith, c.loop-i.invariant.few, c.promotion_count-i-end.ensures.within.1, c.requires.room)

pub returns-clause-after : goal.returns-clause-after
returns-clause-after c =
    let b = c.args.board.now in
    let i = c.loop-i.i in
    let end : i ≡ c.promotion_count-i-end.result = omega arith in
    let five : Promotes b.game c.args.unit c.args.to → i ≡ 5 = λ p. end ∙ c.promotion_count-i-end.ensures.five (subst (λ g. Promotes g c.args.unit c.args.to) (sym c.game-game.ensures.value) p) in
    ListsBelow-promoted b (square_number b.game c.args.to) i c.loop-i.moves.items c.args.unit c.args.from c.args.to c.requires.from_on_board c.requires.to_on_board refl c.requires.stands
    (omega (arith, end, c.promotion_count-i-end.ensures.within.1)) five (omega (arith, end, c.promotion_count-i-end.ensures.within.0)) c.loop-i.invariant.lists
