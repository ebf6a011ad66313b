use Rattle.std.proofs.Common.{◌≡◌, ℕ, ◌+◌, ◌*◌, ◌<◌, get_or, None, sym, ap, ◌∙◌, arith, add_assoc}
use Rattle.rules.proofs.Common.{false≢true, PROMOTIONS, Ply, square_number, IsLawful, promotion_number, ply_number}
use Rattle.rules.proofs.Lists.{IsNumbered, numbered_promotion, ListsBelow-skip, ListsBelow-push, first_promotion}
use Rattle.rules.proofs.list.push_between.Goals as goal
use Rattle.rules.proofs.list.push_between.Goals.{then-is_lawful_by, else-is_lawful_by}

pub loop-promotion-preserved : goal.loop-promotion-preserved
loop-promotion-preserved c =
    let b = c.args.position.now in
    let i = c.loop-promotion.promotion-index in
    let n : ℕ = (square_number b.game c.args.from * 36 + square_number b.game c.args.to) * 5 in
    let m : Ply = record { from = c.args.from; to = c.args.to; promotion = get_or PROMOTIONS i None } in
    let at : promotion_number m.promotion ≡ i = numbered_promotion i (omega arith) in
    let numbered : IsNumbered b m = record { from = c.requires.from_on_board; to = c.requires.to_on_board; promotion = omega arith } in
    let here : ply_number b.game m ≡ n + i = ap (λ x. n + x) at in
    elim c.if-is_lawful_by.branch [
      | then-is_lawful_by w ↦
          let lawful : IsLawful b m = c.is_lawful_by.ensures.0 w.if-is_lawful_by.true in
          record {
            lists = rw (w.moves-is, w.push.ensures.items, ← add_assoc n i 1) (ListsBelow-push b (n + i) c.loop-promotion.moves.items m c.loop-promotion.invariant.lists lawful here);
            few = rw w.moves-is (omega (arith, w.push.ensures.len));
            one = λ u stands piece.
                let first : i < 1 = first_promotion b m u stands piece lawful i at in
                let old = c.loop-promotion.invariant.one u stands piece in
                rw w.moves-is (omega (arith, w.push.ensures.len));
          }
      | else-is_lawful_by w ↦
          let unlawful : IsLawful b m → ⊥ = λ l. false≢true (sym w.if-is_lawful_by.false ∙ c.is_lawful_by.ensures.1 l) in
          record {
            lists = rw (w.moves-is, ← add_assoc n i 1) (ListsBelow-skip b (n + i) c.loop-promotion.moves.items m c.loop-promotion.invariant.lists numbered here unlawful);
            few = rw w.moves-is (omega arith);
            one = λ u stands piece. let old = c.loop-promotion.invariant.one u stands piece in rw w.moves-is (omega arith);
          }
    ]
