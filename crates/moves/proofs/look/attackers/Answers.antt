use Rattle.moves.proofs.Common.{ℕ, Kind, other_side, place_in, IsCell, TakesAs, via}
use Rattle.moves.proofs.Attacking.{five-are, attackers-are}
use Rattle.moves.proofs.look.attackers.Goals as goal

pub returns : goal.returns
returns c = λ i.
    let b = c.args.board.now in
    let k = place_in c.args.cell in
    let side = other_side c.args.side in
    via (five-are (λ (q : Kind) (j : ℕ). IsCell b.game j × TakesAs b side q (place_in j) k) _ _ _ _ _ c.struck.ensures c.struck-2.ensures c.struck-3.ensures c.struck-4.ensures c.struck-5.ensures i)
    (attackers-are b c.requires.position side k i)
