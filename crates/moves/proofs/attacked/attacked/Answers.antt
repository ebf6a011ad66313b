use Rattle.moves.proofs.Common.{ℕ, subst, bit_or, Side, Kind, AreAttacked, IsSwept, via}
use Rattle.moves.proofs.Attacking.{five-are, attacked-are}
use Rattle.moves.proofs.attacked.attacked.Goals as goal

pub returns : goal.returns
returns c =
    let b = c.args.board.now in
    let s = c.other-other.result in
    subst (λ (x : Side). AreAttacked b x (bit_or (bit_or (bit_or (bit_or c.swept.result c.swept-2.result) c.swept-3.result) c.swept-4.result) c.swept-5.result)) c.other-other.ensures (λ j.
    via (five-are (λ (q : Kind) (i : ℕ). IsSwept b s q i) _ _ _ _ _ c.swept.ensures c.swept-2.ensures c.swept-3.ensures c.swept-4.ensures c.swept-5.ensures j) (attacked-are b c.requires s j))
