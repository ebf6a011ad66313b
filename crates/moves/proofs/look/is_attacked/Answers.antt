use Rattle.moves.proofs.Common.{ℕ, bit_or, Kind, Rook, Bishop, Knight, King, Pawn, other_side, place_in, IsCell, TakesAs, not-zero, via, so}
use Rattle.moves.proofs.Attacking.{five-are, attackers-are, none-attacks, some_attack}
use Rattle.moves.proofs.look.is_attacked.Goals as goal

pub returns-then-struck-ne0 : goal.returns-then-struck-ne0
returns-then-struck-ne0 c =
    so (some_attack c.args.board.now c.requires.position (other_side c.args.side) (place_in c.args.cell) Rook (λ e. cc) _ c.struck.type_inv c.struck.ensures c.if-struck-ne0.true)

pub returns-then-struck-ne0-2 : goal.returns-then-struck-ne0-2
returns-then-struck-ne0-2 c =
    so (some_attack c.args.board.now c.requires.position (other_side c.args.side) (place_in c.args.cell) Bishop (λ e. cc) _ c.struck-2.type_inv c.struck-2.ensures c.if-struck-ne0-2.true)

pub returns-then-struck-ne0-3 : goal.returns-then-struck-ne0-3
returns-then-struck-ne0-3 c =
    so (some_attack c.args.board.now c.requires.position (other_side c.args.side) (place_in c.args.cell) Knight (λ e. cc) _ c.struck-3.type_inv c.struck-3.ensures c.if-struck-ne0-3.true)

pub returns-then-struck-ne0-4 : goal.returns-then-struck-ne0-4
returns-then-struck-ne0-4 c =
    so (some_attack c.args.board.now c.requires.position (other_side c.args.side) (place_in c.args.cell) King (λ e. cc) _ c.struck-4.type_inv c.struck-4.ensures c.if-struck-ne0-4.true)

pub returns : goal.returns
returns c =
    let b = c.args.board.now in
    let k = place_in c.args.cell in
    let side = other_side c.args.side in
    let are = λ (i : ℕ). via (five-are (λ (q : Kind) (j : ℕ). IsCell b.game j × TakesAs b side q (place_in j) k) _ _ _ _ _ c.struck.ensures c.struck-2.ensures c.struck-3.ensures c.struck-4.ensures c.struck-5.ensures i) (attackers-are b c.requires.position side k i) in
    let w = not-zero c.struck-5.result in (
      λ h. some_attack b c.requires.position side k Pawn (λ e. cc) _ c.struck-5.type_inv c.struck-5.ensures (w.0 h),
      λ a. w.1 (λ zero. none-attacks b c.requires.position side k _ are
          (λ t. bit_or (bit_or (bit_or (bit_or (c.if-struck-ne0.false t) (c.if-struck-ne0-2.false t)) (c.if-struck-ne0-3.false t)) (c.if-struck-ne0-4.false t)) (zero t)) a),
    )
