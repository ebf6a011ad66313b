use Rattle.std.proofs.Common.{◌+◌, slice_get, inl, inr, sym, ◌∙◌}
use Rattle.wintree.proofs.MoveReads.{four, read_ply, reads_move}
use Rattle.wintree.proofs.read.move_at.Goals as goal
use Rattle.wintree.proofs.read.move_at.Goals.{then-is_some, else-is_some}

pub returns-clause-read : goal.returns-clause-read
returns-clause-read c =
    let squares = four c.args.bytes.now c.args.at c.requires _ c.in_ok-cell_at.ensures.read _ c.in_ok-cell_at-2.ensures.read _ c.in_ok-cell_at-3.ensures.read _ c.in_ok-cell_at-4.ensures.read in
    let ply = read_ply _ (slice_get c.args.bytes.now (c.args.at + 4)) c.in_ok-cell_at.ensures.read.0 c.in_ok-cell_at-2.ensures.read.0 c.in_ok-cell_at-3.ensures.read.0 c.in_ok-cell_at-4.ensures.read.0 c.promotion_at-promotion.ensures in
    elim c.if-is_some.branch [
      | then-is_some w ↦ reads_move _ _ _ _ ply squares c.promotion_at-promotion.ensures (inl (sym c.is_some.ensures ∙ w.if-is_some.true, w.next-is))
      | else-is_some w ↦ reads_move _ _ _ _ ply squares c.promotion_at-promotion.ensures (inr (sym c.is_some.ensures ∙ w.if-is_some.false, w.next-is))
    ]
