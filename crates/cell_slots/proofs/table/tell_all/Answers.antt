use Rattle.std.proofs.Common.{◌∙◌, arith}
use Rattle.cell_slots.proofs.Rows.{same_at, same_length, telling_on}
use Rattle.cell_slots.proofs.table.tell_all.Goals as goal

pub tell-requires-clause-cell : goal.tell-requires-clause-cell
tell-requires-clause-cell g c =
    let e = c.loop-i.invariant.line ∙ c.requires.tokens.0 in
    let m = same_length _ _ c.loop-i.tokens.items c.args.cells.now.items e in
    let test = c.loop-i-test.true in
    let end = c.len-i-end.ensures in
    same_at _ _ c.loop-i.tokens.items c.args.cells.now.items c.loop-i.i c.index_mut-token.result.now c.index-cell.result.now e (omega arith) c.index_mut-token.ensures.value c.index-cell.ensures

pub tell-requires-clause-other : goal.tell-requires-clause-other
tell-requires-clause-other g c =
    let e = c.loop-i.invariant.others_line ∙ c.requires.others.0 in
    let m = same_length _ _ c.loop-i.others.items c.args.cells.now.items e in
    let test = c.loop-i-test.true in
    let end = c.len-i-end.ensures in
    same_at _ _ c.loop-i.others.items c.args.cells.now.items c.loop-i.i c.index_mut-other.result.now c.index-cell.result.now e (omega arith) c.index_mut-other.ensures.value c.index-cell.ensures

pub loop-i-preserved : goal.loop-i-preserved
loop-i-preserved g c =
    let m = same_length _ _ c.loop-i.tokens.items c.args.cells.now.items (c.loop-i.invariant.line ∙ c.requires.tokens.0) in
    let n = same_length _ _ c.loop-i.others.items c.args.cells.now.items (c.loop-i.invariant.others_line ∙ c.requires.others.0) in
    let test = c.loop-i-test.true in
    let end = c.len-i-end.ensures in
    telling_on c.loop-i.i c.args.tokens.now.items c.args.others.now.items c.loop-i.tokens.items c.loop-i.others.items c.index_mut-token.result.now c.index_mut-other.result.now c.tell.new.token c.tell.new.other
    c.loop-i.invariant (omega arith) (omega arith) c.index_mut-token.ensures.value c.index_mut-other.ensures.value c.tell.ensures.token c.tell.ensures.other c.tell.ensures.told
