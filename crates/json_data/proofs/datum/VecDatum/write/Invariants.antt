-- those so far are written
use Rattle.std.proofs.Common.{take}
use Rattle.std.specs.List.{flat_map}
use Rattle.json_data.specs.Data.{Appends}
use Rattle.json_data.proofs.datum.VecDatum.write.Given as goal

abbrev pub invariant-loop-item : goal.invariant-loop-item
invariant-loop-item g l = Appends l.initial.writer l.writer (flat_map g.T.Datum.tokens (take l.item-index l.item-items))
