use Rattle.std.proofs.Common.{refl}
use Rattle.std.proofs.lemmas.List.{get_or-replicate}
use Rattle.decision.proofs.memory.Memory.new.Goals as goal

pub returns : goal.returns
returns c = record { won = λ pair low. get_or-replicate 1296 pair 0 0 low; latest = refl; earlier = refl; expanded = refl }
