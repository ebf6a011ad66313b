use Rattle.moves.proofs.Common.{refl}
use Rattle.moves.proofs.Classes.{by_class}
use Rattle.moves.proofs.sets.Sets.none.Goals as goal

pub returns : goal.returns
returns c = by_class _ refl refl refl refl refl refl refl
