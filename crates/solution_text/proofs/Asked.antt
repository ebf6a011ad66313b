-- What was asked for, where it is there.
use Rattle.std.proofs.Common.{Bool, true, false, Option, None, Some, IfSome}
use Rattle.solutions.specs.Solutions.{IsWhereAsked}

pub where_asked : {X : Type 0} (P Q : X → Type 0) → ((x : X) → P x → Q x) → (asked : Bool) (found : Option X) → IsWhereAsked P asked found → IfSome found Q
where_asked P Q weaker true (Some x) there = weaker x there
where_asked P Q weaker true None there = absurd there
where_asked P Q weaker false (Some x) there = absurd there
where_asked P Q weaker false None there = tt
