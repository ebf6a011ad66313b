-- What limits that are taken are.
use Rattle.std.proofs.Common.{◌≡◌, ◌<◌, ◌≤◌, ◌||◌, ℕ, Bool, true, false, Option, Some, None, cond, refl}
use Rattle.std.proofs.Math.Dec.{ltb}
use Rattle.std.proofs.lemmas.Bool.{or_parts}
use borrow.Author.Tests.{ltb-false}
use Rattle.searcher.specs.declared.fault.SolveFault.TheVariants.{Limit}
use Rattle.searcher.specs.Limits.{limits_fault}

some_or_none : {X : Type 0} (r : Bool) (x : X) (rest : Option X) → cond r (Some x) rest ≡ None → r ≡ false
some_or_none true x rest e = cc
some_or_none false x rest e = refl

pub limit_within : (limit workers slots : ℕ) → limits_fault limit workers slots ≡ None → (0 < limit) × (limit ≤ 63)
limit_within limit workers slots e =
    let neither = or_parts (ltb limit 1) (ltb 63 limit) (some_or_none (ltb limit 1 || ltb 63 limit) Limit _ e) in
    (ltb-false limit 1 neither.0, ltb-false 63 limit neither.1)
