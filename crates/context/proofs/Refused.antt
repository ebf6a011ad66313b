-- Why nothing is found within the limits.
use Rattle.std.proofs.Common.{◌≡◌, ◌⊎◌, Option, None, Some, MatchOption, inl, inr, refl}
use Rattle.searcher.specs.declared.fault.SolveFault.{SolveFault}
use Rattle.command_line.specs.declared.line.Limits.{Limits}
use Rattle.refusals.specs.declared.refusal.Refusal.{Refusal}
use Rattle.refusals.specs.declared.refusal.Refusal.TheVariants.{NoMemory}
use Rattle.context.specs.Limits.{IsRefusedWithin, fault_of, refusal_of_solve}

-- why nothing is found within the limits: want of memory where all are taken, or the refusal of the first that isn't
pub refused_by : (limits : Limits) (why : Refusal) → IsRefusedWithin limits why
    → ((fault_of limits ≡ None) × (why ≡ NoMemory)) ⊎ ((fault : SolveFault) × (fault_of limits ≡ Some fault) × (why ≡ refusal_of_solve fault))
refused_by limits why is = by (fault_of limits) refl is
  where
    by : (o : Option SolveFault) → fault_of limits ≡ o → MatchOption o (why ≡ NoMemory) (λ fault. why ≡ refusal_of_solve fault)
        → ((fault_of limits ≡ None) × (why ≡ NoMemory)) ⊎ ((fault : SolveFault) × (fault_of limits ≡ Some fault) × (why ≡ refusal_of_solve fault))
    by None at is = inl (at, is)
    by (Some fault) at is = inr (fault, at, is)
