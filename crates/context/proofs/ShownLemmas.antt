-- What is given within the limits.
use Rattle.std.proofs.Common.{◌≡◌, ◌⊎◌, List, ℕ, None, Result, Ok, Err, inl, inr, ap}
use Rattle.command_line.specs.declared.line.Limits.{Limits}
use Rattle.refusals.specs.declared.refusal.Refusal.{Refusal}
use Rattle.refusals.specs.declared.refusal.Refusal.TheVariants.{NoMemory}
use Rattle.refusals.specs.Outcome.{Gives}
use Rattle.refusals.specs.Reply.{Reply, answered, refused}
use Rattle.context.specs.Limits.{IsRefusedWithin, fault_of}
use Rattle.context.specs.Shown.{ShowsWithin}
use Rattle.context.proofs.Refused.{refused_by}

-- it is shown in place of what would be found
pub refused_within : (limits : Limits) (Shows : Reply → Type 0) (why : Refusal) → IsRefusedWithin limits why
    → (why ≡ NoMemory) ⊎ ShowsWithin limits Shows (refused why)
refused_within limits Shows why is = elim (refused_by limits why is) [
  | inl (none, memory) ↦ inl memory
  | inr (fault, at, same) ↦ inr (rw at (ap refused same))
]

-- what is given is given for what follows of it
pub gives_weaker : {B : Type 0} (bytes : B → List ℕ) (P Q : Reply → Type 0) (r : Result B Refusal) → ((reply : Reply) → P reply → Q reply) → Gives bytes P r → Gives bytes Q r
gives_weaker bytes P Q (Ok text) so gives = so (answered (bytes text)) gives
gives_weaker bytes P Q (Err refusal) so (inl none) = inl none
gives_weaker bytes P Q (Err refusal) so (inr shows) = inr (so (refused refusal) shows)

-- where all limits are taken, what is given is shown within them
pub gives_within : {B : Type 0} (bytes : B → List ℕ) (limits : Limits) (Shows : Reply → Type 0) (r : Result B Refusal) → fault_of limits ≡ None
    → Gives bytes Shows r → Gives bytes (ShowsWithin limits Shows) r
gives_within bytes limits Shows r none gives = gives_weaker bytes Shows (ShowsWithin limits Shows) r (λ reply shows. rw none shows) gives
