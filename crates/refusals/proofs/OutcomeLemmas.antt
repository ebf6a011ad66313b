-- What is given where a reply has a fault.
use Rattle.std.proofs.Common.{◌≡◌, ◌⊎◌, ℕ, List, Result, Ok, Err, IsErr, IsErrAnd, subst}
use Rattle.refusals.specs.Reply.{Reply, refused}
use Rattle.refusals.specs.Outcome.{GivesIfRead}
use Rattle.refusals.specs.declared.refusal.Refusal.{Refusal}
use Rattle.refusals.specs.declared.refusal.Refusal.TheVariants.{NoMemory}
use Rattle.refusals.specs.declared.reply_fault.ReplyFault.{ReplyFault}
use Rattle.refusals.specs.declared.reply_fault.ReplyFault.TheVariants.{Refused, ReadFailed}

-- a refusal that is right, or is want of memory, is given
pub refusal_gives : {B : Type 0} (bytes : B → List ℕ) (Is : Reply → Type 0) (r : Result B ReplyFault) (refusal : Refusal) → (refusal ≡ NoMemory) ⊎ Is (refused refusal)
    → IsErr r × IsErrAnd r (λ fault. fault ≡ Refused refusal) → GivesIfRead bytes Is r
refusal_gives bytes Is (Ok b) refusal right err = absurd err.1
refusal_gives bytes Is (Err (Refused other)) refusal right err =
    let same : refusal ≡ other = cc in subst (λ x. (x ≡ NoMemory) ⊎ Is (refused x)) same right
refusal_gives bytes Is (Err ReadFailed) refusal right err = tt
