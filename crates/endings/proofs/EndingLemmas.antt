-- A run's end, from how its text was written.
use Rattle.std.proofs.Common.{◌≡◌, ℕ, List, Result, Ok, Err, Vec, inl, inr, subst, sym, vec_items, ◌∙◌, ◌+◌, ◌-◌, ◌++◌, Option, ap, append_assoc, arith}
use Rattle.std.specs.declared.alloc.Global.{Global}
use Rattle.refusals.specs.Reply.{Reply, answered, refused}
use Rattle.refusals.specs.declared.refusal.Refusal.{Refusal}
use Rattle.refusals.specs.Outcome.{Gives}
use Rattle.endings.specs.Run.{Ending, Finishes, EndsReply, WritesReply}
use Rattle.std.proofs.KnownBytes.{Appends-trans}
use Rattle.std.specs.Io.KnownBytes.{Appends}

-- a text is written behind another
pub finishes_after : (a b c : Option (List ℕ)) (old mid new status asked : ℕ) (text more : List ℕ) → Appends a b text → mid ≡ old + 0
    → Finishes (record { before = b; after = c; failed_writes = new - mid; status = status }) more asked
    → Finishes (record { before = a; after = c; failed_writes = new - old; status = status }) (text ++ more) asked
finishes_after a b c old mid new status asked text more written same (inl (whole, none, is)) =
    inl (Appends-trans a b c text more written whole, omega (arith, same, none), is)
finishes_after a b c old mid new status asked text more written same (inr ((taken, rest, cut, grown), one, four)) =
    inr ((text ++ taken, rest, ap (λ l. text ++ l) cut ∙ sym (append_assoc text taken rest), Appends-trans a b c text taken written grown), omega (arith, same, one), four)

-- a reply was written
pub reply_ran : (Is : Reply → Type 0) (ending : Ending) (r : Result (Vec ℕ Global) Refusal) → Gives vec_items Is r → EndsReply ending r → WritesReply Is ending
reply_ran Is ending (Ok text) gives wrote = inl (answered (vec_items text), gives, wrote)
reply_ran Is ending (Err why) gives (inr wrote) = inr wrote
reply_ran Is ending (Err why) (inl none) (inl wrote) = inr (subst (λ r. Finishes ending (refused r).text (refused r).status) none wrote)
reply_ran Is ending (Err why) (inr is) (inl wrote) = inl (refused why, is, wrote)
