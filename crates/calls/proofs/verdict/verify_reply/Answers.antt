use Rattle.std.proofs.Common.{◌⊎◌, ◌≡◌, List, ℕ, sym, subst, vec_items}
use Rattle.refusals.specs.Reply.{answered, refused}
use Rattle.refusals.specs.declared.refusal.Refusal.TheVariants.{NoMemory}
use Rattle.verdicts.specs.Verdict.{IsVerdict}
use Rattle.calls.proofs.verdict.verify_reply.Goals as goal

pub returns-in-Ok : goal.returns-in-Ok
returns-in-Ok g c =
    let Is : List ℕ → Type 0 = λ input. IsVerdict (record { fen = c.args.fen; goal = c.args.goal }) input (answered (vec_items c.in-Ok.reply)) in
    let given = c.in-Ok.ensures.given in
    let told : c.args.text.now ≡ given.0 = given.1 in
    subst Is (sym told) given.2

pub returns-in-Err-Refused : goal.returns-in-Err-Refused
returns-in-Err-Refused g c =
    let why = c.in-Err-Refused.refusal in
    let Is : List ℕ → Type 0 = λ input. (why ≡ NoMemory) ⊎ IsVerdict (record { fen = c.args.fen; goal = c.args.goal }) input (refused why) in
    let given = c.in-Err-Refused.ensures.given in
    let told : c.args.text.now ≡ given.0 = given.1 in
    subst Is (sym told) (rw c.in-Err-Refused.field-0-is at given.2)
