use Rattle.std.proofs.Common.{◌≡◌, ◌∷◌, [], ◌++◌, ℕ, List, Contains, rules, subst, sym}
use Rattle.verifying.proofs.Common.{Claim, IsFoundIn, IsIndexOf}
use Rattle.verifying.proofs.Index.{first_claim, entered}
use Rattle.verifying.proofs.claims.Claims.push.Goals as goal

pub invariant_of-self : goal.invariant_of-self
invariant_of-self g c = subst (IsIndexOf c.self.inside.index.entries) (sym c.reserve.ensures.items) c.self.invariant

pub invariant_of-self-in_err-insert : goal.invariant_of-self-in_err-insert
invariant_of-self-in_err-insert g c =
    subst (λ (entries : List (List ℕ × ℕ)). IsIndexOf entries c.reserve.new.self.items) (sym c.in_err-insert.ensures.err)
    (subst (IsIndexOf c.self.inside.index.entries) (sym c.reserve.ensures.items) c.self.invariant)

pub invariant_of-self-2 : goal.invariant_of-self-2
invariant_of-self-2 g c =
    let entries = c.self.inside.index.entries in
    let list = c.self.inside.list.items in
    let p = c.args.position.now in
    let added : Claim = record { position = p; plies = c.args.plies } in
    let whole : c.push_reserved.new.self.items ≡ list ++ added ∷ [] = cc (c.push_reserved.ensures.items, c.reserve.ensures.items, c.of.ensures) in
    let found : IsFoundIn list p c.find.result = subst (λ (claims : List Claim). IsFoundIn claims p c.find.result) (sym c.self.view_is) c.find.ensures in
    let among : Contains (list ++ added ∷ []) (record { position = p; plies = c.unwrap_or-first.result }) =
    subst (λ k. Contains (list ++ added ∷ []) (record { position = p; plies = k })) (sym c.unwrap_or-first.ensures) (first_claim entries list p c.args.plies c.find.result found) in
    subst (IsIndexOf c.insert.new.self.entries) (sym whole)
    (entered entries list p c.args.plies c.words.result c.unwrap_or-first.result c.insert.new.self.entries (record { packed = c.words.ensures.packed; three = search rules; board = c.words.ensures.value }) among c.in_ok-insert.ensures.updates.0 c.self.invariant)
