use Rattle.std.proofs.Common.{◌∙◌, rules, List, subst, sym}
use Rattle.verifying.proofs.Common.{Claim, IsFoundIn}
use Rattle.verifying.proofs.claims.Claims.find.Goals as goal

pub returns : goal.returns
returns g c =
    subst (λ (claims : List Claim). IsFoundIn claims c.args.position.now c.copied.result) c.self.view_is
    (subst (IsFoundIn c.self.inside.list.items c.args.position.now) (sym (c.copied.ensures ∙ c.get.ensures.value))
    (c.self.invariant c.args.position.now c.words-words.result (record { packed = c.words-words.ensures.packed; three = search rules; board = c.words-words.ensures.value })))
