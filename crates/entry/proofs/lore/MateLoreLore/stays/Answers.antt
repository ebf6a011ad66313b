use Rattle.std.proofs.Common.{◌≡◌, false, sym, subst, ◌∙◌, inl, inr}
use Rattle.entry.proofs.Common.{same_from_decides, mate_prefers, zeros_give_way}
use Rattle.entry.proofs.Preferred.{mate_decides}
use Rattle.entry.proofs.lore.MateLoreLore.stays.Goals as goal

pub returns : goal.returns
returns c = λ new old. elim old [
  | inl stands ↦ same_from_decides c.stays.result (mate_prefers c.args.old c.args.new) (c.stays.ensures.packings stands.entry new.entry stands.packing new.packing) (mate_decides c.args.old c.args.new)
  | inr zero ↦ c.stays.ensures.zeros new.entry new.packing zero ∙ sym (subst (λ z. mate_prefers z c.args.new ≡ false) (sym zero) (zeros_give_way c.args.new))
]
