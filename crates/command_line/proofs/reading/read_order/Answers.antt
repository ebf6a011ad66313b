use Rattle.std.proofs.Common.{inr, subst, sym}
use Rattle.std.proofs.lemmas.Result.{IfErr-weaker, IfOk-weaker}
use Rattle.command_line.specs.Words.{HasOrder}
use Rattle.command_line.proofs.reading.read_order.Goals as goal

pub returns-clause-order : goal.returns-clause-order
returns-clause-order g c = IfOk-weaker c.found_order.result _ _ (λ order has. record {
  faultless = c.in_ok-matches.ensures.kinds;
  found = subst (λ rows. HasOrder rows order) c.in_ok-matches.ensures.found has;
}) c.found_order.ensures.order

pub returns-clause-refused : goal.returns-clause-refused
returns-clause-refused g c = IfErr-weaker c.found_order.result _ _ (λ fault none words.
    inr (λ order means. none.1 order (subst (λ rows. HasOrder rows order) (sym c.in_ok-matches.ensures.found) means.found))) c.found_order.ensures.fault
