use Rattle.std.proofs.Common.{◌≢◌, ◌<◌, ◌∙◌, [], sym}
use borrow.Author.Count.{below_more}
use Rattle.verifying.proofs.Common.{append-nil, decimal}
use Rattle.verifying.proofs.first_line.number_of.Goals as goal

pub loop-number-preserved-in_default : goal.loop-number-preserved-in_default
loop-number-preserved-in_default c =
    below_more (λ n. 0 < n → decimal n ≢ c.args.digits.now) c.loop-number.number c.loop-number.invariant (λ some is. c.in_default.ensures [] (sym is ∙ sym (append-nil (decimal c.loop-number.number))))
