use Rattle.std.proofs.Common.{refl}
use Rattle.verifying.proofs.Refused.{answer_taken}
use Rattle.verifying.proofs.checker.Checker.behind.Goals as goal

pub returns : goal.returns
returns g c =
    answer_taken c.args.goal c.args.board.now c.args.answer _ c.requires.range c.requires.named refl c.copied.ensures refl c.in_ok-part.ensures.part c.in_ok-part.ensures.made
