use Rattle.rules.proofs.Keeps.{lawful_from}
use Rattle.rules.proofs.plies.is_lawful_by.Goals as goal

pub returns-in-Some : goal.returns-in-Some
returns-in-Some c =
    lawful_from c.args.position.now c.args.m c.in-Some.unit c.moved.result c.mover.result c.in_check_by.result c.in-Some.ensures c.moved.ensures c.mover.ensures c.in_check_by.ensures
