use Rattle.board.proofs.FenFaulty.{many_units}
use Rattle.board.proofs.fault.has_many_units.Goals as goal

pub returns-else-count_case-most : goal.returns-else-count_case-most
returns-else-count_case-most c =
    many_units c.in-Some.game c.args.board.now c.most_units-most.result c.count_case.result c.count_case-else-count_case-most.result c.in-Some.ensures c.most_units-most.ensures c.count_case.ensures c.count_case-else-count_case-most.ensures c.if-count_case-most.false
