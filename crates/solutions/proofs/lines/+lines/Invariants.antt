use Rattle.solutions.proofs.lines.+lines.Given as goal

abbrev pub decreases-extend_line : goal.decreases-extend_line
decreases-extend_line g l = l.plies
