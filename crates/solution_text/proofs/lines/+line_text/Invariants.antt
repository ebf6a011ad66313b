use Rattle.std.proofs.Common.{length}
use Rattle.solution_text.proofs.lines.+line_text.Given as goal

abbrev pub decreases-line_text : goal.decreases-line_text
decreases-line_text g l = length l.line.now
