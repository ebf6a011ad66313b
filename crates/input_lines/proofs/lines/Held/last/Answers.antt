use Rattle.std.proofs.Common.{rules}
use Rattle.input_lines.proofs.LineLemmas.{last_long, last_line}
use Rattle.input_lines.proofs.lines.Held.last.Goals as goal

pub returns-then-self : goal.returns-then-self
returns-then-self c = λ raw none holds. last_long raw c.args.self none c.if-self.true holds

pub returns : goal.returns
returns c = λ raw none holds. last_line raw c.args.self none c.if-self.false (search rules) holds
