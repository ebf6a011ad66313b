use Rattle.input_lines.proofs.LineLemmas.{long_ended, line_ended}
use Rattle.input_lines.proofs.lines.Held.ended.Goals as goal

pub returns-then-self : goal.returns-then-self
returns-then-self c = λ raw none holds. long_ended raw c.args.self c.if-self.true holds

pub returns : goal.returns
returns c = λ raw none holds. line_ended raw c.args.self c.extend_from_slice.new.self.items c.if-self.false c.in_ok-extend_from_slice.ensures.items holds
