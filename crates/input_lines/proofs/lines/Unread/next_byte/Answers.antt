use Rattle.std.proofs.Common.{rules}
use Rattle.std.proofs.lemmas.Option.{IfSome_then}
use Rattle.input_lines.specs.Lines.{left_of}
use Rattle.input_lines.proofs.LineLemmas.{moved_on}
use Rattle.input_lines.proofs.lines.Unread.next_byte.Goals as goal

pub returns-clause-takes : goal.returns-clause-takes
returns-clause-takes g c =
    let u = c.fill.new.self in
    IfSome_then (left_of c.args.self.now (g.S.Source.remaining c.args.reader.now)) c.in_ok-fill.ensures.fills
    (λ xs kept. moved_on u (g.S.Source.remaining c.fill.new.reader) xs _ (search (rules, c.if-self.false, c.fill.ensures.bounds)) c.fill.ensures.bounds.1 (search rules) kept.0)
