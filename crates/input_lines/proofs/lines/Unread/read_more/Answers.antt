use Rattle.std.proofs.Common.{◌+◌, ◌-◌, ◌++◌, drop, take, refl, rules}
use Rattle.input_lines.proofs.MarkLemmas.{read_on}
use Rattle.input_lines.proofs.lines.Unread.read_more.Goals as goal

pub returns-clause-left : goal.returns-clause-left
returns-clause-left g c =
    let u = c.args.self.now in
    let buffer = c.read.new.buffer in
    let behind = drop (4096 - u.to) (drop u.to u.chunk) in
    let count = c.in_ok-count.count in
    read_on u (record u { chunk = take u.to u.chunk ++ (buffer ++ behind); to = u.to + count }) (g.S.Source.remaining c.args.reader.now)
    (g.S.Source.remaining c.read.new.self) buffer behind count c.requires.first c.requires.first (search rules) refl refl
    c.in_ok-count.ensures.fits c.in_ok-count.ensures.bytes.0
