use Rattle.composing.proofs.SolutionLemmas.{plain_none}
use Rattle.composing.proofs.problem.none_written.Goals as goal

pub returns-then-not-json : goal.returns-then-not-json
returns-then-not-json c =
    plain_none c.args.json c.args.goal c.args.position.now c.args.limit c.none_line.result c.if-not-json.true c.none_line.ensures
