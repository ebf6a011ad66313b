use Rattle.std.proofs.Common.{sym, ap, subst, ◌∙◌}
use Rattle.jobs.specs.JobBoard.{JobBoard}
use Rattle.jobs.specs.Promise.{GivenUp}
use Rattle.jobs.proofs.Keeps.{given_up, left}
use Rattle.jobs.proofs.job_board.Least.finish.Goals as goal

pub returns-clause-rule : goal.returns-clause-rule
returns-clause-rule g c = subst (λ (b : JobBoard _). GivenUp g.W.Wins.wins b c.args.seat c.word-word.result) c.self.view_is (given_up g.W.Wins.wins _ _ _ _ _ c.word-word.ensures (c.requires.0 ∙ sym (ap (λ (b : JobBoard _). b.table) c.self.view_is)) c.close_with-closed.ensures.values.2)

pub returns-clause-known : goal.returns-clause-known
returns-clause-known g c = (left g.W.Wins.wins c.args.self c.args.seat _ (returns-clause-rule g c)).1

pub returns-clause-best : goal.returns-clause-best
returns-clause-best g c = (left g.W.Wins.wins c.args.self c.args.seat _ (returns-clause-rule g c)).0
