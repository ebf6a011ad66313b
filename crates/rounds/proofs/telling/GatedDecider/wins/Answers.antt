use Rattle.rounds.specs.Going.SeatGoesOn.{called, onward}
use Rattle.problems.proofs.Jobs.{job_after}
use Rattle.rounds.proofs.telling.GatedDecider.wins.Goals as goal

pub returns-clause-goes : goal.returns-clause-goes
returns-clause-goes g c = let goes = c.forces.ensures.goes in let seat = c.begin.ensures.seat in
    record { table = goes.table; seat = goes.seat; calls = λ before. onward (called before c.begin.ensures.keeps) (goes.calls seat); still = λ _. goes.still seat }

pub returns-clause-wins : goal.returns-clause-wins
returns-clause-wins g c = job_after c.args.root.now c.args.plies c.args.job c.question_of-q.result c.in_ok-yes.yes c.question_of-q.ensures c.in_ok-yes.ensures.answer
