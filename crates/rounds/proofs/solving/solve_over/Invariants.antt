use Rattle.std.proofs.Common.{◌≡◌, ◌*◌, length}
use Rattle.problems.specs.Answer.{ForcesNothing}
use Rattle.searcher.specs.Tables.{AreCallers}
use Rattle.rounds.specs.Going.{SeatsGoOn}
use Rattle.rounds.proofs.solving.solve_over.Given as goal

abbrev pub ghosts-round : goal.ghosts-round
ghosts-round g a = record { jobs = length a.search.now.root.moves.items }

-- the rounds so far were in vain, and the seats went on
abbrev pub invariant-loop-number : goal.invariant-loop-number
invariant-loop-number g l =
    record {
      count : length l.seats.items ≡ length l.fn.seats.items;
      seats : AreCallers l.search.slots.now l.seats.items;
      go_on : SeatsGoOn g.T.Gate.keeps l.search.slots.now l.fn.seats.items l.seats.items;
      nothing : ForcesNothing l.search.root.goal l.search.root.board (2 * l.number);
    }
