use Rattle.std.proofs.Common.{◌<◌, ℕ, All}
use Rattle.rounds.specs.Shares.{WinsHere, IsShare}
use Rattle.rounds.specs.Going.{EachGoesOn}
use Rattle.rounds.proofs.round.settle.Given as goal

-- none of the jobs so far wins
abbrev pub invariant-loop-job : goal.invariant-loop-job
invariant-loop-job g l =
    record {
      shares : All (IsShare g.J.Count.jobs l.fn.round) l.shares.items;
      go_on : EachGoesOn g.T.Gate.keeps l.fn.round.search.now.slots.now l.fn.shares.items l.shares.items;
      none : (k : ℕ) → k < l.job → WinsHere l.fn.round k → ⊥;
    }
