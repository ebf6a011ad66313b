-- The rule that holds between any two atomic steps, and what the two kinds of step tell.
use Rattle.std.specs.Prelude.{◌≡◌, ◌⊎◌, ℕ, ◌+◌, ◌<◌, ◌≤◌, [], ◌∷◌, min}
use mathlib.Core.Option as option
use lib.ListN.{get_elem?}
use Rattle.atomic_table.specs.Table.{State, Me}
use Rattle.jobs.specs.declared.views.JobView.{JobView}

-- a seat's view, by the jobs that win, how many jobs there are, the number that it knows, and how many steps it has made
abbrev pub view : {W : Type 0} → W → ℕ → ℕ → ℕ → JobView W
view won jobs known steps = record { wins = won; jobs = jobs; known = known; steps = steps }

module _ {W : Type 0} (wins : W → ℕ → Type 0) where
  -- n is the number of jobs, or a job that wins
  abbrev pub NoneOrWins : W → ℕ → ℕ → Type 0
  NoneOrWins won jobs n = (n ≡ jobs) ⊎ ((n < jobs) × wins won n)

  -- What a seat knows while the word is n: the jobs that win, how many jobs there are, and a number that the word isn't above
  pub record Fits (won : W) (count n : ℕ) (v : JobView W) : Type 0 where
    pub set : v.wins ≡ won
    pub jobs : v.jobs ≡ count
    pub above : n ≤ v.known
    pub best : NoneOrWins won count v.known

  -- The rule: the one word is the number of jobs or a job that wins, and each seat fits it
  pub record BoardHolds (won : W) (count : ℕ) (s : State (Unit {0}) (JobView W)) : Type 0 where
    pub word : ℕ
    pub alone : s.words ≡ word ∷ []
    pub best : NoneOrWins won count word
    pub each_seat : (seat : ℕ) (v : JobView W) → get_elem? s.views seat ≡ option.some v → Fits won count word v

  -- the seat knows n from now on, and has made one step more
  abbrev pub Knows : JobView W → ℕ → JobView W → Type 0
  Knows v n v' = (v' ≡ view v.wins v.jobs n (v.steps + 1)) × (n ≤ v.known) × NoneOrWins v.wins v.jobs n

  -- after a read the seat knows what was found
  abbrev pub read : Me (Unit {0}) (JobView W) → ℕ → Me (Unit {0}) (JobView W) → Type 0
  read m found m' = Knows m.0 found m'.0 × (m'.1 ≡ m.1)

  -- after a fetch-min the seat knows the lesser of what was found and the job
  abbrev pub lowered : ℕ → Me (Unit {0}) (JobView W) → ℕ → Me (Unit {0}) (JobView W) → Type 0
  lowered job m found m' = Knows m.0 (min found job) m'.0 × (m'.1 ≡ m.1)
