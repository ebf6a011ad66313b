-- How a searcher goes on.
use Rattle.std.specs.Prelude.{◌≡◌}
use Rattle.slots.specs.Promise.{IsSeatOf}
use Rattle.decision.specs.Calls.{Continues}
use Rattle.searcher.specs.declared.searcher.Searcher.{Searcher}

-- what leads its searches was told to stop
abbrev pub IsToldToStop : {S A : Type 0} → (S → Type 0) → Searcher S A → Type 0
IsToldToStop told s = told s.scout.now.stop

-- A searcher, and later: its table, its seat and what leads it are the same, its seat continues, and what may stop it stays
pub record SearchesOn {S A : Type 0} (stays : S → S → Type 0) (before after : Searcher S A) : Type 0 where
  pub table : after.slots.now ≡ before.slots.now
  pub seat : after.seat.ghost_name ≡ before.seat.ghost_name
  pub scout : after.scout.ghost_name ≡ before.scout.ghost_name
  pub calls : IsSeatOf before.slots.now before.seat.now → Continues before.slots.now before.seat.now after.seat.now
  pub stop : stays before.scout.now.stop after.scout.now.stop
