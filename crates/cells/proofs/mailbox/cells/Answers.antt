use Rattle.std.proofs.Common.{ℕ, ◌↔◌, sym, subst}
use Rattle.cells.specs.Mailbox.{IsCell}
use Rattle.cells.specs.CellSets.{Has}
use Rattle.cells.proofs.OnRays.{los_alamos_cells, gardner_cells, cells-los_alamos, cells-gardner}
use Rattle.cells.proofs.mailbox.cells.Goals as goal

pub returns-in-LosAlamos : goal.returns-in-LosAlamos
returns-in-LosAlamos c = subst (λ g. (i : ℕ) → Has los_alamos_cells i ↔ IsCell g i) (sym c.in-LosAlamos.is) cells-los_alamos

pub returns-in-Gardner : goal.returns-in-Gardner
returns-in-Gardner c = subst (λ g. (i : ℕ) → Has gardner_cells i ↔ IsCell g i) (sym c.in-Gardner.is) cells-gardner
