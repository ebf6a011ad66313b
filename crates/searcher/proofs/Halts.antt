-- Why a search ended.
use Rattle.std.proofs.Common.{◌≡◌, sym, ◌∙◌, Result, Ok, Err, IfErr}
use Rattle.std.specs.Prelude.{IsErrAnd}
use Rattle.searcher.specs.declared.halt.Halt.{Halt}
use Rattle.searcher.specs.declared.halt.Halt.TheVariants.{Stopped}

-- what a halt that is passed on says
pub err_halts : {A : Type 0} (r : Result A Halt) (e : Halt) (W : Type 0) → IsErrAnd r (λ h. h ≡ e) → (e ≡ Stopped → W) → IfErr r (λ h. h ≡ Stopped → W)
err_halts (Ok a) e W is f = tt
err_halts (Err h) e W is f = λ s. f (sym is ∙ s)
