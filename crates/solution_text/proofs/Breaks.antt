-- Why lines weren't told to their end.
use Rattle.std.proofs.Common.{◌≡◌, sym, ap, ◌∙◌, Result, Ok, Err, IfErr}
use Rattle.std.specs.Prelude.{IsErrAnd}
use Rattle.searcher.specs.declared.halt.Halt.{Halt}
use Rattle.searcher.specs.declared.halt.Halt.TheVariants.{Stopped}
use Rattle.solution_text.specs.declared.broken.Broken.{Broken}

-- what is passed on
pub err_again : {A : Type 0} (r : Result A Broken) (e : Broken) (W : Type 0) → IsErrAnd r (λ h. h ≡ e) → (e.halt ≡ Stopped → W) → IfErr r (λ h. h.halt ≡ Stopped → W)
err_again (Ok a) e W is f = tt
err_again (Err h) e W is f = λ s. f (ap (λ (x : Broken). x.halt) (sym is) ∙ s)

-- what a search says
pub err_halted : {A : Type 0} (r : Result A Broken) (e : Halt) (W : Type 0) → IsErrAnd r (λ h. h.halt ≡ e) → (e ≡ Stopped → W) → IfErr r (λ h. h.halt ≡ Stopped → W)
err_halted (Ok a) e W is f = tt
err_halted (Err h) e W is f = λ s. f (sym is ∙ s)
