-- What the checker refuses.
use Rattle.std.proofs.Common.{◌≡◌, ◌∙◌, Result, Ok, Err, IfErr, IsErr, IsErrAnd, sym, subst}
use Rattle.std.specs.declared.alloc.Global.{Global}
use Rattle.verifying.specs.declared.checker.Checker.{Checker}
use Rattle.verifying.specs.declared.fault.Fault.{Fault}
use Rattle.verifying.specs.declared.fault.Fault.TheVariants.{NoMemory}
use Rattle.certifying.specs.Making.{RefusesNext}
use Rattle.certifying.specs.declared.certificate.Certificate.{Certificate}

-- a fault that is handed on is one of the same text
pub handed_on : {T : Type 0} (checker : Checker Global) (certificate : Certificate) (fault : Fault) (r : Result T Fault) → ((fault ≡ NoMemory → ⊥) → RefusesNext checker certificate fault) → IsErr r × IsErrAnd r (λ f. f ≡ fault)
    → IfErr r (λ f. (f ≡ NoMemory → ⊥) → RefusesNext checker certificate f)
handed_on checker certificate fault (Ok value) refuses err = absurd err.1
handed_on checker certificate fault (Err f) refuses err = λ memory. subst (RefusesNext checker certificate) (sym err.1) (refuses (λ e. memory (err.1 ∙ e)))
