use Rattle.std.proofs.Common.{◌≡◌, ℕ, zero, suc, ◌≤◌, List, [], ◌∷◌, ◌++◌, take, drop, refl, sym, ◌∙◌, ap, subst, arith, append_assoc}
use Rattle.std.proofs.lemmas.List.{take-append-drop}
use Rattle.wintree.specs.Offset.{IsText, BeginsText}
use Rattle.text_laws.proofs.trees.deep_is_before_the_fault.Goals as goal

-- the beginning of a longer beginning
take_take : (xs : List ℕ) (j k : ℕ) → j ≤ k → take j (take k xs) ≡ take j xs
take_take xs zero k le = refl
take_take xs (suc j) zero le = absurd (omega arith)
take_take [] (suc j) (suc k) le = refl
take_take (x ∷ xs) (suc j) (suc k) le = ap (λ ys. x ∷ ys) (take_take xs j k (omega arith))

-- a shorter beginning begins a text too
begins_sooner : (bytes : List ℕ) (k g : ℕ) → k ≤ g → BeginsText (take g bytes) → BeginsText (take k bytes)
begins_sooner bytes k g le begins =
    let front = take k bytes in
    let split : front ++ drop k (take g bytes) ≡ take g bytes = ap (λ xs. xs ++ drop k (take g bytes)) (sym (take_take bytes k g le)) ∙ take-append-drop k (take g bytes) in
    (drop k (take g bytes) ++ begins.0, subst IsText (ap (λ xs. xs ++ begins.0) (sym split) ∙ append_assoc front (drop k (take g bytes)) begins.0) begins.1)

pub returns : goal.returns
returns c = λ bytes g far. (
  λ deep. (deep.0, far.longest deep.0 deep.1 deep.2, deep.3),
  λ within. (within.0, omega (arith, within.1, far.within), begins_sooner bytes within.0 g within.1 far.begins, within.2),
)
