use Rattle.std.proofs.Common.{◌≡◌, ◌≢◌, ◌∙◌, ℕ, List, [], ◌∷◌, ◌++◌, All, sym, ap, subst, inl, inr}
use Rattle.std.proofs.lemmas.List.Elements.{All-nil}
use Rattle.verifying.specs.Checking.{RefusesMore, TakesMore}
use Rattle.verifying.specs.declared.fault.Fault.TheVariants.{NoMemory}
use Rattle.certifying.specs.Making.{IsSpent}
use Rattle.verifying.proofs.Feeds.{line_no_feed}
use Rattle.certifying.proofs.Refusing.{handed_on}
use Rattle.certifying.proofs.checked.Checked.next_line.Goals as goal

pub returns-in_err-ended-clause-refuses : goal.returns-in_err-ended-clause-refuses
returns-in_err-ended-clause-refuses c =
    let spent : IsSpent c.next_text.new.self = rw c.in_default.is at c.in_ok-line.ensures.spent in
    handed_on c.args.self.now.checker c.next_text.new.self c.in_err-ended.field-0.0 c.from_residual-in_err-ended.result (λ memory. inr (spent, c.in_err-ended.ensures.refuses memory (All-nil (λ (x : ℕ). x ≢ 10)))) c.from_residual-in_err-ended.ensures

pub returns-in_err-take-clause-refuses : goal.returns-in_err-take-clause-refuses
returns-in_err-take-clause-refuses c =
    let words = rw c.in-Some.is at c.in_ok-line.ensures.words in
    let text = c.as_slice.ensures.value ∙ words.1 in
    let none = subst (λ (l : List ℕ). All (λ (x : ℕ). x ≢ 10) l) (sym text) (line_no_feed words.0) in
    let refuses = λ (memory : c.in_err-take.field-0.0 ≡ NoMemory → ⊥). subst (λ (l : List ℕ). (rest : List ℕ) → RefusesMore c.args.self.now.checker (l ++ 10 ∷ rest) c.in_err-take.field-0.0) text (c.in_err-take.ensures.refuses memory none) in
    handed_on c.args.self.now.checker c.next_text.new.self c.in_err-take.field-0.0 c.from_residual-in_err-take.result (λ memory. inl (words.0, refuses memory)) c.from_residual-in_err-take.ensures

pub returns-clause-takes : goal.returns-clause-takes
returns-clause-takes c =
    subst (λ (l : List ℕ). TakesMore c.args.self.now.checker c.take.new.self l) (ap (λ (l : List ℕ). l ++ 10 ∷ []) c.as_slice.ensures.value ∙ sym c.in_ok-fed.ensures) c.in_ok-take.ensures.takes
