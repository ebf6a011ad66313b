use Rattle.std.proofs.Common.{◌≢◌, ◌≡◌, ◌/◌, ◌%◌, ◌+◌, ◌++◌, ◌∷◌, [], ℕ, List, MatchOption, arith, subst, sym}
use Rattle.verifying.proofs.Common.{Decides-eqb, decimal_digit, strip_prefix_is}
use Rattle.verifying.proofs.OneAnswer.{high_decimal}
use Rattle.verifying.proofs.first_line.behind_number.Goals as goal

pub returns-then-number-lt10 : goal.returns-then-number-lt10
returns-then-number-lt10 c =
    subst (λ (digits : List ℕ). MatchOption c.strip_prefix.result ((rest : List ℕ) → c.args.text.now ≢ digits ++ rest) (λ rest. c.args.text.now ≡ digits ++ rest.now))
    (sym (decimal_digit c.args.number (omega (arith, c.if-number-lt10.true))))
    (strip_prefix_is Decides-eqb c.args.text.now ((48 + c.args.number) ∷ []) c.strip_prefix.result c.strip_prefix.ensures.cases)

pub returns : goal.returns
returns c =
    subst (λ (digits : List ℕ). MatchOption c.strip_prefix-2.result ((rest : List ℕ) → c.args.text.now ≢ digits ++ rest) (λ rest. c.args.text.now ≡ digits ++ rest.now))
    (sym (high_decimal c.args.number (omega (arith, c.if-number-lt10.false)) c.requires))
    (strip_prefix_is Decides-eqb c.args.text.now ((48 + c.args.number / 10) ∷ (48 + c.args.number % 10) ∷ []) c.strip_prefix-2.result c.strip_prefix-2.ensures.cases)
