use Rattle.std.proofs.Common.{◌≡◌, ◌≢◌, ◌++◌, ◌∷◌, ◌∙◌, ◌/◌, [], List, ℕ, ap, arith, sym}
use Rattle.verifying.proofs.Common.{Decides-eqb, append_cancel_left, MatchOption-at_none, MatchOption-at_some, none-some, strip_prefix_is, decimal, move_text}
use Rattle.verifying.proofs.first_line.mate_in.Goals as goal

pub returns-in_err-name : goal.returns-in_err-name
returns-in_err-name c = rw c.from_residual-in_err-name.ensures (λ m odd named is.
    let rest = c.in_ok-rest.rest.now in
    MatchOption-at_none ((more : List ℕ) → rest ≢ 32 ∷ more) (λ x. rest ≡ 32 ∷ x.now) c.in_err-name.was (strip_prefix_is Decides-eqb rest (32 ∷ []) c.strip_prefix.result c.strip_prefix.ensures.cases)
    (move_text m) (append_cancel_left (decimal c.args.plies) rest (32 ∷ move_text m) (sym c.in_ok-rest.ensures ∙ is)))

pub returns-in_err-first : goal.returns-in_err-first
returns-in_err-first c = rw c.from_residual-in_err-first.ensures (λ m odd named is.
    let rest = c.in_ok-rest.rest.now in
    let spaced : rest ≡ 32 ∷ c.in_ok-name.name.now = MatchOption-at_some ((more : List ℕ) → rest ≢ 32 ∷ more) (λ x. rest ≡ 32 ∷ x.now) c.in_ok-name.name c.in_ok-name.was (strip_prefix_is Decides-eqb rest (32 ∷ []) c.strip_prefix.result c.strip_prefix.ensures.cases) in
    let mine = append_cancel_left (decimal c.args.plies) rest (32 ∷ move_text m) (sym c.in_ok-rest.ensures ∙ is) in
    let name : move_text m ≡ c.in_ok-name.name.now = cc (spaced, mine) in
    none-some m (c.in_err-first.ensures.read m named name))

pub returns : goal.returns
returns c =
    let rest = c.in_ok-rest.rest.now in
    let spaced : rest ≡ 32 ∷ c.in_ok-name.name.now = MatchOption-at_some ((more : List ℕ) → rest ≢ 32 ∷ more) (λ x. rest ≡ 32 ∷ x.now) c.in_ok-name.name c.in_ok-name.was (strip_prefix_is Decides-eqb rest (32 ∷ []) c.strip_prefix.result c.strip_prefix.ensures.cases) in (
      (c.args.plies / 2, omega (arith, c.if-plies-eq0.false)),
      c.in_ok-first.ensures.some.0,
      c.in_ok-rest.ensures ∙ ap (λ (l : List ℕ). decimal c.args.plies ++ l) (spaced ∙ ap (λ (l : List ℕ). 32 ∷ l) (sym c.in_ok-first.ensures.some.1)),
    )
