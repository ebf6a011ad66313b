use Rattle.moves.proofs.Common.{◌↔◌, IsTrue, Option, Some, None, MatchOption, sym, subst, IsLawful, so, not_so}
use Rattle.std.specs.Option.{is_some}
use Rattle.moves.proofs.one_move.is_lawful_on.Goals as goal

some_if : {X : Type 0} (A : X → Type 0) (L : Type 0) (o : Option X) → MatchOption o (L → ⊥) A → ((x : X) → A x → L) → IsTrue (is_some o) ↔ L
some_if A L None none found = not_so none
some_if A L (Some x) is found = so (found x is)

pub returns : goal.returns
returns c = subst (λ r. IsTrue r ↔ IsLawful c.args.board.now c.args.m) (sym c.is_some.ensures) (some_if _ (IsLawful c.args.board.now c.args.m) c.after_if_lawful.result c.after_if_lawful.ensures (λ x move. (_, move)))
