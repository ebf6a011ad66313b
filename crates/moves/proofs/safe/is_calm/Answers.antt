use Rattle.moves.proofs.Common.{sym, ◌∙◌, false≢true, not-true, not_from_false, false_from_ne_true}
use Rattle.moves.proofs.safe.is_calm.Goals as goal

pub returns-then-not-has_king : goal.returns-then-not-has_king
returns-then-not-has_king c = (
  λ e. record {
    no_king = λ there. false≢true (sym c.if-not-has_king.true ∙ c.has_king.ensures.1 there);
    safe = λ a. false≢true (sym (not-true c.is_attacked.result e) ∙ c.is_attacked.ensures.1 a);
  },
  λ w. not_from_false c.is_attacked.result (false_from_ne_true c.is_attacked.result (λ e. w.safe (c.is_attacked.ensures.0 e))),
)
