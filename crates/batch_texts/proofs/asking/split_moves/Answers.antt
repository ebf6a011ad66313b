use Rattle.std.proofs.Common.{◌≡◌, ◌∙◌, ◌++◌, ap, arith, codes, drop, inl, inr, length, length-append, sym}
use Rattle.std.proofs.Transfers.{drop-appended}
use Rattle.std.proofs.lemmas.Bool.{cases_lt, false≢true}
use Rattle.std.specs.Fmt.{decimal}
use lib.Pointwise.{bytes_decides}
use Rattle.batch_texts.proofs.asking.split_moves.Goals as goal

pub loop-moves-preserved : goal.loop-moves-preserved
loop-moves-preserved c = λ fen m lt says. elim (cases_lt m c.loop-moves.moves-counter) [
  | inl less ↦ c.loop-moves.invariant fen m less says
  | inr from ↦
      let same : m ≡ c.loop-moves.moves-counter = omega (arith, lt, from) in
      let field = c.as_bytes.result.now in
      let is : c.args.said.now ≡ fen ++ field = says.1 ∙ ap (λ k. fen ++ (codes " ; dm " ++ decimal k)) same ∙ ap (λ w. fen ++ w) (sym (c.as_bytes.ensures.value ∙ c.in_ok-field.ensures.ok)) in
      let at : c.saturating_sub.result ≡ length fen = omega (arith, c.saturating_sub.ensures, c.len.ensures, ap length is, length-append fen field, c.as_bytes.ensures.len) in
      false≢true (sym c.if-eq.false ∙ c.eq.ensures ∙ (bytes_decides c.split_at.result.1.now field).1
      (c.split_at.ensures.back ∙ ap (λ k. drop k c.args.said.now) at ∙ drop-appended fen c.args.said.now field is))
]
