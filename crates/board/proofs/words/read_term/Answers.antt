use Rattle.std.proofs.Common.{get_or, sym, ◌∙◌, arith}
use Rattle.std.proofs.lemmas.Bool.{false≢true}
use Rattle.board.proofs.RankText.{split_first}
use Rattle.board.proofs.TwoWords.{term_first}
use Rattle.board.proofs.words.read_term.Goals as goal
use Rattle.board.proofs.words.read_term.Goals.{else-forward-via-then-forward+else-eq, else-forward-via-else-forward}

pub returns : goal.returns
returns c =
    let body = c.read_forward-forward.result.1.now in
    term_first c.args.text.now c.read_mode-mode.result.1.now body c.read_double-rider.result.1.now (get_or body 0 0)
    c.read_mode-mode.result.0 c.read_forward-forward.result.0 c.in_ok-atom.atom c.read_double-rider.result.0
    c.read_mode-mode.ensures.text c.read_forward-forward.ensures.text c.in_ok-atom.ensures
    (split_first body 0 (omega arith) ∙ c.read_double-rider.ensures.text)
    c.read_double-rider.ensures.longest
    (λ forward knight. elim c.else-forward.branch [
      | else-forward-via-then-forward+else-eq w ↦ false≢true (sym w.if-eq.false ∙ rw knight at w.eq.ensures)
      | else-forward-via-else-forward w ↦ false≢true (sym w.if-forward.false ∙ forward)
    ])
