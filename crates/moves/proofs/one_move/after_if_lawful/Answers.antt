use Rattle.moves.proofs.Common.{◌≡◌, Some, sym, ap, subst, ◌∙◌, false≢true, Ply, unit_at, IsInCheck, to_on_board}
use Rattle.moves.proofs.AtOnce.{pseudo_by}
use Rattle.moves.proofs.Pins.{no_unit}
use Rattle.moves.proofs.one_move.after_if_lawful.Goals as goal

pub returns-then-not-has_squares : goal.returns-then-not-has_squares
returns-then-not-has_squares c = λ l.
    let pseudo = l.1.pseudo in
    false≢true (sym c.if-not-has_squares.true ∙ c.has_squares.ensures.1 (rw (c.game.ensures.value) (pseudo.on_board, to_on_board c.args.board.now c.args.m l.1.unit pseudo)))

pub returns-in_default : goal.returns-in_default
returns-in_default c = λ l. no_unit (c.in_default.ensures ∙ ap (λ (x : Ply). unit_at c.args.board.now x.from) c.m.view_is ∙ l.1.pseudo.stands)

pub returns-then-not-is_pseudo_legal : goal.returns-then-not-is_pseudo_legal
returns-then-not-is_pseudo_legal c = λ l.
    let stands : unit_at c.args.board.now c.args.m.from ≡ Some c.in-Some.unit = ap (λ (x : Ply). unit_at c.args.board.now x.from) (sym c.m.view_is) ∙ sym c.in-Some.ensures in
    false≢true (sym c.if-not-is_pseudo_legal.true ∙ c.is_pseudo_legal.ensures.1 (pseudo_by c.args.board.now c.args.m c.in-Some.unit stands l))

pub returns : goal.returns
returns c =
    let p = c.is_pseudo_legal.ensures.0 c.if-not-is_pseudo_legal.false in
    record {
      unit = c.in-Some.unit;
      pseudo = p;
      leads = c.moved-next.ensures;
      safe = λ check. false≢true (sym c.if-is_checked.false ∙ c.is_checked.ensures.1 (subst (IsInCheck c.moved-next.result) (sym p.owner) check));
    }
