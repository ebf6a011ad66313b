use Rattle.moves.proofs.Common.{rules, ◌≡◌, ◌+◌, ◌∙◌, sym, ap, subst, ◌↔◌, eqb-true, eq-eqb, Pawn, width_of, Place, unit_at, IsLastRank, pawn_ahead, PlainBoard, Man, Side, White, Black, Reaches}
use Rattle.moves.proofs.SafeCells.{IsBeforeLast, last_next}
use Rattle.moves.proofs.checks.may_promote.Goals as goal

-- a pawn comes to its last rank from the one before it
ahead : (b : PlainBoard) (u : Man) (s t : Place) → u.kind ≡ Pawn → Reaches b u s t (unit_at b t) → (side : Side) → u.side ≡ side → IsLastRank b.game u.side t.rank ↔ IsBeforeLast b.game side s.rank
ahead b u s t pawn r side is = subst (λ x. IsLastRank b.game u.side t.rank ↔ IsBeforeLast b.game x s.rank) is (last_next b.game u.side s.rank t.rank (pawn_ahead b u s t (unit_at b t) pawn r))

pub returns-in-White : goal.returns-in-White
returns-in-White c = λ to r.
    let b = c.args.board.now in
    let pawn : c.args.unit.kind ≡ Pawn = search rules in
    let here = ahead b c.args.unit c.args.from to pawn r White c.in-White.is in
    let rank : c.from.inside.rank ≡ c.args.from.rank = ap (λ (p : Place). p.rank) c.from.view_is in
    let width : c.width.result ≡ width_of b.game = c.width.ensures ∙ ap width_of c.game.ensures.value in (
      λ e. (pawn, here.1 (ap (λ n. n + 2) (sym rank) ∙ eqb-true _ _ e ∙ width)),
      λ p. eq-eqb _ _ (ap (λ n. n + 2) rank ∙ here.0 p.1 ∙ sym width),
    )

pub returns-in-Black : goal.returns-in-Black
returns-in-Black c = λ to r.
    let pawn : c.args.unit.kind ≡ Pawn = search rules in
    let here = ahead c.args.board.now c.args.unit c.args.from to pawn r Black c.in-Black.is in
    let rank : c.from.inside.rank ≡ c.args.from.rank = ap (λ (p : Place). p.rank) c.from.view_is in
    (λ e. (pawn, here.1 (sym rank ∙ eqb-true _ _ e)), λ p. eq-eqb _ _ (rank ∙ here.0 p.1))
