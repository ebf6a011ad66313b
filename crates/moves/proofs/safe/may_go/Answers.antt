use Rattle.moves.proofs.Common.{◌≡◌, Some, sym, ap, subst, ◌∙◌, false≢true, not-true, other_side, unit_at, IsAttacked, IsSomeKing, IsPseudoLegal, cell_of, place_in, Has, IsNamed, IsCalm, cell_of-place_in, so, not_so, lawful_from}
use Rattle.moves.proofs.AtOnce.{pseudo_by, move_by}
use Rattle.moves.proofs.SafeCells.{lawful_too, pseudo_named, calm_lawful, lawful_calm, free_lawful}
use Rattle.moves.proofs.Shadows.{in_shadow}
use Rattle.moves.proofs.safe.may_go.Goals as goal

pub returns-then-has_king : goal.returns-then-has_king
returns-then-has_king c = λ m from to named. not_so (λ l.
    let b = c.args.board.now in
    let p = pseudo_by b m c.args.unit (ap (unit_at b) from ∙ c.requires.stands) l in
    p.no_king (subst (λ x. IsSomeKing (unit_at b x)) (sym to) (c.has_king.ensures.0 c.if-has_king.true)))

pub returns-then-has : goal.returns-then-has
returns-then-has c = λ m from to named. not_so (λ l.
    let b = c.args.board.now in
    let calm = lawful_calm b c.args.unit (place_in c.args.from) c.args.to c.requires.position (c.is_king.ensures.0 c.if-is_king.true) c.requires.owner c.requires.stands m from to l in
    calm.safe (subst (λ s. IsAttacked b (place_in c.args.to) (other_side s)) (sym c.requires.owner) ((c.requires.guards.attacked c.args.to).0 (c.has.ensures.0 c.if-has.true)).1))

pub returns-then-not-has : goal.returns-then-not-has
returns-then-not-has c = λ m from to named. so (
    let b = c.args.board.now in
    let u = c.args.unit in
    let i = c.args.to in
    let s = place_in c.args.from in
    let cell = c.requires.target.0 in
    let king = c.is_king.ensures.0 c.if-is_king.true in
    let calm : IsCalm b (place_in i) u.side = record {
      no_king = λ there. false≢true (sym c.if-has_king.false ∙ c.has_king.ensures.1 there);
      safe = λ a. false≢true (sym c.if-has.false ∙ c.has.ensures.1 ((c.requires.guards.attacked i).1 (cell, subst (λ x. IsAttacked b (place_in i) (other_side x)) c.requires.owner a)));
    } in
    calm_lawful b u s i c.requires.position king c.requires.owner c.requires.stands
    (λ w. false≢true (sym c.if-not-has.true ∙ c.has-then-is_king.ensures.1 (in_shadow b c.args.guard u s i c.requires.position c.requires.guards c.requires.cell.on_board cell c.requires.stands c.requires.owner king w)))
    c.requires.cell.on_board c.requires.target calm m from to named)

pub returns-then-not-has-2 : goal.returns-then-not-has-2
returns-then-not-has-2 c = λ m from to named. not_so (λ l.
    let b = c.args.board.now in
    let u = c.args.unit in
    let stands : unit_at b m.from ≡ Some u = ap (unit_at b) from ∙ c.requires.stands in
    let at : cell_of m.to ≡ c.args.to = ap cell_of to ∙ cell_of-place_in b.game c.args.to c.requires.target.0 in
    let there = c.requires.guards.blocks m u (pseudo_by b m u stands l) (λ e. false≢true (sym c.if-is_king.false ∙ c.is_king.ensures.1 e)) (move_by b m u stands l).safe in
    false≢true (sym c.if-not-has-2.true ∙ c.has-else-is_king.ensures.1 (subst (Has c.args.guard.blocks) at there)))

pub returns-then-not-has-3 : goal.returns-then-not-has-3
returns-then-not-has-3 c = λ m from to named. so (
    let b = c.args.board.now in
    let g = c.requires.guards in
    let i = c.args.to in
    let out = not-true c.args.guard.checked c.if-not-guard.true in
    free_lawful b c.args.unit (place_in c.args.from) (place_in c.args.guard.king) c.requires.position c.requires.cell.on_board c.requires.stands c.requires.owner (λ e. false≢true (sym c.if-is_king.false ∙ c.is_king.ensures.1 e))
    g.cell.on_board g.king (λ check. false≢true (sym out ∙ g.checked.1 check)) (λ pin. false≢true (sym c.if-not-has-3.true ∙ c.has-then-not-guard.ensures.1 (g.pins out c.args.from c.requires.cell pin)))
    i c.requires.target (λ there. false≢true (sym c.if-has_king.false ∙ c.has_king.ensures.1 there)) m from to named)

pub moved-requires : goal.moved-requires
moved-requires c =
    let b = c.args.board.now in
    let i = c.args.to in
    let q = c.queening-m in
    pseudo_named b q.result c.args.unit (place_in c.args.from) i c.requires.cell.on_board c.requires.stands c.requires.owner c.requires.target
    (λ there. false≢true (sym c.if-has_king.false ∙ c.has_king.ensures.1 there))
    (q.ensures.from ∙ c.square_in.ensures) (q.ensures.to ∙ c.square_in-2.ensures) (subst (λ g. IsNamed g c.args.unit q.result) c.game.ensures.value q.ensures.named)

pub returns : goal.returns
returns c = λ m from to named.
    let b = c.args.board.now in
    let u = c.args.unit in
    let q = c.queening-m.result in
    let from_q : q.from ≡ place_in c.args.from = c.queening-m.ensures.from ∙ c.square_in.ensures in
    let to_q : q.to ≡ place_in c.args.to = c.queening-m.ensures.to ∙ c.square_in-2.ensures in
    let pseudo : IsPseudoLegal b q u = moved-requires c.before.before.before in
    let stands : unit_at b q.from ≡ Some u = ap (unit_at b) from_q ∙ c.requires.stands in
    let lawful = lawful_from b q u c.moved.result u.side c.is_checked.result pseudo c.moved.ensures c.requires.owner c.is_checked.ensures in (
      λ yes. lawful_too b q m u c.requires.position stands (from ∙ sym from_q) (to ∙ sym to_q) named (lawful.0 yes),
      λ l. lawful.1 (lawful_too b m q u c.requires.position (ap (unit_at b) from ∙ c.requires.stands) (from_q ∙ sym from) (to_q ∙ sym to) (record { named = pseudo.named; allowed = pseudo.allowed }) l),
    )
