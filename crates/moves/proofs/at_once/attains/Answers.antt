use Rattle.moves.proofs.Common.{sym, subst, ◌∙◌, false≢true, PlainBoard, IsInCheck, after, IsReached, not_so, not-is}
use Rattle.moves.proofs.AtOnce.{move_by, next_by}
use Rattle.moves.proofs.SafeCells.{lawful_named, well_named}
use Rattle.moves.proofs.at_once.attains.Goals as goal

pub returns-then-not-is_promoted_well : goal.returns-then-not-is_promoted_well
returns-then-not-is_promoted_well c = not_so (λ w. false≢true (sym c.if-not-is_promoted_well.true ∙ (well_named c.args.board.now c.args.m c.args.unit c.is_promoted_well.result c.game.result c.game.ensures.value c.is_promoted_well.ensures).1 (lawful_named c.args.board.now c.args.m c.args.unit c.requires.stands (w.next, w.move))))

pub moved-next-requires : goal.moved-next-requires
moved-next-requires c = c.requires.pseudo ((well_named c.args.board.now c.args.m c.args.unit c.is_promoted_well.result c.game.result c.game.ensures.value c.is_promoted_well.ensures).0 c.if-not-is_promoted_well.false)

pub returns-then-is_reached : goal.returns-then-is_reached
returns-then-is_reached c =
    let b = c.args.board.now in
    let m = c.args.m in
    let u = c.args.unit in
    let p = c.requires.pseudo ((well_named c.args.board.now c.args.m c.args.unit c.is_promoted_well.result c.game.result c.game.ensures.value c.is_promoted_well.ensures).0 c.if-not-is_promoted_well.false) in
    let next = c.moved-next.result in
    let own = not-is c.is_checked.result c.is_checked.ensures in (
      λ yes. record {
        next = next;
        move = record { unit = u; pseudo = p; leads = c.moved-next.ensures; safe = λ check. own.0 yes (subst (IsInCheck next) (sym p.owner) check) };
        reached = c.is_reached.ensures.0 c.if-is_reached.true;
      },
      λ w. own.1 (λ check. (move_by b m u c.requires.stands (w.next, w.move)).safe (subst (IsInCheck (after b m u)) p.owner (subst (λ (x : PlainBoard). IsInCheck x u.side) c.moved-next.ensures check))),
    )

pub returns-else-is_reached : goal.returns-else-is_reached
returns-else-is_reached c = (
  λ yes. absurd (false≢true (sym c.if-is_reached.false ∙ yes)),
  λ w. absurd (false≢true (sym c.if-is_reached.false ∙ c.is_reached.ensures.1 (subst (IsReached c.args.quest.goal) (next_by c.args.board.now c.args.m c.args.unit c.requires.stands w.next w.move ∙ sym c.moved-next.ensures) w.reached))),
)
