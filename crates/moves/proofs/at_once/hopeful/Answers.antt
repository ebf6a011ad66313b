use Rattle.moves.proofs.Common.{◌≡◌, Some, sym, ap, subst, ◌∙◌, PlainBoard, Ply, Man, Goal, unit_at, IsLawful, Attains, IsInCheck, IsReached, after, cell_of, IsTarget}
use Rattle.moves.proofs.AtOnce.{pseudo_by, next_by, no_move_at}
use Rattle.moves.proofs.Checking.{IsTarget-move}
use Rattle.moves.proofs.at_once.hopeful.Goals as goal

-- what attains the goal leaves no lawful move
no_move_after : (goal : Goal) (b : PlainBoard) (m : Ply) (u : Man) → unit_at b m.from ≡ Some u → Attains goal b m → (n : Ply) → IsLawful (after b m u) n → ⊥
no_move_after goal b m u stands w n lawful = no_move_at goal w.next w.reached n (subst (λ q. IsLawful q n) (sym (next_by b m u stands w.next w.move)) lawful)

pub returns-in-Mate-Some-clause-all : goal.returns-in-Mate-Some-clause-all
returns-in-Mate-Some-clause-all c = λ m at w.
    let b = c.args.board.now in
    let u = c.args.unit in
    let stands : unit_at b m.from ≡ Some u = ap (unit_at b) at ∙ c.requires.stands in
    let p = pseudo_by b m u stands (w.next, w.move) in
    let mated = subst (λ (g : Goal). IsReached g w.next) c.in-Mate-Some.is-0 w.reached in
    let reached = c.checking.ensures.all m p at (subst (λ (q : PlainBoard). IsInCheck q q.mover) (next_by b m u stands w.next w.move) mated.check) in
    c.held.ensures.all m at p reached (no_move_after c.args.quest.goal b m u stands w)

pub returns-in_default-clause-all : goal.returns-in_default-clause-all
returns-in_default-clause-all c = λ m at w.
    let b = c.args.board.now in
    let u = c.args.unit in
    let stands : unit_at b m.from ≡ Some u = ap (unit_at b) at ∙ c.requires.stands in
    (c.targets-in_default.ensures (cell_of m.to)).1 (subst (λ s. IsTarget b u s (cell_of m.to)) at (IsTarget-move b m u (pseudo_by b m u stands (w.next, w.move))))

pub returns-in_default-Some-clause-all : goal.returns-in_default-Some-clause-all
returns-in_default-Some-clause-all c = λ m at w.
    let b = c.args.board.now in
    let u = c.args.unit in
    let stands : unit_at b m.from ≡ Some u = ap (unit_at b) at ∙ c.requires.stands in
    let p = pseudo_by b m u stands (w.next, w.move) in
    let reached = (c.targets.ensures (cell_of m.to)).1 (subst (λ s. IsTarget b u s (cell_of m.to)) at (IsTarget-move b m u p)) in
    c.held-in_default-Some.ensures.all m at p reached (no_move_after c.args.quest.goal b m u stands w)
