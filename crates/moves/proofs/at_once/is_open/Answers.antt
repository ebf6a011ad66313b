use Rattle.moves.proofs.Common.{◌∙◌, MatchOption, sym, ap, subst, other_side, Guards, IsInCheck, false≢true, unit_at, place_in, ◌≡◌, ℕ, Option, Some, None, refl, PlainBoard, Ply, Man, Place, IsOnBoard, IsTarget, IsNamed, IsPseudoLegal}
use Rattle.moves.proofs.SafeCells.{lawful_calm, lawful_named, pseudo_named}
use Rattle.moves.proofs.AtOnce.{pseudo_by, takes_no_king}
use Rattle.moves.specs.declared.board_list.Guard.{Guard}
use Rattle.moves.proofs.at_once.is_open.Goals as goal

pub returns-in-Some-clause-pseudo : goal.returns-in-Some-clause-pseudo
returns-in-Some-clause-pseudo c = λ yes m from to named.
    let b = c.args.board.now in
    pseudo_by b m c.args.unit (ap (unit_at b) from ∙ c.requires.stands) ((c.may_go.ensures m from to named).0 yes)

pub returns-in-Some-clause-none : goal.returns-in-Some-clause-none
returns-in-Some-clause-none c = λ no m from to l.
    let b = c.args.board.now in
    false≢true (sym no ∙ (c.may_go.ensures m from to (lawful_named b m c.args.unit (ap (unit_at b) from ∙ c.requires.stands) l)).1 l)

-- where there is no guard, no king is taken
unguarded : (b : PlainBoard) (guard : Option Guard) (m : Ply) (u : Man) (s : Place) (i : ℕ) → guard ≡ None → MatchOption guard (IsInCheck b (other_side b.mover) → ⊥) (Guards b) → IsOnBoard b.game s → unit_at b s ≡ Some u → u.side ≡ b.mover → IsTarget b u s i → m.from ≡ s → m.to ≡ place_in i → IsNamed b.game u m → IsPseudoLegal b m u
unguarded b guard m u s i none guards on stands owner target =
    let safe = subst (λ o. MatchOption o (IsInCheck b (other_side b.mover) → ⊥) (Guards b)) none guards in
    pseudo_named b m u s i on stands owner target (takes_no_king b u s (place_in i) (unit_at b (place_in i)) refl safe on target.0.on_board stands owner target.1)

pub returns-then-not-is_king-clause-pseudo : goal.returns-then-not-is_king-clause-pseudo
returns-then-not-is_king-clause-pseudo c = λ _ m. unguarded c.args.board.now c.args.quest.guard m c.args.unit (place_in c.args.from) c.args.to c.in-None.is c.requires.seeks.guards c.requires.cell.on_board c.requires.stands c.requires.owner c.requires.target

pub returns-else-not-is_king-clause-pseudo : goal.returns-else-not-is_king-clause-pseudo
returns-else-not-is_king-clause-pseudo c = λ _ m. unguarded c.args.board.now c.args.quest.guard m c.args.unit (place_in c.args.from) c.args.to c.in-None.is c.requires.seeks.guards c.requires.cell.on_board c.requires.stands c.requires.owner c.requires.target

pub returns-else-not-is_king-clause-none : goal.returns-else-not-is_king-clause-none
returns-else-not-is_king-clause-none c = λ no m from to l.
    let b = c.args.board.now in
    false≢true (sym no ∙ c.is_calm.ensures.1 (lawful_calm b c.args.unit (place_in c.args.from) c.args.to c.requires.position (c.is_king.ensures.0 c.if-not-is_king.false) c.requires.owner c.requires.stands m from to l))
