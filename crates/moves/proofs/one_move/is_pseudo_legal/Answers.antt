use Rattle.moves.proofs.Common.{rules, ◌≡◌, ℕ, sym, ap, subst, ◌∙◌, false≢true, PlainBoard, Place, Ply, IsOnBoard, unit_at, IsSomeKing, cell_of, place_in, IsTarget, place_in-cell_of, not_so}
use Rattle.moves.proofs.Checking.{IsTarget-move}
use Rattle.moves.proofs.SafeCells.{pseudo_named, well_named}
use Rattle.moves.proofs.one_move.is_pseudo_legal.Goals as goal

-- the square of a cell
place : (b : PlainBoard) (s t : Place) (i : ℕ) → i ≡ cell_of s → s ≡ t → IsOnBoard b.game t → place_in i ≡ t
place b s t i at same on = ap place_in (at ∙ ap cell_of same) ∙ place_in-cell_of b.game t on

pub returns-then-not-has : goal.returns-then-not-has
returns-then-not-has c = not_so (λ p.
    let b = c.args.board.now in
    let m = c.args.m in
    let u = c.args.unit in
    let from = place b c.m.inside.from m.from c.cell_of.result c.cell_of.ensures.value (ap (λ (x : Ply). x.from) c.m.view_is) c.requires.squares.0 in
    let to : c.cell_of-to.result ≡ cell_of m.to = c.cell_of-to.ensures.value ∙ ap (λ (x : Ply). cell_of x.to) c.m.view_is in
    let target = subst (λ s. IsTarget b u s c.cell_of-to.result) (sym from) (subst (IsTarget b u m.from) (sym to) (IsTarget-move b m u p)) in
    false≢true (sym c.if-not-has.true ∙ c.has.ensures.1 ((c.targets.ensures c.cell_of-to.result).1 target)))

pub returns-then-has_king : goal.returns-then-has_king
returns-then-has_king c = not_so (λ p.
    let b = c.args.board.now in
    let to = place b c.m.inside.to c.args.m.to c.cell_of-to.result c.cell_of-to.ensures.value (ap (λ (x : Ply). x.to) c.m.view_is) c.requires.squares.1 in
    p.no_king (subst (λ x. IsSomeKing (unit_at b x)) to (c.has_king.ensures.0 c.if-has_king.true)))

pub returns : goal.returns
returns c =
    let b = c.args.board.now in
    let m = c.args.m in
    let u = c.args.unit in
    let owner : u.side ≡ b.mover = search rules in
    let from = place b c.m.inside.from m.from c.cell_of.result c.cell_of.ensures.value (ap (λ (x : Ply). x.from) c.m.view_is) c.requires.squares.0 in
    let to = place b c.m.inside.to m.to c.cell_of-to.result c.cell_of-to.ensures.value (ap (λ (x : Ply). x.to) c.m.view_is) c.requires.squares.1 in (
      λ yes. pseudo_named b m u (place_in c.cell_of.result) c.cell_of-to.result (subst (IsOnBoard b.game) (sym from) c.requires.squares.0) (ap (unit_at b) from ∙ c.requires.stands) owner
          ((c.targets.ensures c.cell_of-to.result).0 (c.has.ensures.0 c.if-not-has.false)) (λ there. false≢true (sym c.if-has_king.false ∙ c.has_king.ensures.1 there)) (sym from) (sym to) ((well_named b m u c.is_promoted_well.result c.game.result c.game.ensures.value c.is_promoted_well.ensures).0 yes),
      λ p. (well_named b m u c.is_promoted_well.result c.game.result c.game.ensures.value c.is_promoted_well.ensures).1 (record { named = p.named; allowed = p.allowed }),
    )
