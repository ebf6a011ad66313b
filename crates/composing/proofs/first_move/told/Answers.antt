use Rattle.std.proofs.Common.{◌≡◌, ℕ, List, Some, ap, slice_get, subst, sym, vec_items}
use Rattle.rules.specs.Squares.{Ply}
use Rattle.solution_text.specs.WholeText.{IsFirstSolution}
use Rattle.composing.proofs.first_move.told.Goals as goal

pub returns-in-Ok : goal.returns-in-Ok
returns-in-Ok c =
    let r = c.args.root.now in
    subst (λ (text : List ℕ). (m : Ply) × (slice_get r.moves.items c.args.job ≡ Some m) × IsFirstSolution c.args.symbols r.goal r.board m text)
    (sym (ap vec_items c.into_bytes.ensures.value)) c.in-Ok.ensures.solution
