-- Where a line may end.
use Rattle.std.proofs.Common.{◌≡◌, ◌↔◌, Bool, true, false, not, ◌==◌, IsTrue, List, [], ◌∷◌, length, refl, sym, ◌∙◌, arith}
use Rattle.wintree.proofs.Common.{false≢true, ne_eqb, PlainBoard, Ply, IsInCheck, IsLawful, ListsLawful, Goal, End, EndsAt}
use Rattle.rules.specs.Moves.{IsMated, IsStalemated}
use Rattle.rules.specs.declared.goal.Goal.TheVariants as goals
use Rattle.wintree.specs.declared.tree.End.TheVariants as ending
use Rattle.wintree.proofs.Listings.{among_first}

no_lawful : (goal : Goal) (b : PlainBoard) (end : End) → EndsAt goal b end → (m : Ply) → IsLawful b m → ⊥
no_lawful goal b ending.Mate e = e.no_move
no_lawful goals.Mate b ending.Stale e = absurd e
no_lawful goals.MateOrStale b ending.Stale e = e.no_move

-- no line ends where a move is lawful
pub goes_on : (goal : Goal) (b : PlainBoard) (end : End) (moves : List Ply) (r : Bool) → ListsLawful b moves → r ≡ (length moves == 0) → r ≡ false → EndsAt goal b end → ⊥
goes_on goal b end [] r lists is e here = cc
goes_on goal b end (m ∷ moves) r lists is e here = no_lawful goal b end here m ((lists.exact m).0 (among_first m moves))

-- where none is, what check tells
module _ (b : PlainBoard) (moves : List Ply) (r : Bool) (lists : ListsLawful b moves) (is : r ≡ (length moves == 0)) (e : r ≡ true) where
  over : (m : Ply) → IsLawful b m → ⊥
  over m lawful =
      let among = (lists.exact m).1 lawful in
      let some : (length moves == 0) ≡ false = ne_eqb (length moves) 0 (λ none. absurd (omega (arith, among.1))) in
      false≢true (sym some ∙ sym is ∙ e)

  pub mated : (checked : Bool) → IsTrue checked ↔ IsInCheck b b.mover → IsTrue checked ↔ IsMated b
  mated checked tells = (λ c. record { check = tells.0 c; no_move = over }, λ mate. tells.1 mate.check)

  pub stalemated : (checked : Bool) → IsTrue checked ↔ IsInCheck b b.mover → IsTrue (not checked) ↔ IsStalemated b
  stalemated true tells = (λ no. absurd (false≢true no), λ stale. absurd (stale.no_check (tells.0 refl)))
  stalemated false tells = (λ _. record { no_check = λ check. false≢true (tells.1 check); no_move = over }, λ _. refl)
