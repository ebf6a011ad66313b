use Rattle.moves.proofs.Common.{◌≡◌, ◌↔◌, ℕ, arith, rules, sym, subst, ap, ◌∙◌, inl, inr, bit_and, cases_eq, IsPosition, IsOnBoard, unit_at, place_in, IsCell, Has, Has-zero, Shows, Crowned}
use Rattle.moves.proofs.Guarding.{no_kingless}
use Rattle.moves.proofs.Kings.{king_of}
use Rattle.moves.proofs.Owned.{kings-are}
use Rattle.moves.proofs.packed.Board.king.Goals as goal

kings : (c : goal.After-self) (i : ℕ) → Has (bit_and c.of_side.result c.self.inside.sets.kings) i ↔ (IsCell c.args.self.now.game i × (unit_at c.args.self.now (place_in i) ≡ king_of c.args.side))
kings c = kings-are c.args.self.now c.args.side _ _ c.of_side.ensures (subst (λ b. Shows b c.self.inside.sets) c.self.view_is c.self.invariant.shows Crowned)

pub lowest-requires : goal.lowest-requires
lowest-requires c = elim (cases_eq (bit_and c.of_side.result c.self.inside.sets.kings) 0) [
  | inl none ↦ absurd (no_kingless c.args.self.now (subst IsPosition c.self.view_is c.self.invariant.packed.position) c.args.side (λ i cell stands. Has-zero i (subst (λ n. Has n i) none ((kings c i).1 (cell, stands)))))
  | inr some ↦ omega (arith, some)
]

there : (c : goal.After-lowest) → IsCell c.args.self.now.game c.lowest.result × (unit_at c.args.self.now (place_in c.lowest.result) ≡ king_of c.args.side)
there c = (kings c.before c.lowest.result).0 c.lowest.ensures.there

pub square_in-requires : goal.square_in-requires
square_in-requires c = let cell = (there c).0 in record { above = cell.above; file = search rules; rank = search rules }

pub returns-clause-on_board : goal.returns-clause-on_board
returns-clause-on_board c = subst (IsOnBoard c.args.self.now.game) (sym c.square_in.ensures) (there c.before).0.on_board

pub returns-clause-king : goal.returns-clause-king
returns-clause-king c = ap (unit_at c.args.self.now) c.square_in.ensures ∙ (there c.before).1
