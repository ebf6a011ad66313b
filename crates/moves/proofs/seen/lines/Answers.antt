use Rattle.moves.proofs.Common.{ℕ, ◌↔◌, ◌⊎◌, inl, inr, subst, bit_or, Game, Way, North, South, East, West, NorthEast, SouthWest, NorthWest, SouthEast, Has, Has-or, IsOnRay, IsOnStraight, IsOnSlanted, via}
use Rattle.moves.proofs.Seeing.{wazir_ways, ferz_ways}
use Rattle.moves.proofs.seen.lines.Goals as goal

-- a way is one of the lines
on_lines : (g : Game) (i j : ℕ) → (IsOnStraight g i j ⊎ IsOnSlanted g i j) ↔ ((way : Way) × IsOnRay g way i j)
on_lines g i j = (
  λ w. elim w [
    | inl s ↦ let r = (wazir_ways (λ (way : Way). IsOnRay g way i j)).0 s in (r.way, r.holds)
    | inr s ↦ let r = (ferz_ways (λ (way : Way). IsOnRay g way i j)).0 s in (r.way, r.holds)
  ],
  λ w. line w.0 w.1,
)
  where
    line : (way : Way) → IsOnRay g way i j → IsOnStraight g i j ⊎ IsOnSlanted g i j
    line North r = inl (inl r)
    line South r = inl (inr (inl r))
    line East r = inl (inr (inr (inl r)))
    line West r = inl (inr (inr (inr r)))
    line NorthEast r = inr (inl r)
    line SouthWest r = inr (inr (inl r))
    line NorthWest r = inr (inr (inr (inl r)))
    line SouthEast r = inr (inr (inr (inr r)))

pub returns : goal.returns
returns c = λ i. subst (λ g. Has (bit_or c.straight_lines.result c.slanted_lines.result) i ↔ ((way : Way) × IsOnRay g way c.args.cell i)) c.game-game.ensures.value (via (Has-or c.straight_lines.result c.slanted_lines.result i) (via (
  λ w. elim w [ inl s ↦ inl ((c.straight_lines.ensures i).0 s) | inr s ↦ inr ((c.slanted_lines.ensures i).0 s) ],
  λ w. elim w [ inl s ↦ inl ((c.straight_lines.ensures i).1 s) | inr s ↦ inr ((c.slanted_lines.ensures i).1 s) ],
) (on_lines c.game-game.result c.args.cell i)))
