use Rattle.moves.proofs.Common.{rules, ◌≡◌, ℕ, IsTrue, Bool, true, false, refl, sym, inl, inr, cases_Bool, Ply, cell_of, place_in, Has, Attains, place_in-cell_of, IsNumbered-lawful}
use Rattle.moves.proofs.AtOnce.{forced_by, not_forced}
use Rattle.moves.proofs.Gathering.{own_left}
use Rattle.moves.proofs.at_once.reaches_at_once.Goals as goal

pub returns : goal.returns
returns c =
    let b = c.args.board.now in
    let aim = c.args.goal in (
      λ found.
          let (i, there, told) = c.any_cell.ensures.found found in
          let attains : IsTrue true → (m : Ply) × Attains aim b m = search rules in
          let (m, w) = attains refl in
          forced_by aim b m w,
      λ f. elim (cases_Bool c.any_cell.result) [
        | inl found ↦ found
        | inr none ↦ absurd (not_forced aim b (λ m w.
            let fails : (i : ℕ) → Has c.own.result i → (r : Bool) × (false ≡ r) × (r ≡ false → (n : Ply) → n.from ≡ place_in i → Attains aim b n → ⊥) = λ i there. let told = c.any_cell.ensures.none none i there in search rules in
            let (r, same, tells) = fails (cell_of m.from) ((c.own.ensures.cells (cell_of m.from)).1 (own_left b m (w.next, w.move))) in
            tells (sym same) m (sym (place_in-cell_of b.game m.from (IsNumbered-lawful b m (w.next, w.move)).from)) w) f)
      ],
    )
