use Rattle.moves.proofs.Common.{rules, ◌≡◌, ℕ, IsTrue, Bool, true, false, refl, sym, inl, inr, cases_Bool, Ply, IsLawful, cell_of, place_in, Has, place_in-cell_of, IsNumbered-lawful}
use Rattle.moves.proofs.Gathering.{own_left}
use Rattle.moves.proofs.any_move.has_move.Goals as goal

pub returns : goal.returns
returns c =
    let b = c.args.board.now in (
      λ found.
          let (i, there, told) = c.any_cell.ensures.found found in
          let moves : IsTrue true → (m : Ply) × IsLawful b m = search rules in
          moves refl,
      λ (m, l). elim (cases_Bool c.any_cell.result) [
        | inl found ↦ found
        | inr none ↦
            let stays : (i : ℕ) → Has c.own.result i → (r : Bool) × (false ≡ r) × (r ≡ false → (n : Ply) → n.from ≡ place_in i → IsLawful b n → ⊥) = λ i there. let told = c.any_cell.ensures.none none i there in search rules in
            let (r, same, tells) = stays (cell_of m.from) ((c.own.ensures.cells (cell_of m.from)).1 (own_left b m l)) in
            absurd (tells (sym same) m (sym (place_in-cell_of b.game m.from (IsNumbered-lawful b m l).from)) l)
      ],
    )
