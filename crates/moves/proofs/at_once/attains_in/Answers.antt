use Rattle.moves.proofs.Common.{rules, ◌≡◌, ℕ, IsTrue, Bool, true, false, refl, sym, Ply, cell_of, place_in, Has, Attains, place_in-cell_of, IsNumbered-lawful}
use Rattle.moves.proofs.at_once.attains_in.Goals as goal

pub returns-clause-found : goal.returns-clause-found
returns-clause-found c = λ found.
    let (i, there, told) = c.any_cell.ensures.found found in
    let attains : IsTrue true → (m : Ply) × Attains c.args.quest.goal c.args.board.now m = search rules in
    attains refl

pub returns-clause-none : goal.returns-clause-none
returns-clause-none c = λ none m from w.
    let b = c.args.board.now in
    let fails : (i : ℕ) → Has c.hopeful.result i → (r : Bool) × (false ≡ r) × (r ≡ false → (n : Ply) → n.from ≡ place_in c.args.cell → n.to ≡ place_in i → Attains c.args.quest.goal b n → ⊥) =
    λ i there. let told = c.any_cell.ensures.none none i there in search rules in
    let (r, same, tells) = fails (cell_of m.to) (c.hopeful.ensures.all m from w) in
    tells (sym same) m from (sym (place_in-cell_of b.game m.to (IsNumbered-lawful b m (w.next, w.move)).to)) w
