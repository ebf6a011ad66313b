use Rattle.moves.proofs.Common.{rules, ◌≡◌, ℕ, ◌↔◌, IsTrue, Bool, true, false, Some, refl, sym, ap, ◌∙◌, false≢true, Ply, unit_at, IsLawful, cell_of, place_in, Has, IsNamed, place_in-cell_of, IsNumbered-lawful}
use Rattle.moves.proofs.SafeCells.{named_move, lawful_named}
use Rattle.moves.proofs.any_move.has_tested_move.Goals as goal

pub returns-clause-found : goal.returns-clause-found
returns-clause-found c = λ found.
    let b = c.args.board.now in
    let s = place_in c.args.from in
    let (i, there, told) = c.any_cell.ensures.found found in
    let goes : (m : Ply) → m.from ≡ s → m.to ≡ place_in i → IsNamed b.game c.args.unit m → IsTrue true ↔ IsLawful b m = search rules in
    let (m, from, to, named) = named_move b.game c.args.unit s (place_in i) in
    (m, (goes m from to named).0 refl)

pub returns-clause-none : goal.returns-clause-none
returns-clause-none c = λ none m from l.
    let b = c.args.board.now in
    let goes : (i : ℕ) → Has c.tried.result i → (r : Bool) × (false ≡ r) × ((n : Ply) → n.from ≡ place_in c.args.from → n.to ≡ place_in i → IsNamed b.game c.args.unit n → IsTrue r ↔ IsLawful b n) =
    λ i there. let told = c.any_cell.ensures.none none i there in search rules in
    let (r, same, tells) = goes (cell_of m.to) (c.tried.ensures.all m from l) in
    let to = sym (place_in-cell_of b.game m.to (IsNumbered-lawful b m l).to) in
    let stands : unit_at b m.from ≡ Some c.args.unit = ap (unit_at b) from ∙ c.requires.stands in
    let passes : IsTrue r = (tells m from to (lawful_named b m c.args.unit stands l)).1 l in
    absurd (false≢true (same ∙ passes))
