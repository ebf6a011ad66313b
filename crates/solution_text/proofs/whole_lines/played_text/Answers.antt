use Rattle.std.proofs.Common.{◌≡◌, ℕ, ◌-◌, [], sym, subst, arith, string_bytes}
use Rattle.solution_text.proofs.Common.{Goal, Ply, IsLawful, IsMet, IsVirtualPlay, IsPlayText, key_reaches, key_meets}
use Rattle.rules.specs.Forces.{IsReached}
use Rattle.solution_text.proofs.Told.{all_played}
use Rattle.solution_text.proofs.whole_lines.played_text.Goals as goal

pub play_text-requires-clause-over : goal.play_text-requires-clause-over
play_text-requires-clause-over g c =
    let r = c.args.root.now in
    subst (λ (x : Goal). ((m : Ply) → IsLawful c.after-next.result m → ⊥) → IsReached x c.after-next.result) (sym c.requires.goal)
    (key_reaches r.goal r.board c.args.key c.after-next.result c.after-next.ensures r.limit c.requires.key)

pub returns-clause-key : goal.returns-clause-key
returns-clause-key g c =
    let r = c.args.root.now in
    let notation = c.args.teller.now.notation in
    let q = c.after-next.result in
    let text = string_bytes c.in_ok-play.play in
    let (then, is, told) = c.in_ok-play.ensures.play in
    let left : c.saturating_sub.result ≡ r.limit - 2 = omega (arith, c.saturating_sub.ensures) in
    let met = subst (λ (x : Goal). (m : Ply) → IsLawful q m → IsMet x q (r.limit - 2) m) (sym c.requires.goal) (key_meets r.goal r.board c.args.key q c.after-next.ensures r.limit c.requires.key) in
    let virtual = subst (λ (k : ℕ). IsVirtualPlay notation.goal q k then) left is in
    let lines = subst (λ (k : ℕ). IsPlayText notation k c.args.teller.now.set q [] then text) c.requires.number told in (
      then,
      (q, c.after-next.ensures, all_played notation.goal q (r.limit - 2) then met virtual),
      (q, c.after-next.ensures, c.name-name.result, c.name-name.ensures, text, lines, c.in_ok-format.ensures.ok),
    )
