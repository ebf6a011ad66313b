use Rattle.std.proofs.Common.{All, subst, sym, arith, string_bytes}
use Rattle.solution_text.proofs.Common.{IfOk-weaker, IsLawful, IsBestLine, IsLineText, AreDualsText}
use Rattle.solution_text.proofs.BestLine.{continuations_lawful, tells_at}
use Rattle.solution_text.proofs.variations.VariationEntry.text.Goals as goal

pub line_text-requires : goal.line_text-requires
line_text-requires g c =
    let v = c.args.self.now in
    let tells = tells_at c.args.notation.goal c.args.board.now c.after-next.result v c.requires c.after-next.ensures in
    (v.plies, omega arith, subst (IsBestLine c.args.notation.goal c.after-next.result v.plies) (sym c.as_slice.ensures.value) tells.line)

pub duals_text-requires : goal.duals_text-requires
duals_text-requires g c =
    let v = c.args.self.now in
    let tells = tells_at c.args.notation.goal c.args.board.now c.after-next.result v c.requires c.after-next.ensures in
    subst (All (IsLawful c.after-next.result)) (sym c.as_slice-2.ensures.value) (continuations_lawful c.args.notation.goal c.after-next.result v.plies v.moves.items tells.moves)

pub returns : goal.returns
returns g c =
    let line = subst (λ l. IsLineText c.args.notation 2 c.after-next.result l (string_bytes c.in_ok-line.line)) c.as_slice.ensures.value c.in_ok-line.ensures in
    let duals = subst (λ l. AreDualsText c.args.notation 2 c.after-next.result l (string_bytes c.in_ok-duals.duals)) c.as_slice-2.ensures.value c.in_ok-duals.ensures in
    IfOk-weaker c.format.result _ _ (λ text spelled. (c.after-next.result, c.after-next.ensures, c.name-reply.result, c.name-reply.ensures, string_bytes c.in_ok-line.line, line, string_bytes c.in_ok-duals.duals, duals, spelled)) c.format.ensures.ok
