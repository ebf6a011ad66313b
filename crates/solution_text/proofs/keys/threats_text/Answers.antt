use Rattle.std.proofs.Common.{All, ◌++◌, ◌∙◌, ap, subst, sym, string_bytes}
use Rattle.solution_text.proofs.Common.{IfOk-weaker, IsLawful, passed, AreThreats, AreTexts, IsNumbered, threat_word, AreThreatsText}
use Rattle.solution_text.proofs.BestLine.{continuations_lawful}
use Rattle.solution_text.proofs.keys.threats_text.Goals as goal

pub numbered_moves-requires : goal.numbered_moves-requires
numbered_moves-requires g c =
    let threats = subst (AreThreats c.args.notation.goal c.args.board.now c.requires.0) c.in-Moves.is c.requires.1 in
    let all = continuations_lawful c.args.notation.goal (passed c.args.board.now) c.in-Moves.plies c.in-Moves.moves.items threats.4 in
    subst (All (IsLawful c.in-Some.passed)) (sym c.as_slice-in-Moves.ensures.value) (subst (λ b. All (IsLawful b) c.in-Moves.moves.items) (sym c.in-Some.ensures.0) all)

pub returns-in_ok-moves-in-Moves : goal.returns-in_ok-moves-in-Moves
returns-in_ok-moves-in-Moves g c =
    let P = IsNumbered c.args.notation c.args.number in
    let here = subst (λ b. AreTexts (P b) c.as_slice-in-Moves.result.now (string_bytes c.in_ok-moves-in-Moves.moves)) c.in-Some.ensures.0 c.in_ok-moves-in-Moves.ensures in
    let listed = subst (λ ms. AreTexts (P (passed c.args.board.now)) ms (string_bytes c.in_ok-moves-in-Moves.moves)) c.as_slice-in-Moves.ensures.value here in
    let word = c.threat_word-word.ensures ∙ ap threat_word c.as_slice.ensures.value in
    IfOk-weaker c.format-in-Moves.result _ _ (λ text spelled. subst (λ threats. AreThreatsText c.args.notation c.args.number c.args.board.now threats (string_bytes text)) (sym c.in-Moves.is)
    (string_bytes c.in_ok-moves-in-Moves.moves, listed, spelled ∙ ap (λ w. w ++ string_bytes c.in_ok-moves-in-Moves.moves) word)) c.format-in-Moves.ensures.ok
