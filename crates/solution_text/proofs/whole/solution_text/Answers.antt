use Rattle.std.proofs.Common.{All, length, ◌++◌, ◌∙◌, ap, subst, sym, string_bytes}
use Rattle.solution_text.proofs.Common.{IfOk-weaker, IsKeyPlay, AreTexts, IsKeyText, headline}
use Rattle.solution_text.proofs.Asked.{where_asked}
use Rattle.solution_text.proofs.whole.solution_text.Goals as goal

pub texts-requires : goal.texts-requires
texts-requires g c =
    let plies = c.args.solution.now.plies in
    λ i d less. (plies, subst (All (IsKeyPlay c.args.notation.goal c.args.board.now plies)) (sym c.as_slice.ensures.value) c.requires.1.keys.each i d less)

pub set_play_if_asked-requires : goal.set_play_if_asked-requires
set_play_if_asked-requires g c = (c.args.solution.now.plies, where_asked _ _ (λ list play. play) c.requires.0.set_play c.args.solution.now.set_play c.requires.1.set_play)

pub tries_if_asked-requires : goal.tries_if_asked-requires
tries_if_asked-requires g c = (c.args.solution.now.plies, where_asked _ _ (λ list lists. lists.each) c.requires.0.tries c.args.solution.now.tries c.requires.1.tries)

pub returns : goal.returns
returns g c =
    let keys = subst (λ xs. AreTexts (IsKeyText c.args.notation c.args.board.now) xs (string_bytes c.in_ok-keys.keys)) c.as_slice.ensures.value c.in_ok-keys.ensures in
    let count = c.len.ensures ∙ sym c.as_slice.ensures.len ∙ ap (length {A = _}) c.as_slice.ensures.value in
    let head = c.in_ok-head.ensures ∙ ap (headline c.args.notation.goal c.args.sooner c.args.solution.now.plies) count in
    IfOk-weaker c.format.result _ _ (λ text spelled. (
      string_bytes c.in_ok-set_play.set_play,
      c.in_ok-set_play.ensures,
      string_bytes c.in_ok-tries.tries,
      c.in_ok-tries.ensures,
      string_bytes c.in_ok-keys.keys,
      keys,
      spelled ∙ ap (λ h. h ++ (string_bytes c.in_ok-set_play.set_play ++ (string_bytes c.in_ok-tries.tries ++ string_bytes c.in_ok-keys.keys))) head,
    )) c.format.ensures.ok
