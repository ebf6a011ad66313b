use Rattle.std.proofs.Common.{length, sym, ap, subst, ◌∙◌, ◌++◌, string_bytes}
use Rattle.solution_text.proofs.Common.{Goal, IsFewest, ListsContinuations, headline}
use Rattle.solution_text.proofs.beginning.beginning_of.Goals as goal

pub returns-clause-goes : goal.returns-clause-goes
returns-clause-goes g c =
    g.met.D.Decider.goes_on _ _ _ (g.met.D.Decider.goes_on _ _ _ c.continuations_of.ensures.goes c.whole_set_play.ensures.goes) c.whole_tries.ensures.goes

pub returns-clause-beginning : goal.returns-clause-beginning
returns-clause-beginning g c =
    let r = c.args.root.now in
    let items = c.in_ok-keys.keys.items in
    let same = sym c.requires.goal in (
      subst (λ (x : Goal). IsFewest x r.board r.limit) same c.requires.fewest,
      subst (λ (x : Goal). ListsContinuations x r.board r.limit items) same c.in_ok-keys.ensures.moves,
      string_bytes c.in_ok-set_play.set_play,
      c.in_ok-set_play.ensures.set_play,
      string_bytes c.in_ok-tries.tries,
      c.in_ok-tries.ensures.tries,
      c.in_ok-text.ensures.ok ∙ ap (λ h. h ++ (string_bytes c.in_ok-set_play.set_play ++ string_bytes c.in_ok-tries.tries))
          (c.in_ok-head.ensures ∙ ap (headline r.goal c.args.extras.sooner r.limit) (c.len.ensures ∙ c.in_ok-keys.keys.ok.0) ∙ ap (λ (x : Goal). headline x c.args.extras.sooner r.limit (length items)) same),
    )
