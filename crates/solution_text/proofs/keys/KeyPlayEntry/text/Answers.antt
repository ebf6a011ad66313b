use Rattle.std.proofs.Common.{All, ◌-◌, subst, sym, string_bytes}
use Rattle.solution_text.proofs.Common.{IfOk-weaker, one_after, AreThreats, IsVariation, AreTexts, IsVariationText}
use Rattle.solution_text.proofs.keys.KeyPlayEntry.text.Goals as goal

pub threats_text-requires : goal.threats_text-requires
threats_text-requires g c =
    let key = c.args.self.now in
    let play = c.requires.1 in
    let same = one_after c.args.board.now key.first play.after c.after-next.result play.move c.after-next.ensures in
    (c.requires.0 - 2, subst (λ b. AreThreats c.args.notation.goal b (c.requires.0 - 2) key.threats) same play.threats)

pub texts-requires : goal.texts-requires
texts-requires g c =
    let key = c.args.self.now in
    let play = c.requires.1 in
    let same = one_after c.args.board.now key.first play.after c.after-next.result play.move c.after-next.ensures in
    subst (All (IsVariation c.args.notation.goal c.after-next.result)) (sym c.as_slice.ensures.value) (subst (λ b. All (IsVariation c.args.notation.goal b) key.variations.items) same play.variations)

pub returns : goal.returns
returns g c =
    let variations = subst (λ xs. AreTexts (IsVariationText c.args.notation c.after-next.result) xs (string_bytes c.in_ok-variations.variations)) c.as_slice.ensures.value c.in_ok-variations.ensures in
    IfOk-weaker c.format.result _ _ (λ text spelled. (c.after-next.result, c.after-next.ensures, c.name-name.result, c.name-name.ensures, string_bytes c.in_ok-threats.threats, c.in_ok-threats.ensures, string_bytes c.in_ok-variations.variations, variations, spelled)) c.format.ensures.ok
