use Rattle.std.proofs.Common.{◌↔◌, inl, inr, refl, subst}
use Rattle.rules.specs.Forces.{Forces}
use Rattle.laws.specs.Turnings.{exchanged, MayTurn}
use Rattle.laws.proofs.Forced.{Forces-turned, Forces-back}
use Rattle.answer_laws.specs.TurnedPlay.{files_mirror, sides_mirror}
use Rattle.answer_laws.proofs.turning.mirror_laws.Goals as goal

pub returns-clause-files : goal.returns-clause-files
returns-clause-files c = λ b d turned wanted attacker n.
    let may : MayTurn files_mirror b = inl (record { straight = refl; ahead = refl }) in
    (Forces-turned n files_mirror wanted attacker b d turned may, Forces-back n files_mirror wanted attacker b d turned may)

pub returns-clause-sides : goal.returns-clause-sides
returns-clause-sides c = λ b d turned wanted attacker n.
    let may : MayTurn sides_mirror b = inl (record { straight = refl; ahead = refl }) in
    (Forces-turned n sides_mirror wanted attacker b d turned may, Forces-back n sides_mirror wanted attacker b d turned may)

pub returns-clause-eight : goal.returns-clause-eight
returns-clause-eight c = λ t b d same none turned wanted attacker n.
    subst (λ x. Forces wanted attacker b n ↔ Forces wanted (exchanged x attacker) d n) same
    (Forces-turned n t wanted attacker b d turned (inr none), Forces-back n t wanted attacker b d turned (inr none))
