use Rattle.std.proofs.Common.{inl, refl}
use Rattle.laws.specs.Turnings.{MayTurn}
use Rattle.answer_laws.specs.TurnedPlay.{files_mirror, sides_mirror}
use Rattle.answer_laws.proofs.TurnedKeys.{same_plies, keys_turned}
use Rattle.answer_laws.proofs.turned.mirrored_answer_laws.Goals as goal

pub returns-clause-files : goal.returns-clause-files
returns-clause-files c = λ b d turned.
    let may : MayTurn files_mirror b = inl (record { straight = refl; ahead = refl }) in
    (same_plies files_mirror b d turned may, keys_turned files_mirror b d turned may)

pub returns-clause-sides : goal.returns-clause-sides
returns-clause-sides c = λ b d turned.
    let may : MayTurn sides_mirror b = inl (record { straight = refl; ahead = refl }) in
    (same_plies sides_mirror b d turned may, keys_turned sides_mirror b d turned may)
