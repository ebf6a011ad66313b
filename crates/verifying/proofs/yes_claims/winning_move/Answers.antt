use Rattle.std.proofs.Common.{◌∷◌, ◌∙◌, ap, arith}
use Rattle.verifying.specs.declared.words.Word.{Word}
use Rattle.verifying.proofs.Failing.{lawful_at}
use Rattle.verifying.proofs.Making.{not_there, wins_not, wins_with}
use Rattle.verifying.proofs.yes_claims.winning_move.Goals as goal

pub after-board-requires : goal.after-board-requires
after-board-requires g c = lawful_at c.args.claim.now.position c.in-Place.place c.in-Some-move_at.m c.in-Some-move_at.ensures

pub returns-in_default-move_at : goal.returns-in_default-move_at
returns-in_default-move_at g c =
    not_there c.args.goal c.args.claim.now c.args.words.now c.in-Some.others.now c.args.claims.now c.in-Place.place (c.in-Some.ensures.cases.0 ∙ ap (λ (w : Word). w ∷ c.in-Some.others.now) c.in-Place.is) c.in_default-move_at.ensures

pub returns-then-not-branch : goal.returns-then-not-branch
returns-then-not-branch g c =
    wins_not c.args.goal c.args.claim.now c.args.words.now c.in-Some.others.now c.args.claims.now c.in-Place.place c.in-Some-move_at.m c.after-board.result (c.in-Some.ensures.cases.0 ∙ ap (λ (w : Word). w ∷ c.in-Some.others.now) c.in-Place.is)
    c.in-Some-move_at.ensures c.after-board.ensures _ c.wins_after.new.claims c.if-not-branch.true c.in_ok-wins_after.ensures

pub returns : goal.returns
returns g c =
    wins_with c.args.goal c.args.claim.now c.args.words.now c.in-Some.others.now c.args.claims.now c.in-Place.place c.in-Some-move_at.m c.after-board.result (c.in-Some.ensures.cases.0 ∙ ap (λ (w : Word). w ∷ c.in-Some.others.now) c.in-Place.is)
    c.in-Some-move_at.ensures c.after-board.ensures _ c.wins_after.new.claims (omega (arith, c.if-claim-eq0.false)) c.if-not-branch.false c.in_ok-wins_after.ensures
