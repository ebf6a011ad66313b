use Rattle.verifying.proofs.Common.{IfOk-weaker}
use Rattle.verifying.proofs.Failing.{lawful_at}
use Rattle.verifying.proofs.Making.{not_stalemated, no_reply_there, escapes}
use Rattle.verifying.proofs.no_claims.fails.Goals as goal

pub after-requires : goal.after-requires
after-requires g c = lawful_at c.args.board.now c.in-Place.place c.in-Some.reply c.in-Some.ensures

pub returns-else-not-has_lawful_move : goal.returns-else-not-has_lawful_move
returns-else-not-has_lawful_move g c =
    rw c.in-Stalemated.is (not_stalemated c.args.goal c.args.board.now c.args.left c.args.claims.now c.has_lawful_move.result c.has_lawful_move.ensures c.if-not-has_lawful_move.false)

pub returns-in_default-move_at : goal.returns-in_default-move_at
returns-in_default-move_at g c = rw c.in-Place.is (no_reply_there c.args.goal c.args.board.now c.args.left c.args.claims.now c.in-Place.place c.in_default-move_at.ensures)

pub returns-in-Some : goal.returns-in-Some
returns-in-Some g c =
    rw c.in-Place.is (IfOk-weaker c.resists.result _ _
    (λ yes h. escapes c.args.goal c.args.board.now c.args.left c.args.claims.now c.in-Place.place c.in-Some.reply c.after.result yes c.resists.new.claims c.in-Some.ensures c.after.ensures h) c.resists.ensures)
