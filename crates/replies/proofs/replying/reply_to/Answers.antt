use Rattle.std.proofs.Common.{refl, rules, Ok, vec_items, []}
use Rattle.refusals.specs.Outcome.{IsSoundText}
use Rattle.replies.specs.Output.{ShowsCommand}
use Rattle.command_line.specs.declared.line.Action.TheVariants.{Check}
use Rattle.replies.proofs.ReplyLemmas.{fault_gives, gives_reply, gives_unread, reads_none}
use Rattle.refusals.proofs.OutcomeLemmas.{refusal_gives}
use Rattle.replies.proofs.replying.reply_to.Goals as goal

pub returns-in_err-position-clause-given : goal.returns-in_err-position-clause-given
returns-in_err-position-clause-given g c = fault_gives _ c.args.line.now _ _ c.in_err-position.field-0.0 c.in_err-position.ensures.fault c.from_residual.ensures

pub returns-in-Check-clause-given : goal.returns-in-Check-clause-given
returns-in-Check-clause-given g c =
    let sound : IsSoundText c.args.line.now.fen.now c.in_ok-position.position = search rules in
    gives_reply _ c.args.line.now _ c.in_ok-position.position (Check c.in-Check.goal) _ sound c.in-Check.is c.check_text.ensures.shown

pub returns-in_err-quiet-clause-given : goal.returns-in_err-quiet-clause-given
returns-in_err-quiet-clause-given g c =
    let sound : IsSoundText c.args.line.now.fen.now c.in_ok-position.position = search rules in
    let action = c.args.line.now.action in
    let known = g.S.Source.remaining c.args.reader.now in
    gives_unread vec_items c.args.line.now known c.in_ok-position.position action c.from_residual-in_err-quiet.result sound refl
    (reads_none action known c.in_default.not-Check)
    (refusal_gives vec_items (ShowsCommand c.in_ok-position.position action []) c.from_residual-in_err-quiet.result c.in_err-quiet.field-0.0
    c.in_err-quiet.ensures c.from_residual-in_err-quiet.ensures)

pub returns-in_default-watch-clause-given : goal.returns-in_default-watch-clause-given
returns-in_default-watch-clause-given g c =
    let sound : IsSoundText c.args.line.now.fen.now c.in_ok-position.position = search rules in
    let action = c.args.line.now.action in
    let known = g.S.Source.remaining c.args.reader.now in
    gives_unread vec_items c.args.line.now known c.in_ok-position.position action (Ok c.in_ok-quiet.quiet) sound refl
    (reads_none action known c.in_default.not-Check) c.in_ok-quiet.ensures

pub returns-in_err-told-clause-given : goal.returns-in_err-told-clause-given
returns-in_err-told-clause-given g c =
    let sound : IsSoundText c.args.line.now.fen.now c.in_ok-position.position = search rules in
    let action = c.args.line.now.action in
    let known = g.S.Source.remaining c.args.reader.now in
    gives_unread vec_items c.args.line.now known c.in_ok-position.position action c.from_residual-in_err-told.result sound refl
    (reads_none action known c.in_default.not-Check)
    (refusal_gives vec_items (ShowsCommand c.in_ok-position.position action []) c.from_residual-in_err-told.result c.in_err-told.field-0.0
    c.in_err-told.ensures c.from_residual-in_err-told.ensures)

pub returns-clause-given : goal.returns-clause-given
returns-clause-given g c =
    let sound : IsSoundText c.args.line.now.fen.now c.in_ok-position.position = search rules in
    let action = c.args.line.now.action in
    let known = g.S.Source.remaining c.args.reader.now in
    gives_unread vec_items c.args.line.now known c.in_ok-position.position action (Ok c.in_ok-told.told) sound refl
    (reads_none action known c.in_default.not-Check) c.in_ok-told.ensures
