use Rattle.std.proofs.Common.{rules, refl, vec_items}
use Rattle.refusals.specs.Outcome.{IsSoundText}
use Rattle.replies.proofs.ReplyLemmas.{gives_output}
use Rattle.calls.proofs.one_thread.line_reply.Goals as goal

pub returns : goal.returns
returns g c =
    let sound : IsSoundText c.args.fen.now c.in_ok-position.position = search rules in
    gives_output vec_items (record { fen = c.args.fen; action = c.args.action }) c.args.input.now c.in_ok-position.position
    c.args.action c.shown_at.result sound refl c.shown_at.ensures
