use Rattle.devices.specs.Input.{without_line_feed}
use Rattle.replies.specs.Output.{ShowsTree}
use Rattle.replies.proofs.ReplyLemmas.{input_refused, input_unread}
use Rattle.replies.proofs.replying.check_text.Goals as goal

pub returns-in_err-verdict_text-clause-shown : goal.returns-in_err-verdict_text-clause-shown
returns-in_err-verdict_text-clause-shown g c =
    input_refused _ 1048576 (λ input reply. ShowsTree c.args.goal c.args.position.now (without_line_feed input) reply)
    (g.S.Source.remaining c.args.reader.now) c.in_ok-input.input.items _ c.in_err-verdict_text.field-0.0 c.in_ok-input.ensures.all
    (rw (← c.as_slice.ensures.value, ← c.without_line_feed-text.ensures) c.in_err-verdict_text.ensures) c.from_residual-in_err-verdict_text.ensures

pub returns-in_err-input-clause-shown : goal.returns-in_err-input-clause-shown
returns-in_err-input-clause-shown g c =
    input_unread _ 1048576 (λ input reply. ShowsTree c.args.goal c.args.position.now (without_line_feed input) reply)
    (g.S.Source.remaining c.args.reader.now) c.from_residual.result c.in_err-input.field-0.0
    c.in_err-input.ensures.too_long c.from_residual.ensures
