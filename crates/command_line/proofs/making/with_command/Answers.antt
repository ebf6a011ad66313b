use Rattle.std.proofs.Common.{◌∙◌, ◌||◌, ap, ap₂}
use Rattle.std.proofs.lemmas.Result.{IfOk-at_ok, IfOk-weaker}
use Rattle.clap.specs.Words.{App, with_subcommand}
use Rattle.command_line.specs.Making.{IsLocal}
use Rattle.command_line.proofs.making.with_command.Goals as goal

pub returns : goal.returns
returns c = λ app is.
    let own : IsLocal app c.in-Ok.command = IfOk-at_ok (IsLocal app) c.in-Ok.is is in
    let other = c.in-Ok-command_of.ensures in
    IfOk-weaker c.subcommand.result _ _ (λ made adds. record {
      is_app = adds.shape other.local ∙ ap₂ with_subcommand own.is_app (ap (λ (a : App). a.top) other.is_app);
      local = adds.globals ∙ ap₂ ◌||◌ own.local other.local;
    }) c.subcommand.ensures
