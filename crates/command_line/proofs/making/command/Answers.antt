use Rattle.std.proofs.Common.{◌∙◌, ap, true}
use Rattle.clap.specs.Simple.{app_of_fields, on_top}
use Rattle.clap.specs.Words.{Shape}
use Rattle.command_line.specs.Making.{IsLocal}
use Rattle.command_line.specs.Program.{bare_app}
use Rattle.command_line.proofs.making.command.Goals as goal

pub returns : goal.returns
returns c =
    let told = ap app_of_fields c.after_long_help.ensures ∙ ap app_of_fields c.after_help.ensures ∙ ap app_of_fields c.about.ensures ∙ c.new.ensures.app in
    let versioned = ap app_of_fields c.version.ensures ∙ ap (on_top (λ (s : Shape). record s { has_version = true })) told in
    let bare : IsLocal bare_app c.subcommand_required-bare.result = record {
      is_app = ap app_of_fields c.subcommand_required-bare.ensures ∙ ap (on_top (λ (s : Shape). record s { subcommand_required = true })) versioned;
      local = ap (λ f. f.has_globals) c.subcommand_required-bare.ensures ∙ ap (λ f. f.has_globals) c.version.ensures ∙ ap (λ f. f.has_globals) c.after_long_help.ensures
          ∙ ap (λ f. f.has_globals) c.after_help.ensures ∙ ap (λ f. f.has_globals) c.about.ensures ∙ c.new.ensures.local;
    } in
    let searching = c.with_command-searching.ensures _ (c.with_command-finding.ensures _ (c.with_command-solving.ensures _ bare)) in
    let verifying = c.with_command-verifying.ensures _ (c.with_command-checking.ensures _ (c.with_command-telling.ensures _ searching)) in
    let moving = c.with_command-moving.ensures _ (c.with_command-certifying.ensures _ verifying) in
    c.with_command.ensures _ (c.with_command-playing.ensures _ (c.with_command-showing.ensures _ moving))
