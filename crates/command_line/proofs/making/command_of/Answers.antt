use Rattle.std.proofs.Common.{◌∙◌, ◌+◌, ◌||◌, ap, ap₂, arith, drop, map, sym}
use Rattle.std.proofs.lemmas.List.{at_drop_all, at_drop_more}
use Rattle.clap.specs.Simple.{app_of_fields}
use Rattle.clap.specs.Words.{App, app_of, with_rule}
use Rattle.command_line.specs.Making.{rule_in}
use Rattle.command_line.specs.Program.{with_rules}
use Rattle.command_line.proofs.making.command_of.Goals as goal

pub loop-argument-init : goal.loop-argument-init
loop-argument-init c = (
  ap (λ (app : App). with_rules app (map rule_in c.args.verb.now.arguments.now))
      (ap app_of_fields c.after_long_help-grown.ensures ∙ ap app_of_fields c.before_help.ensures ∙ ap app_of_fields c.about.ensures ∙ c.new.ensures.app),
  ap (λ f. f.has_globals) c.after_long_help-grown.ensures ∙ ap (λ f. f.has_globals) c.before_help.ensures ∙ ap (λ f. f.has_globals) c.about.ensures ∙ c.new.ensures.local,
)

pub loop-argument-preserved : goal.loop-argument-preserved
loop-argument-preserved c =
    let old = c.loop-argument.grown in
    let arguments = c.args.verb.now.arguments.now in
    let i = c.loop-argument.argument-index in (
      ap (λ (app : App). with_rules app (map rule_in (drop (i + 1) arguments)))
          (c.in-Ok.ensures.shape c.made.ensures.local ∙ ap (with_rule (app_of old)) c.made.ensures.is_rule)
          ∙ sym (at_drop_more (λ rest. with_rules (app_of old) (map rule_in rest)) arguments i _ (omega arith)) ∙ c.loop-argument.invariant.0,
      c.in-Ok.ensures.globals ∙ ap₂ ◌||◌ c.loop-argument.invariant.1 c.made.ensures.local,
    )

pub returns : goal.returns
returns c = record {
  is_app = sym (at_drop_all (λ rest. with_rules (app_of c.loop-argument.grown) (map rule_in rest)) c.args.verb.now.arguments.now c.loop-argument.argument-index (omega arith))
      ∙ c.loop-argument.invariant.0;
  local = c.loop-argument.invariant.1;
}
