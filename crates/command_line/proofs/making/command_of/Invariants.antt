use Rattle.std.proofs.Common.{◌≡◌, drop, false, map}
use Rattle.clap.specs.Words.{app_of}
use Rattle.clap.specs.declared.builder.command.Command.TheViews.{out-Command as fields_of}
use Rattle.command_line.specs.Making.{rule_in, verb_app}
use Rattle.command_line.specs.Program.{with_rules}
use Rattle.command_line.proofs.making.command_of.Given as goal

-- with those that are left it is the command
abbrev pub invariant-loop-argument : goal.invariant-loop-argument
invariant-loop-argument l = (with_rules (app_of l.grown) (map rule_in (drop l.argument-index l.verb.arguments.now)) ≡ verb_app l.verb)
    × ((fields_of l.grown).has_globals ≡ false)
