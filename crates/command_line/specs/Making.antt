-- What the program's commands are made of, and when what was read of one is meant.
use Rattle.std.specs.Prelude.{◌≡◌, List, MatchOption, Option, Some, codes, false, map}
use Rattle.clap.specs.Walk.{texts}
use Rattle.clap.specs.Words.{App, Row, Rule, Text, app_of, first_of, new_app, rule_of}
use Rattle.clap.specs.declared.builder.arg.Arg.{Arg}
use Rattle.clap.specs.declared.builder.command.Command.{Command}
use Rattle.clap.specs.declared.builder.command.Command.TheViews.{out-Command as fields_of}
use Rattle.command_line.specs.Program.{flag_rule, number_rule, text_rule, with_rules, word_rule}
use Rattle.command_line.specs.declared.help.Argument.{Argument}
use Rattle.command_line.specs.declared.help.Form.{Form}
use Rattle.command_line.specs.declared.help.Form.TheVariants.{Word, Flag, Value, Number}
use Rattle.command_line.specs.declared.help.Verb.{Verb}
use Rattle.command_line.specs.declared.line.NamedMove.{NamedMove}

-- the argument has this rule, and holds for its command alone
pub record IsLocalArg (rule : Rule) (arg : Arg) : Type 0 where
  pub is_rule : rule_of arg ≡ rule
  pub local : arg.global ≡ false

-- the command is this one, and no argument of it holds for others
pub record IsLocal (app : App) (command : Command) : Type 0 where
  pub is_app : app_of command ≡ app
  pub local : (fields_of command).has_globals ≡ false

-- the rule of an argument of that name and form
abbrev pub form_rule : Text → Form → Rule
form_rule name Word = word_rule name
form_rule name Flag = flag_rule name
form_rule name (Value value given) = text_rule name (texts given.now)
form_rule name (Number value given) = number_rule name (texts given.now)

-- the rule of an argument of the table
abbrev pub rule_in : Argument → Rule
rule_in argument = form_rule argument.name.now argument.form

-- a command of the table
abbrev pub verb_app : Verb → App
verb_app verb = with_rules (new_app verb.name.now) (map rule_in verb.arguments.now)

-- what was read is meant, or nothing is
abbrev pub Reads : {X : Type 0} → (X → Type 0) → Option X → Type 0
Reads Means read = MatchOption read ((x : _) → Means x → ⊥) (λ x. Means x)

-- what was found for the position, and for the move that the argument of that name has
abbrev pub HasMove : Text → List Row → NamedMove → Type 0
HasMove id rows move = (first_of (codes "FEN") rows ≡ Some move.fen.now) × (first_of id rows ≡ Some move.name.now)
