-- The commands, as `clap` reads them.
use Rattle.std.specs.Prelude.{List, [], ◌∷◌, ◌++◌, Some, true, codes, pos}
use Rattle.clap.specs.Words.{App, Rule, Text, new_app, new_rule, with_rule, with_subcommand}
use Rattle.clap.specs.declared.builder.action.ArgAction.TheVariants.{SetTrue}
use Rattle.clap.specs.declared.builder.value_parser.ValueParser.TheVariants as parser

-- one word that must be there
abbrev pub word_rule : Text → Rule
word_rule name = record (new_rule name) { required = true }

-- `--name`, which takes no value
abbrev pub flag_rule : Text → Rule
flag_rule name = record (new_rule name) { long = Some name; action = Some SetTrue }

-- a text after `--name`, and what is taken where none is given, if something is
abbrev pub text_rule : Text → List Text → Rule
text_rule name given = record (new_rule name) { long = Some name; value_names = 1; defaults = given }

-- a number of 32 bits after `--name`, likewise
abbrev pub number_rule : Text → List Text → Rule
number_rule name given = record (text_rule name given) { parser = Some (parser.Signed (pos 0) (pos 4294967295)) }

-- the position
abbrev pub fen_rule : Rule
fen_rule = word_rule (codes "FEN")

-- a word after `--goal`, `mate` where none is given
abbrev pub goal_rule : Rule
goal_rule = text_rule (codes "goal") (codes "mate" ∷ [])

-- the options of a search: `(--limit N | --mate M) [--workers K] [--slots S] [--goal GOAL] [--progress]`, with 2 workers and 64 slots where they are not given
abbrev pub search_rules : List Rule
search_rules = number_rule (codes "limit") [] ∷ number_rule (codes "mate") [] ∷ number_rule (codes "workers") (codes "2" ∷ []) ∷ number_rule (codes "slots") (codes "64" ∷ [])
    ∷ goal_rule ∷ flag_rule (codes "progress") ∷ []

-- with these arguments too, in turn
abbrev pub with_rules : App → List Rule → App
with_rules app [] = app
with_rules app (rule ∷ rules) = with_rules (with_rule app rule) rules

-- a command of this name with the options of a search, a position, and more
abbrev pub search_app : Text → List Rule → App
search_app name more = with_rules (new_app name) (search_rules ++ fen_rule ∷ more)

-- `solve`, `keys`, `tree` and `certify` search at a position; `tree` may be given a first move
abbrev pub solve_app : App
solve_app = search_app (codes "solve") []

abbrev pub keys_app : App
keys_app = search_app (codes "keys") []

abbrev pub tree_app : App
tree_app = search_app (codes "tree") (text_rule (codes "first") [] ∷ [])

abbrev pub certify_app : App
certify_app = search_app (codes "certify") []

-- `solution [--set] [--tries] [--figurines] [--short] [--json] [--svg] [--first MOVE] FEN`, and the options of a search
abbrev pub solution_app : App
solution_app =
    search_app (codes "solution")
    (flag_rule (codes "set") ∷ flag_rule (codes "tries") ∷ flag_rule (codes "figurines") ∷ flag_rule (codes "short") ∷ flag_rule (codes "json")
    ∷ flag_rule (codes "svg") ∷ text_rule (codes "first") [] ∷ [])

-- `check [--goal GOAL] FEN`
abbrev pub check_app : App
check_app = with_rules (new_app (codes "check")) (goal_rule ∷ fen_rule ∷ [])

-- `verify [--goal GOAL] FEN`
abbrev pub verify_app : App
verify_app = with_rules (new_app (codes "verify")) (goal_rule ∷ fen_rule ∷ [])

-- `moves FEN`
abbrev pub moves_app : App
moves_app = with_rules (new_app (codes "moves")) (fen_rule ∷ [])

-- `show [--svg] [--unicode] [--black] FEN`
abbrev pub show_app : App
show_app = with_rules (new_app (codes "show")) (flag_rule (codes "svg") ∷ flag_rule (codes "unicode") ∷ flag_rule (codes "black") ∷ fen_rule ∷ [])

-- `after FEN MOVE`
abbrev pub after_app : App
after_app = with_rules (new_app (codes "after")) (fen_rule ∷ word_rule (codes "MOVE") ∷ [])

-- `batch [--echo] [--keys] [--json] [--lines L] [--skip L]`, and the options of a search
abbrev pub batch_app : App
batch_app = with_rules (new_app (codes "batch")) (search_rules
    ++ flag_rule (codes "echo") ∷ flag_rule (codes "keys") ∷ flag_rule (codes "json") ∷ number_rule (codes "lines") [] ∷ number_rule (codes "skip") [] ∷ [])

-- the program without its commands
abbrev pub bare_app : App
bare_app = let new = new_app (codes "minimate") in
    record new { top = record new.top { has_version = true; subcommand_required = true } }

-- with these commands too, in turn
abbrev pub with_commands : App → List App → App
with_commands app [] = app
with_commands app (command ∷ commands) = with_commands (with_subcommand app command.top) commands

-- the program, whose first word is one of its commands
abbrev pub program : App
program = with_commands bare_app (solve_app ∷ keys_app ∷ tree_app ∷ solution_app ∷ check_app ∷ verify_app ∷ certify_app ∷ moves_app ∷ show_app ∷ after_app ∷ batch_app ∷ [])
