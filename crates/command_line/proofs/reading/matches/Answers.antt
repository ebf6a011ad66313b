use Rattle.std.proofs.Common.{◌≡◌, ◌∙◌, ap, map, refl, subst, true}
use Rattle.std.proofs.lemmas.Bool.{and_parts}
use Rattle.std.proofs.lemmas.Result.{IfOk-weaker}
use Rattle.clap.specs.Words.{App, FailsBy, fault_of, is_simple, is_simple_and_free, subcommand_of}
use Rattle.clap.proofs.OnLiterals.{clap_on_literals}
use Rattle.command_line.specs.Program.{program}
use Rattle.command_line.proofs.reading.matches.Goals as goal

program_is_free : is_simple_and_free program ≡ true
unfolding clap_on_literals
program_is_free = refl

pub returns-clause-found : goal.returns-clause-found
returns-clause-found g c =
    let is : _ ≡ program = c.in_ok-command.ensures.is_app in
    let words = map g.W.AsStr.text c.args.words.now in
    IfOk-weaker c.try_get_matches_from.result _ _
    (λ m found. (found (ap is_simple is ∙ (and_parts (is_simple program) _ program_is_free).0)).1 ∙ ap (λ (a : App). subcommand_of a words) is) c.try_get_matches_from.ensures.matches

pub returns-clause-kinds : goal.returns-clause-kinds
returns-clause-kinds g c =
    let is : _ ≡ program = c.in_ok-command.ensures.is_app in
    let words = map g.W.AsStr.text c.args.words.now in
    subst (λ (a : App). FailsBy (fault_of a words) c.try_get_matches_from.result) is
    (c.try_get_matches_from.ensures.kinds (ap is_simple_and_free is ∙ program_is_free))
