use Rattle.std.proofs.Common.{◌≡◌, ◌≢◌, List, codes}
use Rattle.clap.specs.Words.{Row, Text, found_of, rows_of}
use Rattle.command_line.specs.Words.{HasFirst, HasLine, MeansFound}
use Rattle.command_line.specs.declared.line.Line.{Line}
use Rattle.command_line.specs.declared.line.NamedMove.{NamedMove}
use Rattle.command_line.specs.declared.line.Order.{Order}
use Rattle.command_line.specs.declared.line.Order.TheVariants.{One, Batch, Verify, Certify, After, TreeAfter, Solution, Show}
use Rattle.command_line.proofs.reading.order_at.Goals as goal

abbrev Others : Text → Type 0
Others name = (name ≢ codes "batch") × (name ≢ codes "verify") × (name ≢ codes "certify") × (name ≢ codes "after") × (name ≢ codes "solution") × (name ≢ codes "show")

-- no line is meant, no first move of a tree, and no other command
no_order : (name : Text) (rows : List Row) (order : Order) → ((line : Line) → HasLine name rows line → ⊥)
    → ((played : NamedMove) → name ≡ codes "tree" → HasFirst rows played → ⊥) → Others name → MeansFound name rows order → ⊥
no_order name rows (One line) none first others means = none line means
no_order name rows (Batch goal limits options) none first others means = others.0 means.0
no_order name rows (Verify subject) none first others means = others.1 means.0
no_order name rows (Certify subject limits) none first others means = others.2 means.0
no_order name rows (After played) none first others means = others.3 means.0
no_order name rows (TreeAfter played goal limits) none first others means = first played means.0 means.1
no_order name rows (Solution subject limits options) none first others means = others.4 means.0
no_order name rows (Show fen drawing) none first others means = others.5 means.0

pub returns-in_err-line_of-in-None : goal.returns-in_err-line_of-in-None
returns-in_err-line_of-in-None c = rw c.from_residual-in_err-line_of-in-None.ensures (λ order means. let is = c.in-tree in
    no_order _ (rows_of (found_of c.args.values.now)) order c.in_err-line_of-in-None.ensures (λ played _ has. c.in-None.ensures played has)
    (is.not-batch, is.not-verify, is.not-certify, is.not-after, is.not-solution, is.not-show) means)

pub returns-in_err-line_of-in_default : goal.returns-in_err-line_of-in_default
returns-in_err-line_of-in_default c = rw c.from_residual-in_err-line_of-in_default.ensures (λ order means. let is = c.in_default in
    no_order _ (rows_of (found_of c.args.values.now)) order c.in_err-line_of-in_default.ensures (λ _ tree _. is.not-tree tree)
    (is.not-batch, is.not-verify, is.not-certify, is.not-after, is.not-solution, is.not-show) means)
