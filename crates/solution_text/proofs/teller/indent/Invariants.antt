use Rattle.std.proofs.Common.{◌≡◌, string_bytes}
use Rattle.solution_text.specs.WholeText.{indent}
use Rattle.solution_text.proofs.teller.indent.Given as goal

-- the blanks so far
abbrev pub invariant-loop-told : goal.invariant-loop-told
invariant-loop-told g l = string_bytes l.text ≡ indent l.told
