-- A line has one run, but for want of memory and failures.
use Rattle.std.proofs.Common.{◌≡◌, ℕ, List, Option, Some, IfSome, sym, ap, subst, ◌∙◌}
use Rattle.command_line.specs.declared.line.Line.{Line}
use Rattle.devices.specs.Input.{OfInput}
use Rattle.refusals.specs.Reply.{Reply}
use Rattle.endings.specs.Run.{Run, Writes}
use Rattle.output_laws.specs.Runs.{RunsToEnd}
use Rattle.output_laws.proofs.Shown.{one_output}

-- what is so of an input that is known is so of it
of_known : (known : Option (List ℕ)) (input : List ℕ) (P : List ℕ → Type 0) → known ≡ Some input → OfInput known P → P input
of_known known input P is (read, same, holds) =
    let one : input ≡ read = subst (λ o. IfSome o (λ told. told ≡ read)) is same in subst P (sym one) holds

pub one_run : (line : Line) (input : List ℕ) (x y : Run) → RunsToEnd line input x → RunsToEnd line input y → (x.ending.status ≡ y.ending.status) × ((text : List ℕ) × Writes x.ending text × Writes y.ending text)
one_run line input x y a b =
    let here = of_known _ input _ a.knows (a.runs.answered a.status) in
    let there = of_known _ input _ b.knows (b.runs.answered b.status) in
    let same : here.0 ≡ there.0 = one_output line input here.0 there.0 here.1 there.1 in (
      here.2.0 ∙ ap (λ (r : Reply). r.status) same ∙ sym there.2.0,
      (there.0.text, subst (λ (r : Reply). Writes x.ending r.text) same here.2.1, there.2.1),
    )
