use Rattle.std.proofs.Common.{◌++◌, [], ◌∷◌, sym, ap, ◌∙◌}
use Rattle.rules.proofs.Common.{append-nil, append_assoc, square_number}
use Rattle.rules.specs.Rays.IsRay.{edge, onward}
use Rattle.rules.proofs.rays.+extend.Goals as goal

pub returns-in_default : goal.returns-in_default
returns-in_default t c = ([], sym (append-nil c.args.squares.now.items), edge c.in_default.ensures)

pub returns : goal.returns
returns t c =
    let more = c.extend.ensures.0 in
    let pushed = c.push.ensures.items ∙ ap (λ n. c.args.squares.now.items ++ n ∷ []) c.number.ensures.value in (
      square_number c.args.game c.in-Some.square ∷ more,
      c.extend.ensures.1 ∙ ap (λ l. l ++ more) pushed ∙ append_assoc c.args.squares.now.items _ more,
      onward c.in-Some.ensures.0 c.in-Some.ensures.1 c.extend.ensures.2,
    )
