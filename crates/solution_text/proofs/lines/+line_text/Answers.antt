use Rattle.std.proofs.Common.{◌-◌, [], ◌∷◌, ap, subst, sym, arith, length, take, drop, string_bytes}
use Rattle.solution_text.proofs.Common.{IfOk-weaker, IsBestLine, IsLineText}
use Rattle.solution_text.proofs.BestLine.{one_is, two_is, first_lawful, reply_lawful, rest_best, fewer}
use Rattle.solution_text.proofs.lines.+line_text.Goals as goal

pub name-name-requires : goal.name-name-requires
name-name-requires g t c =
    let line = c.args.line.now in
    let is = one_is line c.last-item.result c.in-len1.len_at_least c.in-len1.len_below c.last-item.is in
    first_lawful c.args.notation.goal c.args.board.now c.requires.0 c.last-item.result [] (subst (IsBestLine c.args.notation.goal c.args.board.now c.requires.0) is c.requires.2)

pub after-attacked-requires : goal.after-attacked-requires
after-attacked-requires g t c =
    let line = c.args.line.now in
    let is = two_is line c.attack-item.result c.reply-item.result c.in-len2-up.len_at_least c.attack-item.is c.reply-item.is in
    first_lawful c.args.notation.goal c.args.board.now c.requires.0 c.attack-item.result (c.reply-item.result ∷ take (length line - 2) (drop 2 line)) (subst (IsBestLine c.args.notation.goal c.args.board.now c.requires.0) is c.requires.2)

pub after-next-requires : goal.after-next-requires
after-next-requires g t c =
    let line = c.args.line.now in
    let is = two_is line c.attack-item.result c.reply-item.result c.in-len2-up.len_at_least c.attack-item.is c.reply-item.is in
    let best = subst (IsBestLine c.args.notation.goal c.args.board.now c.requires.0) is c.requires.2 in
    reply_lawful c.args.notation.goal c.args.board.now c.requires.0 c.attack-item.result c.reply-item.result (take (length line - 2) (drop 2 line)) best c.after-attacked.result c.after-attacked.ensures

pub line_text-requires : goal.line_text-requires
line_text-requires g t c κs within =
    let line = c.args.line.now in
    let is = two_is line c.attack-item.result c.reply-item.result c.in-len2-up.len_at_least c.attack-item.is c.reply-item.is in
    let best = subst (IsBestLine c.args.notation.goal c.args.board.now c.requires.0) is c.requires.2 in
    let rest = rest_best c.args.notation.goal c.args.board.now c.requires.0 c.attack-item.result c.reply-item.result (take (length line - 2) (drop 2 line)) best c.after-attacked.result c.after-attacked.ensures c.after-next.result c.after-next.ensures in
    let some = fewer c.args.notation.goal c.args.board.now c.requires.0 c.attack-item.result c.reply-item.result (take (length line - 2) (drop 2 line)) best c.after-attacked.result c.after-attacked.ensures c.after-next.result c.after-next.ensures in
    let long = ap (length {A = _}) is in
    (omega (arith, long, c.decreases), (within, (c.requires.0 - 2, (let bound = c.requires.1 in omega (arith, bound, some)), rest)))

pub returns-in-len1 : goal.returns-in-len1
returns-in-len1 g t c =
    let line = c.args.line.now in
    let is = one_is line c.last-item.result c.in-len1.len_at_least c.in-len1.len_below c.last-item.is in
    IfOk-weaker c.format.result _ _ (λ text spelled. subst (λ l. IsLineText c.args.notation c.args.number c.args.board.now l (string_bytes text)) (sym is) (c.name-name.result, c.name-name.ensures, spelled)) c.format.ensures.ok

pub returns-in_ok-rest-in-len2-up : goal.returns-in_ok-rest-in-len2-up
returns-in_ok-rest-in-len2-up g t c =
    let line = c.args.line.now in
    let is = two_is line c.attack-item.result c.reply-item.result c.in-len2-up.len_at_least c.attack-item.is c.reply-item.is in
    IfOk-weaker c.format-in-len2-up.result _ _ (λ text spelled. subst (λ l. IsLineText c.args.notation c.args.number c.args.board.now l (string_bytes text)) (sym is) (
      c.after-attacked.result,
      c.after-attacked.ensures,
      c.after-next.result,
      c.after-next.ensures,
      c.name-attack.result,
      c.name-attack.ensures,
      c.name-reply.result,
      c.name-reply.ensures,
      string_bytes c.in_ok-rest-in-len2-up.rest,
      c.in_ok-rest-in-len2-up.ensures,
      spelled,
    )) c.format-in-len2-up.ensures.ok
