use Rattle.std.proofs.Common.{◌↔◌, IsTrue, subst}
use Rattle.wintree.proofs.Common.{IsInCheck}
use Rattle.wintree.proofs.Endings.{mated, stalemated}
use Rattle.wintree.proofs.wins.ends_at.Goals as goal

pub returns-in-Mate-default : goal.returns-in-Mate-default
returns-in-Mate-default c =
    let tells = subst (λ side. IsTrue c.in_check-checked.result ↔ IsInCheck c.args.position.now side) c.mover.ensures c.in_check-checked.ensures in
    rw c.in-Mate-default.is-0 (mated c.args.position.now c.lawful.result.items c.is_empty.result c.lawful.ensures c.is_empty.ensures c.if-not-is_empty.false c.in_check-checked.result tells)

pub returns-in-Stale-MateOrStale : goal.returns-in-Stale-MateOrStale
returns-in-Stale-MateOrStale c =
    let tells = subst (λ side. IsTrue c.in_check-checked.result ↔ IsInCheck c.args.position.now side) c.mover.ensures c.in_check-checked.ensures in
    rw (c.in-Stale-MateOrStale.is-0, c.in-Stale-MateOrStale.is-1) (stalemated c.args.position.now c.lawful.result.items c.is_empty.result c.lawful.ensures c.is_empty.ensures c.if-not-is_empty.false c.in_check-checked.result tells)
