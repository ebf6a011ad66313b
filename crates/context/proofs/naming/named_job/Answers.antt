use Rattle.std.proofs.Common.{◌≡◌, ◌<◌, arith, length, rules, subst, sym}
use Rattle.rules.specs.MoveText.{move_text}
use Rattle.problems.proofs.Jobs.{got_at, move_at}
use Rattle.context.proofs.NamingLemmas.{none_read, not_lawful, not_listed}
use Rattle.context.proofs.naming.named_job.Goals as goal

pub returns-in_err-named : goal.returns-in_err-named
returns-in_err-named c = rw c.from_residual.ensures (none_read c.args.root.now.board c.args.name.now c.in_err-named.ensures.read)

pub returns-then-eq : goal.returns-then-eq
returns-then-eq c =
    let items = c.args.root.now.moves.items in
    let m = c.index-deref-from.result in
    let below : c.loop-job.job < length items = omega (arith, c.loop-job-test.true, c.jobs-job-end.ensures.value) in
    let is = move_at items c.deref.result.now c.from.result c.loop-job.job m c.deref.ensures.0 c.from.ensures c.index-deref-from.is in
    let same : m ≡ c.in_ok-named.named = search rules in
    ((c.requires, below), (m, got_at items c.loop-job.job m below is, subst (λ l. move_text l ≡ c.args.name.now) (sym same) c.in_ok-named.ensures.some.1))

pub returns : goal.returns
returns c =
    let b = c.args.root.now.board in
    let named = c.in_ok-named.named in
    not_lawful b c.args.name.now named c.in_ok-named.ensures.read
    (not_listed b c.args.root.now.moves.items c.loop-job.job named c.requires (omega (arith, c.loop-job-test.false, c.jobs-job-end.ensures.value)) c.loop-job.invariant)
