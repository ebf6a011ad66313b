use Rattle.std.proofs.Common.{◌<◌, List, length, sym, ◌∙◌, subst, arith}
use Rattle.std.proofs.lemmas.Bool.Decides.{Decides-eqb}
use Rattle.rules.specs.Squares.{Ply}
use Rattle.problems.specs.Tried.{ListsAll}
use Rattle.problems.proofs.Tried.{none_listed, not_empty, now_for, now_zero}
use Rattle.decision.proofs.deciding.search_given.Goals as goal

pub returns-then-n-eq0-clause-answer : goal.returns-then-n-eq0-clause-answer
returns-then-n-eq0-clause-answer g c = now_zero c.args.q.now c.args.n c.answer_now.result (omega (arith, c.if-n-eq0.true)) c.answer_now.ensures

pub returns-then-n-eq0-clause-below : goal.returns-then-n-eq0-clause-below
returns-then-n-eq0-clause-below g c = λ some. absurd (omega (arith, some, c.if-n-eq0.true))

pub returns-then-is_empty-clause-answer : goal.returns-then-is_empty-clause-answer
returns-then-is_empty-clause-answer g c =
    now_for c.args.q.now c.args.n c.answer_now-then-is_empty.result (none_listed c.args.q.now.position c.order_into.new.moves.items c.order_into.ensures ((Decides-eqb (length c.order_into.new.moves.items) 0).0 (sym c.is_empty.ensures ∙ c.if-is_empty.true))) c.answer_now-then-is_empty.ensures

pub returns-then-is_empty-clause-below : goal.returns-then-is_empty-clause-below
returns-then-is_empty-clause-below g c = λ _ some. absurd (none_listed c.args.q.now.position c.order_into.new.moves.items c.order_into.ensures ((Decides-eqb (length c.order_into.new.moves.items) 0).0 (sym c.is_empty.ensures ∙ c.if-is_empty.true)) some.0 some.1)

pub try_moves-requires-clause-lists : goal.try_moves-requires-clause-lists
try_moves-requires-clause-lists g c = subst (ListsAll c.args.q.now.position) (sym c.as_slice.ensures.value) c.order_into.ensures

pub try_moves-requires-clause-some : goal.try_moves-requires-clause-some
try_moves-requires-clause-some g c = subst (λ (l : List Ply). 0 < length l) (sym c.as_slice.ensures.value) (not_empty (length c.order_into.new.moves.items) c.if-is_empty.ensures)
