use Rattle.moves.proofs.Common.{sym, subst, ◌∙◌, arith, false≢true, take_all, Ply, GivesCheck, IsPlyBefore, ListsLawful}
use Rattle.moves.proofs.Picking.{Picks, keep, skip}
use Rattle.moves.proofs.check_list.list_checks.Goals as goal
use Rattle.moves.proofs.check_list.list_checks.Goals.{then-gives_check, else-gives_check}

pub gives_check-requires : goal.gives_check-requires
gives_check-requires c =
    ((subst (ListsLawful c.args.board.now) (sym c.as_slice-m-items.ensures.value) c.lawful_on-all.ensures).exact c.m-item.result).0 (c.loop-m.m-index, c.loop-m-test.true, sym c.m-item.is)

pub loop-m-preserved : goal.loop-m-preserved
loop-m-preserved c =
    let b = c.args.board.now in
    let all = subst (ListsLawful b) (sym c.as_slice-m-items.ensures.value) c.lawful_on-all.ensures in
    let xs = c.as_slice-m-items.result.now in
    elim c.if-gives_check.branch [
      | then-gives_check w ↦
          let more = keep (IsPlyBefore b.game) (λ (m : Ply). m) (GivesCheck b) xs c.loop-m.moves.items c.loop-m.m-index c.m-item.result c.loop-m-test.true c.m-item.is all.ordered c.loop-m.invariant.ordered c.loop-m.invariant.exact
          (c.gives_check.ensures.0 w.if-gives_check.true) (λ l same _. sym same) in
          record {
            few = rw w.moves-is (let few = c.loop-m.invariant.few in omega (arith, w.push.ensures.len, few));
            ordered = rw (w.moves-is, w.push.ensures.items) more.0;
            exact = rw (w.moves-is, w.push.ensures.items) more.1;
          }
      | else-gives_check w ↦
          record {
            few = rw w.moves-is (let few = c.loop-m.invariant.few in omega (arith, few));
            ordered = rw w.moves-is c.loop-m.invariant.ordered;
            exact = rw w.moves-is (skip (IsPlyBefore b.game) (λ (m : Ply). m) (GivesCheck b) xs c.loop-m.moves.items c.loop-m.m-index c.m-item.result c.loop-m-test.true c.m-item.is c.loop-m.invariant.exact
                (λ l same has. false≢true (sym w.if-gives_check.false ∙ c.gives_check.ensures.1 (subst (GivesCheck b) same has))));
          }
    ]

pub returns : goal.returns
returns c =
    let b = c.args.board.now in
    let all = subst (ListsLawful b) (sym c.as_slice-m-items.ensures.value) c.lawful_on-all.ensures in
    let xs = c.as_slice-m-items.result.now in
    let exact = subst (λ ys. Picks (IsPlyBefore b.game) (λ (m : Ply). m) (GivesCheck b) ys c.loop-m.moves.items) (take_all c.loop-m.m-index xs c.loop-m-test.false) c.loop-m.invariant.exact in
    record {
      ordered = c.loop-m.invariant.ordered;
      exact = λ m. (λ h. ((exact m).0 h).1, λ check. (exact m).1 ((all.exact m).1 (check.0, check.1), check));
    }
