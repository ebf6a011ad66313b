use Rattle.std.proofs.Common.{sym, subst}
use Rattle.solutions.proofs.Common.{err_halts, ListsContinuations}
use Rattle.solutions.proofs.Plays.{play_none, play_one, play_all}
use Rattle.solutions.proofs.solving.key_plays_of.Goals as goal

pub key_play_of-requires-clause-key : goal.key_play_of-requires-clause-key
key_play_of-requires-clause-key g c =
    let r = c.args.root.now in
    let lists = subst (ListsContinuations r.goal r.board c.args.plies) (sym c.as_slice-first-items.ensures.value) c.in_ok-firsts.ensures.moves in
    (lists.exact c.first-item.result).0 (c.loop-first.first-index, c.loop-first-test.true, sym c.first-item.is)

pub returns-in_err-push-clause-goes : goal.returns-in_err-push-clause-goes
returns-in_err-push-clause-goes g c = g.met.D.Decider.goes_on _ _ _ c.loop-first.invariant.goes c.key_play_of.ensures.goes

pub loop-first-preserved : goal.loop-first-preserved
loop-first-preserved g c =
    let r = c.args.root.now in
    record {
      goes = g.met.D.Decider.goes_on _ _ _ c.loop-first.invariant.goes c.key_play_of.ensures.goes;
      plays = play_one r.goal r.board c.args.plies c.as_slice-first-items.result.now c.loop-first.keys.items c.push.new.self.items c.loop-first.first-index c.first-item.result c.loop-first-test.true c.first-item.is
          c.loop-first.invariant.plays c.in_ok-key.key c.in_ok-push.ensures.items c.in_ok-key.ensures.first c.in_ok-key.ensures.play;
    }

pub returns-clause-keys : goal.returns-clause-keys
returns-clause-keys g c =
    let r = c.args.root.now in
    let lists = subst (ListsContinuations r.goal r.board c.args.plies) (sym c.as_slice-first-items.ensures.value) c.in_ok-firsts.ensures.moves in
    play_all r.goal r.board c.args.plies c.as_slice-first-items.result.now c.loop-first.keys.items c.loop-first.first-index c.loop-first-test.false lists c.loop-first.invariant.plays

pub returns-in_err-firsts-clause-goes : goal.returns-in_err-firsts-clause-goes
returns-in_err-firsts-clause-goes g c = c.continuations_of.ensures.goes

pub returns-in_err-firsts-clause-halt : goal.returns-in_err-firsts-clause-halt
returns-in_err-firsts-clause-halt g c = err_halts c.from_residual.result _ _ c.from_residual.ensures.1 c.in_err-firsts.ensures.halt

pub loop-first-init : goal.loop-first-init
loop-first-init g c = let r = c.args.root.now in record {
  goes = c.continuations_of.ensures.goes;
  plays = play_none r.goal r.board c.args.plies c.as_slice-first-items.result.now c.new-keys.result.items c.new-keys.ensures.items;
}

pub returns-in_err-key-clause-goes : goal.returns-in_err-key-clause-goes
returns-in_err-key-clause-goes g c = g.met.D.Decider.goes_on _ _ _ c.loop-first.invariant.goes c.key_play_of.ensures.goes

pub returns-in_err-key-clause-halt : goal.returns-in_err-key-clause-halt
returns-in_err-key-clause-halt g c = err_halts c.from_residual-in_err-key.result _ _ c.from_residual-in_err-key.ensures.1 c.in_err-key.ensures.halt

pub returns-clause-goes : goal.returns-clause-goes
returns-clause-goes g c = c.loop-first.invariant.goes
