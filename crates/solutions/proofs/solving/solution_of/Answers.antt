use Rattle.solutions.proofs.Common.{same_side-self, err_halts, some_ply}
use Rattle.solutions.proofs.solving.solution_of.Goals as goal

pub key_plays_of-requires-clause-plies : goal.key_plays_of-requires-clause-plies
key_plays_of-requires-clause-plies g c =
    let r = c.args.root.now in
    (some_ply r.goal r.board.mover r.board c.args.plies (same_side-self r.board.mover) c.requires.fewest.forced, c.requires.plies)

pub returns-in_err-keys-clause-goes : goal.returns-in_err-keys-clause-goes
returns-in_err-keys-clause-goes g c = c.key_plays_of.ensures.goes

pub returns-in_err-keys-clause-halt : goal.returns-in_err-keys-clause-halt
returns-in_err-keys-clause-halt g c = err_halts c.from_residual.result _ _ c.from_residual.ensures.1 c.in_err-keys.ensures.halt

pub returns-in_err-set_play-clause-goes : goal.returns-in_err-set_play-clause-goes
returns-in_err-set_play-clause-goes g c = g.met.D.Decider.goes_on _ _ _ c.key_plays_of.ensures.goes c.set_play_of.ensures.goes

pub returns-in_err-set_play-clause-halt : goal.returns-in_err-set_play-clause-halt
returns-in_err-set_play-clause-halt g c = err_halts c.from_residual-in_err-set_play.result _ _ c.from_residual-in_err-set_play.ensures.1 c.in_err-set_play.ensures.halt

pub returns-in_err-tries-clause-goes : goal.returns-in_err-tries-clause-goes
returns-in_err-tries-clause-goes g c = g.met.D.Decider.goes_on _ _ _ (g.met.D.Decider.goes_on _ _ _ c.key_plays_of.ensures.goes c.set_play_of.ensures.goes) c.tries_if.ensures.goes

pub returns-in_err-tries-clause-halt : goal.returns-in_err-tries-clause-halt
returns-in_err-tries-clause-halt g c = err_halts c.from_residual-in_err-tries.result _ _ c.from_residual-in_err-tries.ensures.1 c.in_err-tries.ensures.halt

pub returns-clause-goes : goal.returns-clause-goes
returns-clause-goes g c = g.met.D.Decider.goes_on _ _ _ (g.met.D.Decider.goes_on _ _ _ c.key_plays_of.ensures.goes c.set_play_of.ensures.goes) c.tries_if.ensures.goes

pub returns-clause-solution : goal.returns-clause-solution
returns-clause-solution g c = record {
  plies = c.requires.fewest;
  keys = c.in_ok-keys.ensures.keys;
  set_play = c.in_ok-set_play.ensures.play;
  tries = c.in_ok-tries.ensures.tries;
}
