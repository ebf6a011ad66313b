use Rattle.std.proofs.Common.{ℕ, ◌-◌, subst}
use Rattle.solutions.proofs.Common.{err_halts, AreThreats, ListsVariations}
use Rattle.solutions.proofs.Forcing.{key_reaches, key_meets}
use Rattle.solutions.proofs.Variations.{all_replies}
use Rattle.solutions.proofs.solving.key_play_of.Goals as goal

pub threats_of-requires-clause-over : goal.threats_of-requires-clause-over
threats_of-requires-clause-over g c = let r = c.args.root.now in key_reaches r.goal r.board c.args.first c.after-next.result c.after-next.ensures c.args.plies c.requires.key

pub returns-clause-goes : goal.returns-clause-goes
returns-clause-goes g c = g.met.D.Decider.goes_on _ _ _ c.threats_of.ensures.goes c.variations_of.ensures.goes

pub returns-clause-play : goal.returns-clause-play
returns-clause-play g c =
    let r = c.args.root.now in
    let q = c.after-next.result in
    let lists = subst (λ (k : ℕ). ListsVariations r.goal q k c.in_ok-variations.variations.items) c.saturating_sub-left.ensures c.in_ok-variations.ensures.variations in
    record {
      after = q;
      move = c.after-next.ensures;
      threats = subst (λ (k : ℕ). AreThreats r.goal q k c.in_ok-threats.threats) c.saturating_sub-left.ensures c.in_ok-threats.ensures.threats;
      replies = all_replies r.goal q (c.args.plies - 2) c.in_ok-variations.variations.items (key_meets r.goal r.board c.args.first q c.after-next.ensures c.args.plies c.requires.key) lists;
      variations = lists.each;
    }

pub returns-in_err-threats-clause-goes : goal.returns-in_err-threats-clause-goes
returns-in_err-threats-clause-goes g c = c.threats_of.ensures.goes

pub returns-in_err-threats-clause-halt : goal.returns-in_err-threats-clause-halt
returns-in_err-threats-clause-halt g c = err_halts c.from_residual.result _ _ c.from_residual.ensures.1 c.in_err-threats.ensures.halt

pub returns-in_err-variations-clause-goes : goal.returns-in_err-variations-clause-goes
returns-in_err-variations-clause-goes g c = g.met.D.Decider.goes_on _ _ _ c.threats_of.ensures.goes c.variations_of.ensures.goes

pub returns-in_err-variations-clause-halt : goal.returns-in_err-variations-clause-halt
returns-in_err-variations-clause-halt g c = err_halts c.from_residual-in_err-variations.result _ _ c.from_residual-in_err-variations.ensures.1 c.in_err-variations.ensures.halt
