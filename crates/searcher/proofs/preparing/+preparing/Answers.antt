use Rattle.std.proofs.Common.{sym, subst, arith}
use Rattle.rules.specs.Order.{ListsLawful}
use Rattle.searcher.proofs.Forcing.{best_forces}
use Rattle.searcher.proofs.preparing.+preparing.Goals as goal

-- ---- a line

pub prepare_line-prepare_replies-requires : goal.prepare_line-prepare_replies-requires
prepare_line-prepare_replies-requires g t c κs within =
    let long = c.if-limit-lt-PREPARED_FROM.false in
    let most = c.requires.limit in (
      omega (arith, c.decreases, long),
      (
        within,
        (
          omega arith,
          λ m q move. best_forces c.args.walk.now.goal c.args.board.now c.after.result c.in-Some.attack c.in-Some.ensures.best c.after.ensures c.args.limit c.requires.forced (m, (q, move)) m q move,
        ),
      ),
    )

pub prepare_line-returns : goal.prepare_line-returns
prepare_line-returns g t c = g.met.D.Decider.goes_on _ _ _ c.best_move.ensures.goes c.prepare_replies.ensures

-- ---- its replies

pub prepare_replies-after-requires : goal.prepare_replies-after-requires
prepare_replies-after-requires g t c =
    ((subst (ListsLawful c.args.board.now) (sym c.as_slice-replies.ensures.value) c.lawful_on-moves.ensures).exact c.index-replies-place.result).0 (c.place.result, c.place.ensures, sym c.index-replies-place.is)

pub prepare_replies-prepare_line-requires : goal.prepare_replies-prepare_line-requires
prepare_replies-prepare_line-requires g t c κs within =
    let most = c.requires.plies in
    (omega (arith, c.decreases), (within, (omega arith, c.requires.forced c.index-replies-place.result c.after.result c.after.ensures)))

pub prepare_replies-loop-k-init : goal.prepare_replies-loop-k-init
prepare_replies-loop-k-init g t c = g.met.D.Decider.goes_at_once _

pub prepare_replies-loop-k-preserved : goal.prepare_replies-loop-k-preserved
prepare_replies-loop-k-preserved g t c = g.met.D.Decider.goes_on _ _ _ c.loop-k.invariant c.prepare_line.ensures
