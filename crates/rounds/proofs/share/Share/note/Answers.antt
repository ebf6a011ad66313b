use Rattle.std.proofs.Common.{rules, sym, ◌∙◌, arith}
use Rattle.std.proofs.lemmas.Bool.{false≢true}
use Rattle.jobs.specs.Promise.{least_known}
use Rattle.rounds.specs.declared.share.Verdict.TheVariants.{Wins, Loses}
use Rattle.rounds.specs.Shares.{WinsHere}
use Rattle.rounds.proofs.Rows.{row_with, knows_win, knows_loss}
use Rattle.rounds.proofs.Shares.{may_lower}
use Rattle.rounds.proofs.share.Share.note.Goals as goal

pub lower-requires-clause-wins : goal.lower-requires-clause-wins
lower-requires-clause-wins g c =
    may_lower c.args.round.now g.J.Count.jobs c.args.job c.requires.share.round c.requires.job (c.requires.right.0 c.if-yes.true)

pub returns-then-yes-clause-share : goal.returns-then-yes-clause-share
returns-then-yes-clause-share g c = let s = c.requires.share in
    let win = c.requires.right.0 c.if-yes.true in
    let row = row_with (WinsHere c.args.round.now) c.args.self.now.row.items s.right c.from.result c.args.job g.J.Count.jobs Wins c.from.ensures s.row c.requires.job win in
    record {
      round = s.round;
      stop = s.stop;
      row = row.0;
      right = row.1;
      seat = s.seat;
      knows = knows_win c.args.self.now.row.items (least_known c.args.self.now.scout.stop.seat) _ c.from.result c.args.job c.from.ensures (search rules) (search rules) s.knows;
    }

pub returns-else-yes-clause-share : goal.returns-else-yes-clause-share
returns-else-yes-clause-share g c = let s = c.requires.share in
    let loss : WinsHere c.args.round.now c.args.job → ⊥ = λ w. false≢true (sym c.if-yes.false ∙ c.requires.right.1 w) in
    let row = row_with (WinsHere c.args.round.now) c.args.self.now.row.items s.right c.from-else-yes.result c.args.job g.J.Count.jobs Loses c.from-else-yes.ensures s.row c.requires.job loss in
    record {
      round = s.round;
      stop = s.stop;
      row = row.0;
      right = row.1;
      seat = s.seat;
      knows = knows_loss c.args.self.now.row.items (least_known c.args.self.now.scout.stop.seat) (least_known c.args.self.now.scout.stop.seat) c.from-else-yes.result
          (omega (arith, c.from-else-yes.ensures, s.row, c.requires.job)) (omega arith) s.knows;
    }
