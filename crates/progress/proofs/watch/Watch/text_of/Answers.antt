use Rattle.std.proofs.Common.{◌∙◌, Some, ap, rules, refl, sym}
use Rattle.std.proofs.lemmas.Option.{slice_get-get_or}
use Rattle.progress.specs.declared.sign.Sign.{Sign}
use Rattle.progress.specs.Signs.{IsSignOf}
use Rattle.progress.proofs.SignLemmas.{sign_drawn}
use Rattle.progress.proofs.watch.Watch.text_of.Goals as goal
use Rattle.progress.proofs.watch.Watch.text_of.Goals.{then-known-eq-WINS, else-known-eq-WINS, in-Rounds, in-Keys, then-none-eq0, else-none-eq0}

pub returns : goal.returns
returns c =
    let sign : Sign = record {
      seconds = c.args.seconds;
      line = c.args.self.now.setting.line;
      none = c.if-none-eq0.sign;
      round = c.match-self.round;
      work = c.if-known-eq-WINS.work;
      advises = c.is_advised.result;
    } in
    let first = c.in_ok-first.field-0.now in
    let found = rw c.deref.ensures.value at c.in_ok-first.ensures.lookup in
    let is : IsSignOf c.args.self.now c.args.seconds c.args.job c.args.known c.args.none sign = record {
      seconds = refl;
      line = refl;
      advice = c.is_advised.ensures;
      nothing = elim c.if-none-eq0.branch [ then-none-eq0 w ↦ search rules | else-none-eq0 w ↦ search rules ];
      round = elim c.match-self.branch [ in-Rounds w ↦ search rules | in-Keys w ↦ search rules ];
      work = (first, slice_get-get_or c.args.self.now.moves.items c.args.job first found.3.0 ∙ ap Some (sym found.1), elim c.if-known-eq-WINS.branch [ then-known-eq-WINS w ↦ search rules | else-known-eq-WINS w ↦ search rules ]);
    } in
    rw c.ok.ensures.value (sign_drawn c.args.self.now c.args.seconds c.args.job c.args.known c.args.none sign c.drawn.result is c.drawn.ensures)
