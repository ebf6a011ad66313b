use Rattle.std.proofs.Common.{sym, ◌∙◌, ◌∷◌, [], ◌-◌, arith}
use Rattle.solutions.proofs.Common.{false≢true, Ply, IsLawful}
use Rattle.std.proofs.lemmas.Result.{on_ok_weaker}
use Rattle.solutions.proofs.Forcing.{key_reaches, key_plies, key_meets, some_lasts, three_plies, lasting_here, two_more}
use Rattle.solutions.proofs.lines.+lines.Goals as goal

pub returns-then-not-has_lawful_move-clause-line : goal.returns-then-not-has_lawful_move-clause-line
returns-then-not-has_lawful_move-clause-line g t c =
    let least = c.in-Some.ensures.least in
    let none : (r : Ply) → IsLawful c.after-next.result r → ⊥ = (λ r lawful. false≢true (sym c.if-not-has_lawful_move.true ∙ c.has_lawful_move.ensures.1 (r, lawful))) in (
      c.in-Some.attack ∷ [],
      c.in_ok-push.ensures.items,
      (
        least,
        (c.after-next.result, c.after-next.ensures, key_reaches c.args.goal c.args.board.now c.in-Some.attack c.after-next.result c.after-next.ensures c.args.plies least.wins none),
      ),
    )

pub overflow_sub-plies : goal.overflow_sub-plies
overflow_sub-plies g t c =
    key_plies c.args.goal c.args.board.now c.in-Some.attack c.after-next.result c.after-next.ensures c.args.plies c.in-Some.ensures.least.wins (c.has_lawful_move.ensures.0 c.if-not-has_lawful_move.false)

pub longest_reply-requires : goal.longest_reply-requires
longest_reply-requires g t c =
    let goal = c.args.goal in
    let b = c.args.board.now in
    let m = c.in-Some.attack in
    let q = c.after-next.result in
    let n = c.args.plies in
    let some = c.has_lawful_move.ensures.0 c.if-not-has_lawful_move.false in
    let wins = c.in-Some.ensures.least.wins in
    let most = c.requires.plies in
    let three = three_plies goal b n c.requires.fewest (key_plies goal b m q c.after-next.ensures n wins some) in
    record {
      plies = (three.0, omega arith);
      odd = three.1;
      met = key_meets goal b m q c.after-next.ensures n wins;
      last = some_lasts goal b m q c.after-next.ensures n c.requires.fewest some;
    }

pub returns-in_default-longest_reply-clause-goes : goal.returns-in_default-longest_reply-clause-goes
returns-in_default-longest_reply-clause-goes g t c = g.met.D.Decider.goes_on _ _ _ c.least_move.ensures.goes c.longest_reply.ensures.goes

pub returns-in_err-push-2-clause-goes : goal.returns-in_err-push-2-clause-goes
returns-in_err-push-2-clause-goes g t c = g.met.D.Decider.goes_on _ _ _ c.least_move.ensures.goes c.longest_reply.ensures.goes

pub extend_line-requires : goal.extend_line-requires
extend_line-requires g t c κs within =
    let two = key_plies c.args.goal c.args.board.now c.in-Some.attack c.after-next.result c.after-next.ensures c.args.plies c.in-Some.ensures.least.wins (c.has_lawful_move.ensures.0 c.if-not-has_lawful_move.false) in
    let most = c.requires.plies in
    (omega (arith, c.decreases, two), (within.0, (within.1, (omega arith, lasting_here c.args.goal c.after-next.result c.in-Some-longest_reply.reply c.after.result (c.args.plies - 2) c.after.ensures c.in-Some-longest_reply.ensures.longest.lasts))))

pub returns-clause-goes : goal.returns-clause-goes
returns-clause-goes g t c = g.met.D.Decider.goes_on _ _ _ (g.met.D.Decider.goes_on _ _ _ c.least_move.ensures.goes c.longest_reply.ensures.goes) c.extend_line.ensures.goes

pub returns-clause-line : goal.returns-clause-line
returns-clause-line g t c =
    on_ok_weaker c.extend_line.result (λ (rest, is, best). (
      c.in-Some.attack ∷ c.in-Some-longest_reply.reply ∷ rest,
      two_more c.args.line.now.items c.push.new.self.items c.push-2.new.self.items c.extend_line.new.line.items c.in-Some.attack c.in-Some-longest_reply.reply rest c.in_ok-push.ensures.items c.in_ok-push-2.ensures.items is,
      (c.in-Some.ensures.least, (c.after-next.result, c.after-next.ensures, c.in-Some-longest_reply.ensures.longest, (c.after.result, c.after.ensures, best))),
    )) c.extend_line.ensures.line
