use Rattle.std.proofs.Common.{◌∙◌, refl, sym, arith, false, length}
use Rattle.verifying.proofs.Common.{Decides-eqb, nil_from_length, FailsBecause}
use Rattle.verifying.proofs.Failing.{lawful_item}
use Rattle.verifying.proofs.Grown.{reason_fails}
use Rattle.verifying.proofs.Making.{because, more_plies, one_ply, not_each, one_less, one_untold}
use Rattle.verifying.proofs.no_claims.all_fail.Goals as goal

pub after-board-requires : goal.after-board-requires
after-board-requires g c = lawful_item c.args.claim.now.position c.args.moves.now c.loop-i.i c.index-moves-i.result c.requires.lawful c.loop-i-test.true c.index-moves-i.is

pub returns-then-is_empty : goal.returns-then-is_empty
returns-then-is_empty g c =
    one_ply c.args.goal c.args.claim.now.position c.args.claim.now.plies c.args.moves.now c.args.words.now c.args.claims.now c.none_reaches.result (omega (arith, c.if-claim-eq1.true))
    (nil_from_length c.args.words.now ((Decides-eqb (length c.args.words.now) 0).0 (sym c.is_empty.ensures ∙ c.if-is_empty.true))) c.none_reaches.ensures

pub returns-then-words-moves : goal.returns-then-words-moves
returns-then-words-moves g c =
    more_plies c.args.goal c.args.claim.now.position c.args.claim.now.plies c.args.moves.now c.args.words.now c.args.claims.now false c.args.claims.now c.if-claim-eq1.false (omega (arith, c.if-claim-lt2.false))
    (not_each (FailsBecause c.args.goal c.args.claim.now.position c.args.claim.now.plies) c.args.moves.now c.args.words.now c.args.claims.now (λ same. omega (arith, same, c.if-words-moves.true)))

pub loop-i-preserved : goal.loop-i-preserved
loop-i-preserved g c =
    let it = c.args.claim.now in
    let m = c.index-moves-i.result in
    let here = because c.args.goal it.position it.plies m _ c.after-board.result _ c.loop-i.claims c.fails.new.claims c.after-board.ensures c.in_ok-fails.ensures in
    record {
      same_length = c.loop-i.invariant.same_length;
      apart = (reason_fails c.args.goal it.position it.plies m _ c.loop-i.claims c.fails.new.claims ((here c.fails.new.claims).1 (c.if-not-branch.false, refl))).0.1 c.loop-i.invariant.apart;
      left = one_less (FailsBecause c.args.goal it.position it.plies) c.args.moves.now c.args.words.now c.args.claims.now c.loop-i.i m _ _ c.loop-i.claims c.loop-i-test.true c.loop-i.invariant.same_length c.index-moves-i.is refl c.loop-i.invariant.left c.fails.new.claims _ c.if-not-branch.false here;
    }

pub returns-then-not-branch : goal.returns-then-not-branch
returns-then-not-branch g c =
    let it = c.args.claim.now in
    let m = c.index-moves-i.result in
    more_plies c.args.goal it.position it.plies c.args.moves.now c.args.words.now c.args.claims.now false c.fails.new.claims c.if-claim-eq1.false (omega (arith, c.if-claim-lt2.false))
    (one_untold (FailsBecause c.args.goal it.position it.plies) c.args.moves.now c.args.words.now c.args.claims.now c.loop-i.i m _ _ c.loop-i.claims c.loop-i-test.true c.loop-i.invariant.same_length c.index-moves-i.is refl c.loop-i.invariant.left c.fails.new.claims _ c.if-not-branch.true
    (because c.args.goal it.position it.plies m _ c.after-board.result _ c.loop-i.claims c.fails.new.claims c.after-board.ensures c.in_ok-fails.ensures))
