use Rattle.std.proofs.Common.{List, refl, get_or, ap, ◌∙◌, arith, true, false, ◌-◌}
use Rattle.verifying.proofs.Common.{Ply, MeetsReply}
use Rattle.verifying.proofs.Failing.{listed_item}
use Rattle.verifying.proofs.Grown.{reply_met}
use Rattle.verifying.proofs.Making.{each_met, few_plies, met_by, none_left, not_each, one_less, one_untold}
use Rattle.verifying.proofs.yes_claims.wins_after.Goals as goal

pub after-requires : goal.after-requires
after-requires g c = listed_item c.args.board.now c.lawful_on-replies.result.items c.as_slice.result.now c.loop-i.i c.index-as_slice-i.result c.lawful_on-replies.ensures c.as_slice.ensures.value (omega (arith, c.loop-i-test.true, c.len-i-end.ensures.value)) c.index-as_slice-i.is

pub returns-then-words-len : goal.returns-then-words-len
returns-then-words-len g c =
    each_met c.args.goal c.args.board.now c.args.plies (c.has_lawful_move.ensures.0 c.if-not-has_lawful_move.false) c.lawful_on-replies.result.items c.args.words.now false c.args.claims.now c.args.claims.now c.lawful_on-replies.ensures (omega (arith, c.if-plies-lt3.false))
    (not_each (MeetsReply c.args.goal c.args.board.now (c.args.plies - 2)) c.lawful_on-replies.result.items c.args.words.now c.args.claims.now (λ same. omega (arith, same, c.if-words-len.true, c.len.ensures.value)))

pub loop-i-preserved : goal.loop-i-preserved
loop-i-preserved g c =
    let q = c.args.board.now in
    let r = c.index-as_slice-i.result in
    let here = met_by c.args.goal q (c.args.plies - 2) r _ c.after.result _ c.loop-i.claims c.meets.new.claims c.after.ensures c.in_ok-meets.ensures in
    record {
      same_length = c.loop-i.invariant.same_length;
      apart = (reply_met c.args.goal q (c.args.plies - 2) r _ c.loop-i.claims c.meets.new.claims ((here c.meets.new.claims).1 (c.if-not-branch.false, refl))).0.1 c.loop-i.invariant.apart;
      left = one_less (MeetsReply c.args.goal q (c.args.plies - 2)) c.lawful_on-replies.result.items c.args.words.now c.args.claims.now c.loop-i.i r _ _ c.loop-i.claims (omega (arith, c.loop-i-test.true, c.len-i-end.ensures.value)) c.loop-i.invariant.same_length
          (c.index-as_slice-i.is ∙ ap (λ (l : List Ply). get_or l c.loop-i.i r) c.as_slice.ensures.value) refl c.loop-i.invariant.left c.meets.new.claims _ c.if-not-branch.false here;
    }

pub returns-then-not-branch : goal.returns-then-not-branch
returns-then-not-branch g c =
    let q = c.args.board.now in
    let r = c.index-as_slice-i.result in
    each_met c.args.goal q c.args.plies (c.has_lawful_move.ensures.0 c.if-not-has_lawful_move.false) c.lawful_on-replies.result.items c.args.words.now false c.args.claims.now c.meets.new.claims c.lawful_on-replies.ensures (omega (arith, c.if-plies-lt3.false))
    (one_untold (MeetsReply c.args.goal q (c.args.plies - 2)) c.lawful_on-replies.result.items c.args.words.now c.args.claims.now c.loop-i.i r _ _ c.loop-i.claims (omega (arith, c.loop-i-test.true, c.len-i-end.ensures.value)) c.loop-i.invariant.same_length
    (c.index-as_slice-i.is ∙ ap (λ (l : List Ply). get_or l c.loop-i.i r) c.as_slice.ensures.value) refl c.loop-i.invariant.left c.meets.new.claims _ c.if-not-branch.true
    (met_by c.args.goal q (c.args.plies - 2) r _ c.after.result _ c.loop-i.claims c.meets.new.claims c.after.ensures c.in_ok-meets.ensures))

pub returns : goal.returns
returns g c =
    each_met c.args.goal c.args.board.now c.args.plies (c.has_lawful_move.ensures.0 c.if-not-has_lawful_move.false) c.lawful_on-replies.result.items c.args.words.now true c.args.claims.now c.loop-i.claims c.lawful_on-replies.ensures (omega (arith, c.if-plies-lt3.false))
    (none_left (MeetsReply c.args.goal c.args.board.now (c.args.plies - 2)) c.lawful_on-replies.result.items c.args.words.now c.args.claims.now c.loop-i.i c.loop-i.claims (omega (arith, c.loop-i-test.false, c.len-i-end.ensures.value)) c.loop-i.invariant.same_length c.loop-i.invariant.left)

pub returns-then-plies-lt3 : goal.returns-then-plies-lt3
returns-then-plies-lt3 g c =
    few_plies c.args.goal c.args.board.now c.args.plies c.args.words.now c.args.claims.now (c.has_lawful_move.ensures.0 c.if-not-has_lawful_move.false) (omega (arith, c.if-plies-lt3.true))
