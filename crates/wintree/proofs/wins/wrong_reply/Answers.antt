use Rattle.std.proofs.Common.{◌<◌, length, sym, ◌∙◌, subst, arith, ap, Some}
use Rattle.wintree.proofs.Common.{length-map, false≢true, ListsLawful, slice_get_past}
use Rattle.wintree.proofs.Agreeing.{next_left_out, read_at, reply_at, stands}
use Rattle.wintree.proofs.wins.wrong_reply.Goals as goal
use Rattle.wintree.proofs.wins.wrong_reply.Goals.{in_default-via-in-Some+else-not-is_among, in_default-via-in_default}

pub returns-then-i-replies : goal.returns-then-i-replies
returns-then-i-replies g c =
    let b = c.args.position.now in
    let moves = c.as_slice-moves.result.now in
    let lists = subst (ListsLawful b) (sym c.as_slice-moves.ensures.value) c.lawful-moves.ensures in
    let all = c.if-i-replies.true ∙ sym (length-map c.args.replies.now (λ r. r.0)) in
    let found = c.in_ok-get.ensures.lookup in
    let m = c.in_ok-get.field-0.now in
    let here = read_at moves c.agreeing-i.result m found.3.0 found.1 in
    ((lists.exact m).0 (stands moves c.agreeing-i.result m here), next_left_out b moves _ c.agreeing-i.result m lists all c.agreeing-i.ensures.same here)

pub returns-then-not-is_lawful : goal.returns-then-not-is_lawful
returns-then-not-is_lawful g c =
    let reply = c.index-replies-i in
    let in_range : c.agreeing-i.result < length c.args.replies.now = omega (arith, c.agreeing-i.ensures.within, c.if-i-replies.false) in
    (stands _ c.agreeing-i.result reply.result.0 (reply_at c.args.replies.now c.agreeing-i.result reply.result in_range reply.is), λ lawful. false≢true (c.if-not-is_lawful.ensures.1 lawful))

pub returns-in-Some : goal.returns-in-Some
returns-in-Some g c =
    let moves = c.as_slice-moves.result.now in
    let lists = subst (ListsLawful c.args.position.now) (sym c.as_slice-moves.ensures.value) c.lawful-moves.ensures in
    let found = c.in-Some.ensures.lookup in
    let m = c.in-Some.due.now in
    ((lists.exact m).0 (stands moves c.agreeing-i.result m (read_at moves c.agreeing-i.result m found.3.0 found.1)), λ among. false≢true (c.if-not-is_among.ensures.1 among))

pub returns-in_default : goal.returns-in_default
returns-in_default g c =
    let moves = c.as_slice-moves.result.now in
    let i = c.agreeing-i.result in
    let reply = c.index-replies-i in
    let in_range : i < length c.args.replies.now = omega (arith, c.agreeing-i.ensures.within, c.if-i-replies.false) in
    let here = reply_at c.args.replies.now i reply.result in_range reply.is in
    let lists = subst (ListsLawful c.args.position.now) (sym c.as_slice-moves.ensures.value) c.lawful-moves.ensures in
    let lawful = c.is_lawful.ensures.0 c.if-not-is_lawful.false in
    elim c.in_default.branch [
      | in_default-via-in-Some+else-not-is_among w ↦
          let found = w.in-Some.ensures.lookup in
          let due = read_at moves i w.in-Some.due.now found.3.0 found.1 in
          (moves, i, lists, lawful, here, rw due ((λ same. c.agreeing-i.ensures.differ in_range (due ∙ ap Some same ∙ sym here)), w.is_among.ensures.0 w.if-not-is_among.false))
      | in_default-via-in_default w ↦
          let none = (rw w.in_default.is at c.get-2.ensures.lookup) in (moves, i, lists, lawful, here, rw (slice_get_past moves i none.3) tt)
    ]
