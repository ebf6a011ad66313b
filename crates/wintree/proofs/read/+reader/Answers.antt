-- Each exit and each turn of the reader, by what it has read.
use Rattle.std.proofs.Common.{◌+◌, ◌≤◌, sym, ◌∙◌, ap, subst, refl, arith, add-one, Some}
use Rattle.wintree.proofs.Common.{err_from_is_err_and, Mate, Stale, Stands, AreRepliesAhead, ReadsReplies}
use Rattle.wintree.proofs.Lists.{some_more, plans_more, room_more}
use Rattle.wintree.proofs.Reader.{no_attack, no_reply, no_end, read_end, read_brace, brace_too_deep, read_node, no_colon, read_colon, no_comma, read_comma, read_close, more_spans, last_spans}
use Rattle.wintree.proofs.read.+reader.Goals as goal
use Rattle.wintree.proofs.read.+reader.Goals.{tree_at-in_default-via-in-Some+in_default, tree_at-in_default-via-in_default, replies_at-in_default-via-in-Some+in_default, replies_at-in_default-via-in_default, replies_at-in_default-byte_at-via-in-Some+in_default, replies_at-in_default-byte_at-via-in_default}

-- ---- a tree

pub tree_at-returns-in_err-attack-clause-fault : goal.tree_at-returns-in_err-attack-clause-fault
tree_at-returns-in_err-attack-clause-fault g t c =
    let p = err_from_is_err_and c.from_residual.result c.from_residual.ensures.1 in
    rw (p.1, p.2) (no_attack c.args.bytes.now c.args.at c.args.inside _ c.requires.stands c.requires.room c.in_err-attack.ensures.fault)

pub tree_at-returns-in_ok-end-in-Some-eq35-clause-read :
    goal.tree_at-returns-in_ok-end-in-Some-eq35-clause-read
tree_at-returns-in_ok-end-in-Some-eq35-clause-read g t c =
    let is = sym c.in-Some-eq35.ensures ∙ ap Some c.in-Some-eq35.field-0-test in
    read_end c.args.bytes.now c.args.at c.in_ok-attack.next c.args.inside 35 c.in_ok-attack.attack Mate _ c.requires.stands c.requires.room c.in_ok-attack.ensures.read is refl refl refl c.in_ok-end-in-Some-eq35.ensures

pub tree_at-returns-in_ok-end-in-Some-eq61-clause-read :
    goal.tree_at-returns-in_ok-end-in-Some-eq61-clause-read
tree_at-returns-in_ok-end-in-Some-eq61-clause-read g t c =
    let is = sym c.in-Some-eq61.ensures ∙ ap Some c.in-Some-eq61.field-0-test in
    read_end c.args.bytes.now c.args.at c.in_ok-attack.next c.args.inside 61 c.in_ok-attack.attack Stale _ c.requires.stands c.requires.room c.in_ok-attack.ensures.read is refl refl refl c.in_ok-end-in-Some-eq61.ensures

pub tree_at-returns-in_default-clause-fault : goal.tree_at-returns-in_default-clause-fault
tree_at-returns-in_default-clause-fault g t c =
    let stops = no_end c.args.bytes.now c.args.at c.in_ok-attack.next c.args.inside c.in_ok-attack.attack c.requires.stands c.requires.room c.in_ok-attack.ensures.read in
    elim c.in_default.branch [
      | tree_at-in_default-via-in-Some+in_default w ↦ stops (λ e. w.in_default.field-0-test.0.0.1 (cc)) (λ e. w.in_default.field-0-test.0.1 (cc)) (λ e. w.in_default.field-0-test.1 (cc))
      | tree_at-in_default-via-in_default w ↦ stops (λ e. cc) (λ e. cc) (λ e. cc)
    ]

pub tree_at-returns-then-inside-eq-DEEPEST-clause-fault : goal.tree_at-returns-then-inside-eq-DEEPEST-clause-fault
tree_at-returns-then-inside-eq-DEEPEST-clause-fault g t c =
    let is = sym c.in-Some-eq123.ensures ∙ ap Some c.in-Some-eq123.field-0-test in
    brace_too_deep c.args.bytes.now c.args.at c.in_ok-attack.next c.args.inside c.in_ok-attack.attack c.requires.stands (omega (arith, c.if-inside-eq-DEEPEST.true)) c.in_ok-attack.ensures.read is

pub tree_at-replies_at-requires : goal.tree_at-replies_at-requires
tree_at-replies_at-requires g t c κs within =
    let is = sym c.in-Some-eq123.ensures ∙ ap Some c.in-Some-eq123.field-0-test in
    let low : c.args.inside + 1 ≤ 31 = omega (arith, c.if-inside-eq-DEEPEST.false, c.requires.room) in
    let stands = read_brace c.args.bytes.now c.args.at c.in_ok-attack.next c.args.inside c.in_ok-attack.attack c.requires.stands (omega arith) c.in_ok-attack.ensures.read is in
    (omega (arith, c.decreases, low), (within, ((omega arith, omega arith), subst (λ n. Stands c.args.bytes.now (c.in_ok-attack.next + 1) n (AreRepliesAhead n)) (sym (add-one c.args.inside)) stands)))

pub tree_at-node-requires-clause-room : goal.tree_at-node-requires-clause-room
tree_at-node-requires-clause-room g t c = λ k d lt. omega (arith, c.in_ok-replies-in-Some-eq123.ensures.read.room k d lt)

pub tree_at-returns-in_ok-node-in-Some-eq123-clause-read :
    goal.tree_at-returns-in_ok-node-in-Some-eq123-clause-read
tree_at-returns-in_ok-node-in-Some-eq123-clause-read g t c =
    let is = sym c.in-Some-eq123.ensures ∙ ap Some c.in-Some-eq123.field-0-test in
    let list = c.in_ok-replies-in-Some-eq123.replies.items in
    let replies = subst (λ n. ReadsReplies c.args.bytes.now (c.in_ok-attack.next + 1) n list c.in_ok-replies-in-Some-eq123.end) (add-one c.args.inside) c.in_ok-replies-in-Some-eq123.ensures.read in
    read_node c.args.bytes.now c.args.at c.in_ok-attack.next c.in_ok-replies-in-Some-eq123.end c.args.inside c.in_ok-attack.attack list _ c.in_ok-attack.ensures.read is (omega (arith, c.if-inside-eq-DEEPEST.false, c.requires.room)) replies c.in_ok-node-in-Some-eq123.ensures

-- ---- replies

pub replies_at-returns-in_err-reply-clause-fault : goal.replies_at-returns-in_err-reply-clause-fault
replies_at-returns-in_err-reply-clause-fault g t c =
    let p = err_from_is_err_and c.from_residual.result c.from_residual.ensures.1 in
    rw (p.1, p.2) (no_reply c.args.bytes.now c.loop-replies.start c.args.inside _ c.requires.room.0 c.loop-replies.invariant.stands c.requires.room.1 c.in_err-reply.ensures.fault)

pub replies_at-returns-in_default-clause-fault : goal.replies_at-returns-in_default-clause-fault
replies_at-returns-in_default-clause-fault g t c =
    let stops = no_colon c.args.bytes.now c.loop-replies.start c.in_ok-reply.next c.args.inside c.in_ok-reply.reply c.requires.room.0 c.loop-replies.invariant.stands c.requires.room.1 c.in_ok-reply.ensures.read in
    elim c.in_default.branch [
      | replies_at-in_default-via-in-Some+in_default w ↦ stops (λ e. w.in_default.field-0-test.1 (cc))
      | replies_at-in_default-via-in_default w ↦ stops (λ e. cc)
    ]

pub replies_at-tree_at-requires : goal.replies_at-tree_at-requires
replies_at-tree_at-requires g t c κs within =
    let colon = sym c.in-Some-eq58.ensures ∙ ap Some c.in-Some-eq58.field-0-test in
    (omega (arith, c.decreases), (within, (c.requires.room.1, read_colon c.args.bytes.now c.loop-replies.start c.in_ok-reply.next c.args.inside c.in_ok-reply.reply c.requires.room.0 c.loop-replies.invariant.stands c.requires.room.1 c.in_ok-reply.ensures.read colon)))

pub replies_at-returns-in_default-byte_at-clause-fault :
    goal.replies_at-returns-in_default-byte_at-clause-fault
replies_at-returns-in_default-byte_at-clause-fault g t c =
    let stops = no_comma c.args.bytes.now c.in_ok-below.end c.args.inside c.requires.room.0 c.in_ok-below.ensures.read.stands in
    elim c.in_default-byte_at.branch [
      | replies_at-in_default-byte_at-via-in-Some+in_default w ↦ stops (λ e. w.in_default-byte_at.field-0-test.1 (cc)) (λ e. w.in_default-byte_at.field-0-test.0.1 (cc))
      | replies_at-in_default-byte_at-via-in_default w ↦ stops (λ e. cc) (λ e. cc)
    ]

pub replies_at-loop-replies-preserved : goal.replies_at-loop-replies-preserved
replies_at-loop-replies-preserved g t c =
    let colon = sym c.in-Some-eq58.ensures ∙ ap Some c.in-Some-eq58.field-0-test in
    let comma = sym c.in-Some-eq44.ensures ∙ ap Some c.in-Some-eq44.field-0-test in
    let items = c.in_ok-push.ensures.items in
    let before = c.loop-replies.invariant in
    record {
      later = omega (arith, before.later, c.in_ok-reply.ensures.read.later, c.in_ok-below.ensures.read.later);
      spans = more_spans c.args.bytes.now c.args.at c.loop-replies.start c.in_ok-reply.next c.in_ok-below.end c.args.inside c.loop-replies.replies.items c.push.new.self.items c.in_ok-reply.reply c.in_ok-below.below items before.spans c.in_ok-reply.ensures.read colon c.in_ok-below.ensures.read comma;
      stands = read_comma c.args.bytes.now c.in_ok-below.end c.args.inside c.requires.room.0 c.requires.room.1 c.in_ok-below.ensures.read.stands comma;
      room = room_more c.push.new.self.items c.loop-replies.replies.items c.in_ok-reply.reply c.in_ok-below.below items c.args.inside before.room c.in_ok-below.ensures.read.room;
      plans = plans_more c.push.new.self.items c.loop-replies.replies.items c.in_ok-reply.reply c.in_ok-below.below items before.plans c.in_ok-reply.ensures.read.ply c.in_ok-below.ensures.read.is_plan;
    }

pub replies_at-returns-in-Some-eq125-clause-read :
    goal.replies_at-returns-in-Some-eq125-clause-read
replies_at-returns-in-Some-eq125-clause-read g t c =
    let colon = sym c.in-Some-eq58.ensures ∙ ap Some c.in-Some-eq58.field-0-test in
    let close = sym c.in-Some-eq125.ensures ∙ ap Some c.in-Some-eq125.field-0-test in
    let items = c.in_ok-push.ensures.items in
    let before = c.loop-replies.invariant in
    record {
      later = omega (arith, before.later, c.in_ok-reply.ensures.read.later, c.in_ok-below.ensures.read.later);
      some = some_more c.push.new.self.items c.loop-replies.replies.items c.in_ok-reply.reply c.in_ok-below.below items;
      spans = last_spans c.args.bytes.now c.args.at c.loop-replies.start c.in_ok-reply.next c.in_ok-below.end c.args.inside c.loop-replies.replies.items c.push.new.self.items c.in_ok-reply.reply c.in_ok-below.below items before.spans c.in_ok-reply.ensures.read colon c.in_ok-below.ensures.read close;
      stands = read_close c.args.bytes.now c.in_ok-below.end c.args.inside c.requires.room.0 c.requires.room.1 c.in_ok-below.ensures.read.stands close;
      room = room_more c.push.new.self.items c.loop-replies.replies.items c.in_ok-reply.reply c.in_ok-below.below items c.args.inside before.room c.in_ok-below.ensures.read.room;
      plans = plans_more c.push.new.self.items c.loop-replies.replies.items c.in_ok-reply.reply c.in_ok-below.below items before.plans c.in_ok-reply.ensures.read.ply c.in_ok-below.ensures.read.is_plan;
    }
