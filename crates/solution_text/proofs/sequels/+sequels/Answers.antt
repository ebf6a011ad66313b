use Rattle.std.proofs.Common.{All, List, Option, ◌≡◌, ℕ, ◌-◌, ◌≤◌, [], ◌++◌, codes, refl, sym, ap, subst, ◌∙◌, arith, drop, string_bytes}
use Rattle.solution_text.proofs.Common.{append-nil, decimal, PlainBoard, Goal, Ply, IsLawful, ListsLawful, same_side-self, ForcesNothing, Notation, name_text, ListsContinuations, IsVirtualPlay, sequel, play, key_reaches, key_meets, mate_found, nothing_found, met_here, AreDualsText, IsPlayText, TellsSequel, TellsLong}
use Rattle.problems.proofs.Jobs.{lawful_job}
use Rattle.decision.proofs.Options.{none_at, some_at}
use Rattle.searcher.proofs.Forcing.{some_ply, forced_within}
use Rattle.solution_text.specs.declared.posed.Posed.{Posed}
use Rattle.solution_text.specs.WholeText.{IsChangedText}
use Rattle.solution_text.proofs.BestLine.{continuations_lawful}
use Rattle.solution_text.proofs.Told.{TellsThreat, no_set, tell_none, tell_one, tell_skip, tell_all, all_played, some_move, first_is, same_plies, no_long, a_long}
use Rattle.solution_text.proofs.sequels.+sequels.Goals as goal
use Rattle.solution_text.proofs.sequels.+sequels.Goals.{play_text-in-Moves+in_ok-lines-in-Moves, play_text-in_default, play_text-in_default-via-in-Moves+else-plies-gt1, play_text-in_default-via-in_default, sequels_text-in-Some+in_ok-push_str, sequels_text-in_default}

-- ---- a sequel

pub sequel_text-bounds-moves-0 : goal.sequel_text-bounds-moves-0
sequel_text-bounds-moves-0 g t c = some_move c.args.teller.now.notation.goal c.args.board.now c.args.found.now.plies c.args.found.now.moves.now c.requires.fewest c.requires.moves

pub sequel_text-after-next-requires : goal.sequel_text-after-next-requires
sequel_text-after-next-requires g t c =
    let some = some_move c.args.teller.now.notation.goal c.args.board.now c.args.found.now.plies c.args.found.now.moves.now c.requires.fewest c.requires.moves in
    let wins = (c.requires.moves.exact c.index-moves-0.result).0 (0, some, sym c.index-moves-0.is) in
    (wins.0, wins.1)

pub sequel_text-duals_text-requires : goal.sequel_text-duals_text-requires
sequel_text-duals_text-requires g t c = continuations_lawful c.args.teller.now.notation.goal c.args.board.now c.args.found.now.plies c.args.found.now.moves.now c.requires.moves

pub sequel_text-play_text-requires : goal.sequel_text-play_text-requires
sequel_text-play_text-requires g t c κs within =
    let goal = c.args.teller.now.notation.goal in
    let b = c.args.board.now in
    let n = c.args.found.now.plies in
    let m = c.index-moves-0.result in
    let q = c.after-next.result in
    let some = some_move goal b n c.args.found.now.moves.now c.requires.fewest c.requires.moves in
    let wins = (c.requires.moves.exact m).0 (0, some, sym c.index-moves-0.is) in
    let plies = some_ply goal b.mover b n (same_side-self b.mover) c.requires.fewest.forced in
    let left = c.saturating_sub-left.ensures in
    let bound = c.requires.number in
    let most = c.requires.plies in (
      omega (arith, c.decreases, left, plies),
      (
        within.0,
        (
          within.1,
          (
            omega (arith, left, bound, plies),
            (omega (arith, left, most), (no_set c.args.teller.now.set c.requires.set, key_reaches goal b m q c.after-next.ensures n wins)),
          ),
        ),
      ),
    )

pub sequel_text-returns-clause-sequel : goal.sequel_text-returns-clause-sequel
sequel_text-returns-clause-sequel g t c =
    let notation = c.args.teller.now.notation in
    let number = c.args.teller.now.number in
    let b = c.args.board.now in
    let n = c.args.found.now.plies in
    let m = c.index-moves-0.result in
    let q = c.after-next.result in
    let some = some_move notation.goal b n c.args.found.now.moves.now c.requires.fewest c.requires.moves in
    let wins = (c.requires.moves.exact m).0 (0, some, sym c.index-moves-0.is) in
    let is = first_is c.args.found.now.moves.now m some c.index-moves-0.is in
    let duals = subst (λ ms. AreDualsText notation number b ms (string_bytes c.in_ok-duals.duals)) is c.in_ok-duals.ensures in
    let played = c.in_ok-play.ensures.play in
    let left : c.saturating_sub-left.result ≡ n - 2 = omega (arith, c.saturating_sub-left.ensures) in
    let then_is = all_played notation.goal q (n - 2) played.0 (key_meets notation.goal b m q c.after-next.ensures n wins) (subst (λ (k : ℕ). IsVirtualPlay notation.goal q k played.0) left played.1) in (
      m,
      drop 1 c.args.found.now.moves.now,
      is,
      played.0,
      (c.requires.fewest, subst (ListsContinuations notation.goal b n) is c.requires.moves, (q, c.after-next.ensures, then_is)),
      (
        q,
        c.after-next.ensures,
        c.name-name.result,
        c.name-name.ensures,
        string_bytes c.in_ok-duals.duals,
        duals,
        string_bytes c.in_ok-play.play,
        subst (λ (at : Option Posed × List ℕ). IsPlayText notation number at.0 q at.1 played.0 (string_bytes c.in_ok-play.play))
            (λ i. (c.requires.set i, (c.as_str.ensures.value ∙ c.in_ok-end.ensures.ok) i)) played.2,
        c.in_ok-format.ensures.ok,
      ),
    )

-- ---- the play behind a move

pub play_text-returns-in_err-format-clause-goes : goal.play_text-returns-in_err-format-clause-goes
play_text-returns-in_err-format-clause-goes g t c =
    let joined : g.D.Decider.goes c.threats_of.new.decider c.match-threats-2.decider = elim c.match-threats-2.branch [
      | play_text-in-Moves+in_ok-lines-in-Moves w ↦ rw w.decider-is w.long_text.ensures.goes
      | play_text-in_default w ↦ rw w.decider-is (g.met.D.Decider.goes_at_once _)
    ] in
    g.met.D.Decider.goes_on _ _ _ (g.met.D.Decider.goes_on _ _ _ c.threats_of.ensures.goes joined) c.sequels_text.ensures.goes

pub play_text-returns-clause-goes : goal.play_text-returns-clause-goes
play_text-returns-clause-goes g t c =
    let joined : g.D.Decider.goes c.threats_of.new.decider c.match-threats-2.decider = elim c.match-threats-2.branch [
      | play_text-in-Moves+in_ok-lines-in-Moves w ↦ rw w.decider-is w.long_text.ensures.goes
      | play_text-in_default w ↦ rw w.decider-is (g.met.D.Decider.goes_at_once _)
    ] in
    g.met.D.Decider.goes_on _ _ _ (g.met.D.Decider.goes_on _ _ _ c.threats_of.ensures.goes joined) c.sequels_text.ensures.goes

pub play_text-returns-clause-play : goal.play_text-returns-clause-play
play_text-returns-clause-play g t c =
    let notation = c.args.teller.now.notation in
    let number = c.args.teller.now.number in
    let q = c.args.board.now in
    let n = c.args.left in
    let threats = c.in_ok-threats.threats in
    let are = c.in_ok-threats.ensures.threats in
    let head = string_bytes c.in_ok-head.head in
    let told : TellsThreat notation number q n head (string_bytes c.match-threats-2.lines) = elim c.match-threats-2.branch [
      | play_text-in-Moves+in_ok-lines-in-Moves w ↦ rw w.lines-is (a_long notation number q n threats w.in-Moves.plies w.in-Moves.moves head (string_bytes w.in_ok-lines-in-Moves.lines) w.in-Moves.is are c.in_ok-head.ensures w.if-plies-gt1.true
          (subst (λ ms. TellsLong notation number q w.in-Moves.plies ms (string_bytes w.in_ok-lines-in-Moves.lines)) w.as_slice.ensures.value w.in_ok-lines-in-Moves.ensures.threat))
      | play_text-in_default w ↦ elim w.in_default.branch [
        | play_text-in_default-via-in-Moves+else-plies-gt1 v ↦ rw w.lines-is (no_long notation number q n threats head (string_bytes w.new-lines.result) are c.in_ok-head.ensures
            (λ k moves is. let same = same_plies threats k v.in-Moves.plies moves v.in-Moves.moves is v.in-Moves.is in omega (arith, same, v.if-plies-gt1.false)) w.new-lines.ensures.bytes)
        | play_text-in_default-via-in_default v ↦ rw w.lines-is (no_long notation number q n threats head (string_bytes w.new-lines.result) are c.in_ok-head.ensures
            (λ k moves is. absurd (v.in_default.not-Moves k moves is)) w.new-lines.ensures.bytes)
      ]
    ] in
    let replies = c.in_ok-replies.ensures.replies in (
      play told.threat replies.0,
      (told.is, replies.1, replies.2),
      (head, told.head_is, string_bytes c.match-threats-2.lines, told.lines_are, string_bytes c.in_ok-replies.replies, replies.3, c.in_ok-format.ensures.ok),
    )

-- ---- a longer threat

pub long_text-returns-clause-threat : goal.long_text-returns-clause-threat
long_text-returns-clause-threat g t c =
    let n = c.args.plies in
    let line = string_bytes c.in_ok-sequel.sequel in
    let told = subst (λ (at : Notation × ℕ × PlainBoard). TellsSequel at.0 at.1 at.2 n c.args.moves.now [] line)
    (λ i. (c.farther.ensures.notation i, c.farther.ensures.number i, c.in-Some.ensures.0 i)) c.in_ok-sequel.ensures.sequel in
    let spelled = c.in_ok-format.ensures.ok ∙ ap (λ blanks. blanks ++ (decimal c.args.teller.now.number ++ (codes "...~" ++ line))) c.in_ok-blanks.ensures in
    (told.0, told.1, told.2, told.3, told.4, (line, told.5, spelled))

-- ---- a reply

pub reply_text-returns-in-Some-NoneWithin-clause-reply : goal.reply_text-returns-in-Some-NoneWithin-clause-reply
reply_text-returns-in-Some-NoneWithin-clause-reply g t c =
    let r = c.on-root.result in
    let limited : r.limit ≡ c.args.limit = omega (arith, c.on-root.ensures.limit) in
    let nothing = subst (λ (at : Goal × PlainBoard × ℕ). ForcesNothing at.0 at.1 at.2) (λ i. (c.on-root.ensures.goal i, c.on-root.ensures.position i, limited i))
    (nothing_found r.goal r.board r.limit c.in-Some-NoneWithin.field-0 c.in-Some-NoneWithin.field-0-0 c.in-Some-NoneWithin.field-0-is c.in-Some-NoneWithin.ensures.answer) in
    λ met. nothing c.args.limit (omega arith) (met_here c.args.teller.now.notation.goal c.args.board.now c.args.reply c.after.result c.after.ensures c.args.limit met)

pub reply_text-continuations_of-requires-clause-plies : goal.reply_text-continuations_of-requires-clause-plies
reply_text-continuations_of-requires-clause-plies g t c =
    let r = c.on-root.result in
    let most = r.limited in
    let found = mate_found r.goal r.board r.limit c.in-Some-Mate.field-0 c.in-Some-Mate.plies c.in-Some-Mate.field-0-1 c.in-Some-Mate.field-0-is c.in-Some-Mate.ensures.answer in
    (some_ply r.goal r.board.mover r.board c.in-Some-Mate.plies (same_side-self r.board.mover) found.1.forced, omega (arith, found.0))

pub reply_text-returns-in_err-found-clause-goes : goal.reply_text-returns-in_err-found-clause-goes
reply_text-returns-in_err-found-clause-goes g t c = g.met.D.Decider.goes_on _ _ _ c.solve_by.ensures.goes c.continuations_of.ensures.goes

pub reply_text-changed_text-requires-clause-moves : goal.reply_text-changed_text-requires-clause-moves
reply_text-changed_text-requires-clause-moves g t c =
    let r = c.on-root.result in
    subst (All (IsLawful r.board)) (sym c.as_slice-moves.ensures.value) (continuations_lawful r.goal r.board c.in-Some-Mate.plies c.in_ok-found.found.items c.in_ok-found.ensures.moves)

pub reply_text-returns-in_err-changed-clause-goes : goal.reply_text-returns-in_err-changed-clause-goes
reply_text-returns-in_err-changed-clause-goes g t c = g.met.D.Decider.goes_on _ _ _ (g.met.D.Decider.goes_on _ _ _ c.solve_by.ensures.goes c.continuations_of.ensures.goes) c.changed_text.ensures.goes

pub reply_text-returns-in_err-blanks-clause-goes : goal.reply_text-returns-in_err-blanks-clause-goes
reply_text-returns-in_err-blanks-clause-goes g t c = g.met.D.Decider.goes_on _ _ _ (g.met.D.Decider.goes_on _ _ _ (g.met.D.Decider.goes_on _ _ _ c.solve_by.ensures.goes c.continuations_of.ensures.goes) c.changed_text.ensures.goes) c.sequel_text.ensures.goes

pub reply_text-returns-in_err-format-clause-goes : goal.reply_text-returns-in_err-format-clause-goes
reply_text-returns-in_err-format-clause-goes g t c = g.met.D.Decider.goes_on _ _ _ (g.met.D.Decider.goes_on _ _ _ (g.met.D.Decider.goes_on _ _ _ c.solve_by.ensures.goes c.continuations_of.ensures.goes) c.changed_text.ensures.goes) c.sequel_text.ensures.goes

pub reply_text-returns-clause-goes : goal.reply_text-returns-clause-goes
reply_text-returns-clause-goes g t c = g.met.D.Decider.goes_on _ _ _ (g.met.D.Decider.goes_on _ _ _ (g.met.D.Decider.goes_on _ _ _ c.solve_by.ensures.goes c.continuations_of.ensures.goes) c.changed_text.ensures.goes) c.sequel_text.ensures.goes

pub reply_text-returns-clause-reply : goal.reply_text-returns-clause-reply
reply_text-returns-clause-reply g t c =
    let notation = c.args.teller.now.notation in
    let r = c.on-root.result in
    let p = c.after.result in
    let k = c.in-Some-Mate.plies in
    let line = string_bytes c.in_ok-sequel.sequel in
    let found = mate_found r.goal r.board r.limit c.in-Some-Mate.field-0 k c.in-Some-Mate.field-0-1 c.in-Some-Mate.field-0-is c.in-Some-Mate.ensures.answer in
    let few : k ≤ c.args.limit = omega (arith, c.on-root.ensures.limit, found.0) in
    let last = string_bytes c.in_ok-changed.changed in
    let told = subst (λ (at : Notation × ℕ × PlainBoard × List ℕ). TellsSequel at.0 at.1 at.2 k c.as_slice-moves.result.now at.3 line)
    (λ i. (c.farther.ensures.notation i, c.farther.ensures.number i, c.on-root.ensures.position i, c.as_str-last.ensures.value i)) c.in_ok-sequel.ensures.sequel in
    let text = string_bytes c.in_ok-format.field-0 in
    let changed = subst (λ (at : PlainBoard × List Ply). IsChangedText notation c.args.teller.now.set c.args.reply at.0 at.1 last) (λ i. (c.on-root.ensures.position i, told.2 i)) c.in_ok-changed.ensures.changed in
    let spelled = c.in_ok-format.ensures.ok
    ∙ ap (λ blanks. blanks ++ (decimal c.args.teller.now.number ++ (codes "..." ++ (name_text c.name-name.result ++ line)))) c.in_ok-blanks.ensures in (
      (p, c.after.ensures, forced_within notation.goal p.mover p k c.args.limit few told.4.0.forced),
      (
        sequel told.0 told.1 told.3,
        ((p, c.after.ensures, (k, told.4)), tt),
        (text, [], (p, c.after.ensures, c.name-name.result, c.name-name.ensures, last, changed, line, told.5, spelled), refl, sym (append-nil text)),
      ),
    )

-- ---- the replies

pub sequels_text-loop-reply-init : goal.sequels_text-loop-reply-init
sequels_text-loop-reply-init g t c = record {
  goes = g.met.D.Decider.goes_at_once _;
  tells = tell_none c.args.teller.now.notation c.args.teller.now.number c.args.teller.now.set c.args.board.now c.args.limit c.as_slice-reply-items.result.now (string_bytes c.new-text.result) c.new-text.ensures.bytes;
}

pub sequels_text-reply_text-requires : goal.sequels_text-reply_text-requires
sequels_text-reply_text-requires g t c κs within =
    let lists = subst (ListsLawful c.args.board.now) (sym c.as_slice-reply-items.ensures.value) c.lawful_on-replies.ensures in (
      omega (arith, c.decreases),
      (
        within.0,
        (
          within.1,
          (
            c.requires.number,
            (
              c.requires.limit,
              (
                c.requires.set,
                lawful_job c.args.board.now c.as_slice-reply-items.result.now lists c.loop-reply.reply-index c.reply-item.result c.loop-reply-test.true c.reply-item.is,
              ),
            ),
          ),
        ),
      ),
    )

pub sequels_text-returns-in_err-push_str-clause-goes : goal.sequels_text-returns-in_err-push_str-clause-goes
sequels_text-returns-in_err-push_str-clause-goes g t c = g.met.D.Decider.goes_on _ _ _ c.loop-reply.invariant.goes c.reply_text.ensures.goes

pub sequels_text-loop-reply-preserved : goal.sequels_text-loop-reply-preserved
sequels_text-loop-reply-preserved g t c =
    let notation = c.args.teller.now.notation in
    let number = c.args.teller.now.number in
    let q = c.args.board.now in
    let n = c.args.limit in
    let xs = c.as_slice-reply-items.result.now in
    let i = c.loop-reply.reply-index in
    let r = c.reply-item.result in
    let old = string_bytes c.loop-reply.text in
    let lists = subst (ListsLawful q) (sym c.as_slice-reply-items.ensures.value) c.lawful_on-replies.ensures in
    let goes = g.met.D.Decider.goes_on _ _ _ c.loop-reply.invariant.goes c.reply_text.ensures.goes in
    elim c.match-branch-2.branch [
      | sequels_text-in-Some+in_ok-push_str w ↦ record {
        goes = goes;
        tells = rw w.text-is (tell_one notation number c.args.teller.now.set q n xs lists old i r c.loop-reply-test.true c.reply-item.is c.loop-reply.invariant.tells (string_bytes w.in-Some.one) (string_bytes w.push_str.new.self)
            (some_at c.in_ok-one.field-0 w.in-Some.one _ _ w.in-Some.is c.in_ok-one.ensures.reply) (w.in_ok-push_str.ensures.bytes ∙ ap (λ t. old ++ t) w.as_str.ensures.value));
      }
      | sequels_text-in_default w ↦ record {
        goes = goes;
        tells = rw w.text-is (tell_skip notation number c.args.teller.now.set q n xs lists old i r c.loop-reply-test.true c.reply-item.is c.loop-reply.invariant.tells
            (none_at c.in_ok-one.field-0 _ _ w.in_default.not-Some c.in_ok-one.ensures.reply));
      }
    ]

pub sequels_text-returns-clause-replies : goal.sequels_text-returns-clause-replies
sequels_text-returns-clause-replies g t c =
    let q = c.args.board.now in
    let lists = subst (ListsLawful q) (sym c.as_slice-reply-items.ensures.value) c.lawful_on-replies.ensures in
    tell_all c.args.teller.now.notation c.args.teller.now.number c.args.teller.now.set q c.args.limit c.as_slice-reply-items.result.now lists (string_bytes c.loop-reply.text) c.loop-reply.reply-index c.loop-reply-test.false c.loop-reply.invariant.tells
