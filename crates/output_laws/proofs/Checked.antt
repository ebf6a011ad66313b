-- What is checked of what was printed.
use Rattle.std.proofs.Common.{◌≡◌, ◌≤◌, ◌-◌, ℕ, List, [], ◌∷◌, cond, length, take, get_or, Some, length-append, refl, sym, ap, subst, ◌∙◌, inl, inr, arith}
use Rattle.std.proofs.lemmas.Bool.{le-ltb, eq-eqb}
use Rattle.std.proofs.lemmas.List.{take_at, get_or-append_right}
use Rattle.board.specs.Board.{PlainBoard}
use Rattle.board.proofs.FenParts.{one_board}
use Rattle.rules.specs.declared.goal.Goal.{Goal}
use Rattle.rules.specs.Squares.{Ply}
use Rattle.problems.specs.declared.answer.Answer.{Answer}
use Rattle.problems.specs.declared.answer.Answer.TheVariants.{Mate, NoneWithin}
use Rattle.problems.specs.Answer.{IsFewest, IsAnswer}
use Rattle.wintree.specs.Plan.{Plan}
use Rattle.wintree.specs.Text.{text as plan_text}
use Rattle.searcher.specs.Best.{IsBest}
use Rattle.searcher.proofs.Fewest.{best_plan}
use Rattle.command_line.specs.declared.line.Line.{Line}
use Rattle.command_line.specs.declared.line.Limits.{Limits}
use Rattle.command_line.specs.declared.line.Action.TheVariants.{Solve, Tree, Check}
use Rattle.devices.specs.Input.{without_line_feed}
use Rattle.answer_texts.specs.Answers.{answer_text, checked_text}
use Rattle.searcher.proofs.Limits.{limit_within}
use Rattle.context.specs.Limits.{fault_of}
use Rattle.replies.specs.Output.{ShowsBest, ShowsPlanFound, ShowsTree, ShowsCheck, ShowsCommand, IsOutput}
use Rattle.context.specs.Shown.{ShowsAnswer}
use Rattle.refusals.specs.Outcome.{IsSoundText}
use Rattle.refusals.specs.Reply.{Reply, answered, line_of}
use Rattle.text_laws.proofs.Faults.{no_sound_fault}
use Rattle.answer_laws.proofs.OneAnswer.{one_fewest}
use Rattle.answer_laws.proofs.Heights.{best_is_read}
use Rattle.output_laws.specs.Outputs.{IsForcedWithin}
use Rattle.output_laws.proofs.Shown.{in_none}

-- ---- a line at its sound position

shown_at : (line : Line) (input : List ℕ) (reply : Reply) (b : PlainBoard) → IsSoundText line.fen.now b → IsOutput line input reply → ShowsCommand b line.action input reply
shown_at line input reply b is (inl (c, also, shows)) = subst (λ p. ShowsCommand p line.action input reply) (one_board line.fen.now c b also.1 is.1) shows
shown_at line input reply b is (inr (fault, wrong, e)) = absurd (no_sound_fault line.fen.now b fault is.0 is.1 is.2 wrong)

-- ---- solve

named : (goal : Goal) (b : PlainBoard) (limit plies : ℕ) (answer : Answer) (reply : Reply) → plies ≤ limit → IsFewest goal b plies → IsAnswer goal b limit answer → reply ≡ answered (answer_text goal answer) → (first : Ply) × (reply ≡ answered (answer_text goal (Mate plies first)))
named goal b limit plies (Mate n first) reply within fewest is e =
    (first, e ∙ ap (λ k. answered (answer_text goal (Mate k first))) (one_fewest goal b n plies is.1 fewest))
named goal b limit plies (NoneWithin k) reply within fewest is e = absurd (is.1 plies within fewest.forced)

pub solve_names : (line : Line) (goal : Goal) (limits : Limits) (plies : ℕ) (input : List ℕ) (reply : Reply) → IsForcedWithin line.fen.now goal limits plies → line.action ≡ Solve goal limits → IsOutput line input reply
    → (first : Ply) × (reply ≡ answered (answer_text goal (Mate plies first)))
solve_names line goal limits plies input reply forced is output =
    let shown : ShowsAnswer goal forced.board limits reply = subst (λ a. ShowsCommand forced.board a input reply) is (shown_at line input reply forced.board forced.sound output) in
    let found = in_none (fault_of limits) _ _ forced.taken shown in
    named goal forced.board limits.limit plies found.0 reply forced.within forced.fewest found.1 found.2

-- ---- tree and check

-- a line feed at the end is taken off
feed_off : (text : List ℕ) → without_line_feed (line_of text) ≡ text
feed_off text =
    let last : length (line_of text) - 1 ≡ length text = omega (arith, length-append text (10 ∷ [])) in
    let nothing : length text - length text ≡ 0 = omega arith in
    let byte : get_or (line_of text) (length (line_of text) - 1) 0 ≡ 10 = ap (λ n. get_or (line_of text) n 0) last ∙ get_or-append_right text (10 ∷ []) (length text) (length text) 0 refl (omega arith) ∙ ap (λ i. get_or (10 ∷ []) i 0) nothing in
    ap (λ r. cond r (take (length (line_of text) - 1) (line_of text)) (line_of text)) (eq-eqb _ 10 byte)
    ∙ ap (λ n. take n (line_of text)) last ∙ take_at text (10 ∷ []) (length text) refl

plan_shown : (goal : Goal) (b : PlainBoard) (limit plies : ℕ) (reply : Reply) → plies ≤ limit → IsFewest goal b plies → ShowsBest goal b limit reply → (plan : Plan) × IsBest goal b plan × (reply ≡ answered (line_of (plan_text plan)))
plan_shown goal b limit plies reply within fewest (inl found) = found.3
plan_shown goal b limit plies reply within fewest (inr none) = absurd (none.0 plies within fewest.forced)

checked : (goal : Goal) (b : PlainBoard) (plies : ℕ) (plan : Plan) → plies ≤ 63 → IsFewest goal b plies → IsBest goal b plan → ShowsTree goal b (plan_text plan) (answered (checked_text (Some plies)))
checked goal b plies plan within fewest best =
    let won = best_plan goal b plan best plies fewest in
    inl (plan, best_is_read goal b plan plies best fewest within, (Some plies, (won.0, sym won.1), refl))

check_shown : (goal : Goal) (b : PlainBoard) (input text : List ℕ) (reply : Reply) → input ≡ line_of text → length input ≤ 1048576 → ShowsTree goal b text reply → ShowsCheck goal b input reply
check_shown goal b input text reply is short shows =
    let same : without_line_feed input ≡ text = ap without_line_feed is ∙ feed_off text in
    rw (le-ltb 1048576 (length input) short) (subst (λ t. ShowsTree goal b t reply) (sym same) shows)

pub tree_is_checked : (tree check : Line) (goal : Goal) (limits : Limits) (plies : ℕ) (input : List ℕ) (printed : Reply) → IsForcedWithin tree.fen.now goal limits plies → check.fen.now ≡ tree.fen.now
    → tree.action ≡ Tree goal limits → check.action ≡ Check goal → IsOutput tree input printed → length printed.text ≤ 1048576 → IsOutput check printed.text (answered (checked_text (Some plies)))
tree_is_checked tree check goal limits plies input printed forced same is_tree is_check output short =
    let b = forced.board in
    let shown : ShowsPlanFound goal b limits printed = subst (λ a. ShowsCommand b a input printed) is_tree (shown_at tree input printed b forced.sound output) in
    let found = plan_shown goal b limits.limit plies printed forced.within forced.fewest (in_none (fault_of limits) _ _ forced.taken shown) in
    let low : plies ≤ 63 = omega (arith, forced.within, (limit_within limits.limit limits.workers limits.slots forced.taken).1) in
    let shows : ShowsCheck goal b printed.text (answered (checked_text (Some plies))) =
    check_shown goal b printed.text (plan_text found.0) (answered (checked_text (Some plies))) (ap (λ (r : Reply). r.text) found.2) short (checked goal b plies found.0 low forced.fewest found.1) in
    inl (b, subst (λ fen. IsSoundText fen b) (sym same) forced.sound, subst (λ a. ShowsCommand b a printed.text (answered (checked_text (Some plies)))) (sym is_check) shows)
