-- A command shows one reply.
use Rattle.std.proofs.Common.{◌≡◌, ℕ, List, Bool, true, false, Option, None, Some, MatchBool, SomeIff, refl, sym, ap, subst, ◌∙◌, inl, inr}
use Rattle.std.specs.Option.{MatchOption}
use Rattle.board.specs.Board.{PlainBoard}
use Rattle.board.proofs.FenParts.{one_board}
use Rattle.rules.specs.declared.goal.Goal.{Goal}
use Rattle.rules.specs.Reading.{IsSoundFault}
use Rattle.problems.specs.declared.answer.Answer.{Answer}
use Rattle.problems.specs.Answer.{IsAnswer}
use Rattle.problems.specs.declared.key.Key.{Key}
use Rattle.searcher.specs.declared.fault.SolveFault.{SolveFault}
use Rattle.problems.specs.Keys.{ListsKeys}
use Rattle.wintree.specs.Plan.{Plan}
use Rattle.wintree.specs.Text.{text as plan_text}
use Rattle.wintree.specs.Wins.{Wins, height}
use Rattle.wintree.proofs.Listings.{one_list}
use Rattle.text_laws.proofs.OneText.{one_text}
use Rattle.answer_laws.proofs.Unique.{one_best}
use Rattle.command_line.specs.declared.line.Line.{Line}
use Rattle.command_line.specs.declared.line.Limits.{Limits}
use Rattle.command_line.specs.declared.line.Action.{Action}
use Rattle.command_line.specs.declared.line.Action.TheVariants.{Solve, Keys, Moves, Tree, Check}
use Rattle.devices.specs.Input.{without_line_feed}
use Rattle.refusals.specs.Refusal.{refusal_of_fen, refusal_of_tree}
use Rattle.answer_texts.specs.Answers.{answer_text, keys_text, moves_text, checked_text}
use Rattle.context.specs.Limits.{refusal_of_solve, fault_of}
use Rattle.replies.specs.Output.{ShowsBest, ShowsPlan, ShowsTree, ShowsCommand, IsOutput}
use Rattle.refusals.specs.Outcome.{IsSoundText}
use Rattle.refusals.specs.Reply.{Reply, answered, refused, line_of}
use Rattle.text_laws.proofs.Faults.{one_sound_fault, no_sound_fault, one_tree_fault, no_tree_fault}
use Rattle.output_laws.specs.Outputs.{NamesAsMany, SearchesAlike}
use Rattle.answer_laws.proofs.OneAnswer.{one_answer, one_list_of_keys}

-- ---- parts

-- one reply of two kinds, told apart by a value that is there or not
one_match : {F : Type 0} (o : Option F) (A : Reply → Type 0) (f : F → Reply) → ((x y : Reply) → A x → A y → x ≡ y) → (x y : Reply) → MatchOption o (A x) (λ fault. x ≡ f fault) → MatchOption o (A y) (λ fault. y ≡ f fault) → x ≡ y
one_match None A f one x y p q = one x y p q
one_match (Some fault) A f one x y p q = p ∙ sym q

one_bool : (r : Bool) (z : Reply) (A : Reply → Type 0) → ((x y : Reply) → A x → A y → x ≡ y) → (x y : Reply) → MatchBool r (x ≡ z) (A x) → MatchBool r (y ≡ z) (A y) → x ≡ y
one_bool true z A one x y p q = p ∙ sym q
one_bool false z A one x y p q = one x y p q

one_if_some : (a b : Option ℕ) (P : Type 0) (n : ℕ) → SomeIff a P n → SomeIff b P n → a ≡ b
one_if_some None None P n p q = refl
one_if_some None (Some k) P n p q = absurd (p q.0)
one_if_some (Some k) None P n p q = absurd (q p.0)
one_if_some (Some k) (Some l) P n p q = ap Some (p.1 ∙ sym q.1)

-- ---- commands

one_best_shown : (goal : Goal) (b : PlainBoard) (limit : ℕ) (x y : Reply) → ShowsBest goal b limit x → ShowsBest goal b limit y → x ≡ y
one_best_shown goal b limit x y (inl p) (inl q) =
    let plan = p.3 in
    let other = q.3 in
    plan.2 ∙ ap (λ t. answered (line_of (plan_text t))) (one_best goal b plan.0 other.0 plan.1 other.1) ∙ sym other.2
one_best_shown goal b limit x y (inl p) (inr q) = absurd (q.0 p.0 p.1 p.2.forced)
one_best_shown goal b limit x y (inr p) (inl q) = absurd (p.0 q.0 q.1 q.2.forced)
one_best_shown goal b limit x y (inr p) (inr q) = p.1 ∙ sym q.1

one_plan_shown : (goal : Goal) (b : PlainBoard) (plan : Plan) (x y : Reply) → ShowsPlan goal b plan x → ShowsPlan goal b plan y → x ≡ y
one_plan_shown goal b plan x y p q =
    p.2 ∙ ap (λ o. answered (checked_text o)) (one_if_some p.0 q.0 (Wins goal b plan) (height plan) p.1 q.1) ∙ sym q.2

one_tree_shown : (goal : Goal) (b : PlainBoard) (text : List ℕ) (x y : Reply) → ShowsTree goal b text x → ShowsTree goal b text y → x ≡ y
one_tree_shown goal b text x y (inl (plan, is, shows)) (inl (other, also, shown)) =
    let same : plan ≡ other = one_text plan other is.0.0 also.0.0 (sym is.0.1 ∙ also.0.1) in
    one_plan_shown goal b other x y (subst (λ t. ShowsPlan goal b t x) same shows) shown
one_tree_shown goal b text x y (inl (plan, is, shows)) (inr (fault, wrong, e)) = absurd (wrong.1 (no_tree_fault text plan fault is.0 is.1 wrong.0))
one_tree_shown goal b text x y (inr (fault, wrong, e)) (inl (plan, is, shows)) = absurd (wrong.1 (no_tree_fault text plan fault is.0 is.1 wrong.0))
one_tree_shown goal b text x y (inr (fault, wrong, e)) (inr (other, also, f)) =
    e ∙ ap (λ t. refused (refusal_of_tree t)) (one_tree_fault text fault other wrong.1 also.1 wrong.0 also.0) ∙ sym f

one_shown : (b : PlainBoard) (action : Action) (input : List ℕ) (x y : Reply) → ShowsCommand b action input x → ShowsCommand b action input y → x ≡ y
one_shown b (Solve goal limits) input = one_match (fault_of limits) _ (λ fault. refused (refusal_of_solve fault))
    (λ x y p q. p.2 ∙ ap (λ a. answered (answer_text goal a)) (one_answer goal b limits.limit p.0 q.0 p.1 q.1) ∙ sym q.2)
one_shown b (Keys goal limits) input = one_match (fault_of limits) _ (λ fault. refused (refusal_of_solve fault))
    (λ x y p q. p.2 ∙ ap (λ ks. answered (keys_text limits.limit ks)) (one_list_of_keys goal b limits.limit p.0 q.0 p.1 q.1) ∙ sym q.2)
one_shown b Moves input = λ x y p q. p.2 ∙ ap (λ ms. answered (moves_text ms)) (one_list b p.0 q.0 p.1 q.1) ∙ sym q.2
one_shown b (Tree goal limits) input = one_match (fault_of limits) (ShowsBest goal b limits.limit) (λ fault. refused (refusal_of_solve fault)) (one_best_shown goal b limits.limit)
one_shown b (Check goal) input = one_bool _ _ (ShowsTree goal b (without_line_feed input)) (one_tree_shown goal b (without_line_feed input))

-- ---- lines

pub one_output : (line : Line) (input : List ℕ) (x y : Reply) → IsOutput line input x → IsOutput line input y → x ≡ y
one_output line input x y (inl (b, is, shows)) (inl (c, also, shown)) =
    let same : b ≡ c = one_board line.fen.now b c is.1 also.1 in
    one_shown c line.action input x y (subst (λ p. ShowsCommand p line.action input x) same shows) shown
one_output line input x y (inl (b, is, shows)) (inr (fault, wrong, e)) = absurd (no_sound_fault line.fen.now b fault is.0 is.1 is.2 wrong)
one_output line input x y (inr (fault, wrong, e)) (inl (b, is, shows)) = absurd (no_sound_fault line.fen.now b fault is.0 is.1 is.2 wrong)
one_output line input x y (inr (fault, wrong, e)) (inr (other, also, f)) =
    e ∙ ap (λ t. refused (refusal_of_fen t)) (one_sound_fault line.fen.now fault other wrong also) ∙ sym f

-- ---- the input

other_input : (b : PlainBoard) (action : Action) (input other : List ℕ) (reply : Reply) → ((goal : Goal) → action ≡ Check goal → ⊥) → ShowsCommand b action input reply → ShowsCommand b action other reply
other_input b (Solve goal limits) input other reply none shows = shows
other_input b (Keys goal limits) input other reply none shows = shows
other_input b Moves input other reply none shows = shows
other_input b (Tree goal limits) input other reply none shows = shows
other_input b (Check goal) input other reply none shows = absurd (none goal refl)

pub any_input : (line : Line) (input other : List ℕ) (reply : Reply) → ((goal : Goal) → line.action ≡ Check goal → ⊥) → IsOutput line input reply → IsOutput line other reply
any_input line input other reply none (inl (b, is, shows)) = inl (b, is, other_input b line.action input other reply none shows)
any_input line input other reply none (inr wrong) = inr wrong

-- ---- workers and slots

to_none : {F : Type 0} (o : Option F) (A : Type 0) (P : F → Type 0) → o ≡ None → A → MatchOption o A P
to_none None A P e a = a
to_none (Some f) A P e a = cc

pub in_none : {F : Type 0} (o : Option F) (A : Type 0) (P : F → Type 0) → o ≡ None → MatchOption o A P → A
in_none None A P e m = m
in_none (Some f) A P e m = cc

-- what is shown within limits that aren't refused is shown within others of as many plies
shown_within : (P : Goal → ℕ → Type 0) (goal goal' : Goal) (one other : Limits) (f : SolveFault → Type 0) → (goal ≡ goal') × NamesAsMany one other → MatchOption (fault_of one) (P goal one.limit) f → MatchOption (fault_of other) (P goal' other.limit) f
shown_within P goal goal' one other f (same, many) shows =
    to_none (fault_of other) _ f many.also (subst (P goal') many.plies (subst (λ g. P g one.limit) same (in_none (fault_of one) _ f many.taken shows)))

shown_alike : (b : PlainBoard) (action other : Action) (input : List ℕ) (reply : Reply) → SearchesAlike action other → ShowsCommand b action input reply → ShowsCommand b other input reply
shown_alike b (Solve goal one) (Solve goal' other) input reply alike shows =
    shown_within (λ g limit. (answer : Answer) × IsAnswer g b limit answer × (reply ≡ answered (answer_text g answer))) goal goal' one other _ alike shows
shown_alike b (Keys goal one) (Keys goal' other) input reply alike shows =
    shown_within (λ g limit. (keys : List Key) × ListsKeys g b limit keys × (reply ≡ answered (keys_text limit keys))) goal goal' one other _ alike shows
shown_alike b (Tree goal one) (Tree goal' other) input reply alike shows =
    shown_within (λ g limit. ShowsBest g b limit reply) goal goal' one other _ alike shows
shown_alike b action other input reply alike shows = absurd alike

pub any_workers : (line other : Line) (input : List ℕ) (x y : Reply) → line.fen.now ≡ other.fen.now → SearchesAlike line.action other.action → IsOutput line input x → IsOutput other input y → x ≡ y
any_workers line other input x y same alike (inl (b, is, shows)) output =
    one_output other input x y (inl (b, subst (λ fen. IsSoundText fen b) same is, shown_alike b line.action other.action input x alike shows)) output
any_workers line other input x y same alike (inr (fault, wrong, e)) output =
    one_output other input x y (inr (fault, subst (λ fen. IsSoundFault fen fault) same wrong, e)) output
