-- A solution, from what its parts give.
use Rattle.std.proofs.Common.{◌≡◌, ◌∙◌, ◌≤◌, ◌⊎◌, ℕ, Bool, false, List, None, Some, Result, Ok, Err, IsErr, IsErrAnd, Vec, ap, inl, inr, refl, subst, sym, vec_items}
use Rattle.std.specs.Prelude.{MatchOption}
use Rattle.std.specs.Borrow.{Bor}
use Rattle.std.specs.declared.alloc.Global.{Global}
use Rattle.board.specs.Board.{PlainBoard}
use Rattle.board.specs.Fen.{IsFenText}
use Rattle.rules.specs.declared.goal.Goal.{Goal}
use Rattle.problems.specs.Answer.{IsFewest}
use Rattle.problems.specs.Roots.{IsRoot}
use Rattle.problems.specs.declared.root.Root.{Root}
use Rattle.command_line.specs.declared.line.Limits.{Limits}
use Rattle.command_line.specs.declared.line.Subject.{Subject}
use Rattle.command_line.specs.declared.line.SolutionOptions.{SolutionOptions}
use Rattle.refusals.specs.Reply.{Reply, answered, refused}
use Rattle.refusals.specs.declared.refusal.Refusal.{Refusal}
use Rattle.refusals.specs.declared.refusal.Refusal.TheVariants as refusal
use Rattle.refusals.specs.Outcome.{Gives, IsSoundText}
use Rattle.endings.specs.Run.{Ending, Finishes}
use Rattle.context.specs.Limits.{fault_of}
use Rattle.algebraic.specs.declared.naming.Notation.{Notation}
use Rattle.solutions.specs.declared.solution.Solution.{Solution}
use Rattle.solutions.specs.Solutions.{IsSolution}
use Rattle.solution_text.specs.Text.{IsSolutionText}
use Rattle.solution_text.specs.WholeText.{IsWholeSolution}
use Rattle.solution_text.specs.Cut.{IsCutSolution}
use Rattle.solution_text.specs.declared.beginning.SolutionStyle.{SolutionStyle}
use Rattle.solution_text.specs.Data.{solution_data}
use Rattle.answer_texts.specs.Answers.{none_text}
use Rattle.composing.specs.declared.problem.Composed.{Composed}
use Rattle.composing.specs.declared.problem.Composed.TheVariants.{Text, Told}
use Rattle.composing.specs.declared.problem.Form.{Form}
use Rattle.composing.specs.declared.problem.Form.TheVariants.{Whole, Short, Data, Picture}
use Rattle.composing.specs.Solution.{IsDiagram, IsInForm, IsPublished, IsSolutionReply, SaysNone, ShowsFirstNamed, ShowsNoSolution, ShowsSolution, WritesSolution, extras_of, form_of, is_sooner, notation_of, symbols_of}
use Rattle.composing.specs.declared.whole_form.WholeForm.{WholeForm}
use Rattle.composing.specs.declared.whole_form.Solved.{Solved}
use Rattle.composing.specs.Parts.{Composes, ComposesReply, IsAskedWhole, IsAskedOf, IsComposed, WritesAsked, style_asked}
use Rattle.context.proofs.ShownLemmas.{gives_weaker}

module _ (goal : Goal) (b : PlainBoard) (options : SolutionOptions) (sooner : Bool) where
  -- what is in the form that is asked for is published
  in_form : (form : Form) (text : List ℕ) → form_of options ≡ form → IsInForm form goal b options sooner text → IsPublished goal b options sooner text
  in_form form text same is = subst (λ f. IsInForm f goal b options sooner text) (sym same) is

  pub short_text : (notation : Notation) (solution : Solution Global) (text : List ℕ) → form_of options ≡ Short
      → IsSolution goal b (extras_of options sooner) solution → notation ≡ notation_of goal options → IsSolutionText notation b sooner solution text
      → IsPublished goal b options sooner text
  short_text notation solution text same is same_notation is_text =
      in_form Short text same (solution, is, subst (λ n. IsSolutionText n b sooner solution text) same_notation is_text)

  pub data_text : (fen : List ℕ) (solution : Solution Global) (text : List ℕ) → form_of options ≡ Data → IsFenText fen b
      → IsSolution goal b (extras_of options sooner) solution → text ≡ solution_data fen goal sooner solution → IsPublished goal b options sooner text
  data_text fen solution text same is_fen is is_text = in_form Data text same (fen, is_fen, (solution, is, is_text))

  pub diagram_text : (notation : Notation) (text : List ℕ) → form_of options ≡ Picture → notation ≡ notation_of goal options → IsDiagram notation b text
      → IsPublished goal b options sooner text
  diagram_text notation text same same_notation is = in_form Picture text same (subst (λ n. IsDiagram n b text) same_notation is)

-- that nothing is forced, as text or as data
pub plain_none : (json : Bool) (goal : Goal) (b : PlainBoard) (limit : ℕ) (r : Result (Vec ℕ Global) Refusal) → json ≡ false
    → Gives vec_items (λ reply. reply ≡ answered (none_text limit)) r → Gives vec_items (ShowsNoSolution json goal b limit) r
plain_none json goal b limit r plain gives =
    gives_weaker vec_items (λ reply. reply ≡ answered (none_text limit)) (ShowsNoSolution json goal b limit) r
    (λ reply is. (none_text limit, subst (λ (j : Bool). SaysNone j goal b limit (none_text limit)) (sym plain) refl, is)) gives

-- the solution is shown
pub published_shown : (goal : Goal) (b : PlainBoard) (options : SolutionOptions) (limits : Limits) (plies : ℕ) (text : List ℕ) → fault_of limits ≡ None → plies ≤ limits.limit
    → IsFewest goal b plies → IsPublished goal b options (is_sooner plies limits.limit) text → ShowsSolution goal b options limits (answered text)
published_shown goal b options limits plies text none within fewest is = rw none (inl (plies, within, fewest, (text, is, refl)))

-- what is composed of the root is shown, or asked for
pub composed_shown : (goal : Goal) (b : PlainBoard) (options : SolutionOptions) (limits : Limits) (r : Root) (sooner : Bool) (composed : Composed) → IsRoot r → r.goal ≡ goal → r.board ≡ b
    → fault_of limits ≡ None → r.limit ≤ limits.limit → IsFewest goal b r.limit → sooner ≡ is_sooner r.limit limits.limit → IsComposed r options sooner composed
    → Composes (ShowsSolution goal b options limits) (IsAskedOf goal b options limits) (Ok composed)
composed_shown goal b options limits r sooner (Text text) root goal_is board_is taken within fewest same is =
    published_shown goal b options limits r.limit text.items taken within fewest
    (subst (λ (x : Goal × PlainBoard × Bool). IsPublished x.0 x.1 options x.2 text.items) (λ i. (goal_is i, board_is i, same i)) is)
composed_shown goal b options limits r sooner (Told solved) root goal_is board_is taken within fewest same (form, root_is, style_is) = record {
  root = subst IsRoot (sym root_is) root;
  for_goal = ap (λ (x : Root). x.goal) root_is ∙ goal_is;
  at = ap (λ (x : Root). x.board) root_is ∙ board_is;
  fewest = subst (λ (x : Root). IsFewest goal b x.limit) (sym root_is) fewest;
  within = subst (λ (x : Root). x.limit ≤ limits.limit) (sym root_is) within;
  taken = taken;
  form = form;
  style = style_is ∙ ap (style_asked options) (same ∙ sym (ap (λ (x : Root). is_sooner x.limit limits.limit) root_is));
}

composes_weaker : (Is Shows : Reply → Type 0) (IsSo Asks : WholeForm → Type 0) (r : Result Composed Refusal) → ((reply : Reply) → Is reply → Shows reply) → ((asked : WholeForm) → IsSo asked → Asks asked)
    → Composes Is IsSo r → Composes Shows Asks r
composes_weaker Is Shows IsSo Asks (Ok (Text text)) shows asks is = shows (answered text.items) is
composes_weaker Is Shows IsSo Asks (Ok (Told solved)) shows asks is = asks solved.asked is
composes_weaker Is Shows IsSo Asks (Err why) shows asks (inl none) = inl none
composes_weaker Is Shows IsSo Asks (Err why) shows asks (inr is) = inr (shows (refused why) is)

-- what is shown at the sound position is the reply
module _ (subject : Subject) (options : SolutionOptions) (limits : Limits) (b : PlainBoard) (sound : IsSoundText subject.fen.now b) where
  shown_reply : (reply : Reply) → options.first ≡ None → ShowsSolution subject.goal b options limits reply → IsSolutionReply subject options limits reply
  shown_reply reply none shows =
      inl (
        b,
        sound,
        subst (λ first. MatchOption first (ShowsSolution subject.goal b options limits reply)
            (λ name. ShowsFirstNamed (symbols_of options.figurines) subject.goal b limits name.now reply)) (sym none) shows,
      )

  pub solution_at_text : (r : Result Composed Refusal) → options.first ≡ None → Composes (ShowsSolution subject.goal b options limits) (IsAskedOf subject.goal b options limits) r
      → ComposesReply subject options limits r
  solution_at_text r none composes =
      composes_weaker (ShowsSolution subject.goal b options limits) (IsSolutionReply subject options limits) (IsAskedOf subject.goal b options limits) _ r
      (λ reply shows. shown_reply reply none shows) (λ asked is. (none, b, sound, is)) composes

  -- the play behind the first move of this name
  pub first_reply : (name : Bor (List ℕ)) (reply : Reply) → options.first ≡ Some name → ShowsFirstNamed (symbols_of options.figurines) subject.goal b limits name.now reply
      → IsSolutionReply subject options limits reply
  first_reply name reply some shows =
      inl (
        b,
        sound,
        subst (λ first. MatchOption first (ShowsSolution subject.goal b options limits reply)
            (λ name. ShowsFirstNamed (symbols_of options.figurines) subject.goal b limits name.now reply)) (sym some) shows,
      )

  -- the whole solution that is asked for
  module _ (asked : WholeForm) (none : options.first ≡ None) (is : IsAskedOf subject.goal b options limits asked) where
    abbrev sooner : Bool
    sooner = is_sooner asked.root.limit limits.limit

    told : (text : List ℕ) → IsAskedWhole asked text → IsSolutionReply subject options limits (answered text)
    told text whole =
        let so : IsWholeSolution (symbols_of options.figurines) subject.goal b (extras_of options sooner) text =
        subst (λ (x : SolutionStyle × Goal × PlainBoard). IsWholeSolution x.0.symbols x.1 x.2 x.0.extras text) (λ i. (is.style i, is.for_goal i, is.at i)) whole in
        shown_reply (answered text) none
        (published_shown subject.goal b options limits asked.root.limit text is.taken is.within is.fewest (in_form subject.goal b options sooner Whole text is.form so))

    pub asked_ran : (ending : Ending) → WritesAsked asked ending → WritesSolution subject options limits ending
    asked_ran ending (inl (text, whole, finishes)) = inl (inl (answered text, told text whole, finishes))
    asked_ran ending (inr (inl (text, cut, finishes))) =
        inr (
          none,
          is.form,
          is.taken,
          b,
          sound,
          asked.root.limit,
          is.within,
          is.fewest,
          text,
          subst (λ (x : SolutionStyle × Goal × PlainBoard). IsCutSolution x.0.symbols x.1 x.2 x.0.extras text) (λ i. (is.style i, is.for_goal i, is.at i)) cut,
          finishes,
        )
    asked_ran ending (inr (inr finishes)) = inl (inr finishes)

-- a root whose whole solution is asked for has the fewest plies for its limit
pub asked_fewest : (goal : Goal) (b : PlainBoard) (options : SolutionOptions) (limits : Limits) (asked : WholeForm) → IsAskedOf goal b options limits asked
    → IsFewest asked.root.goal asked.root.board asked.root.limit
asked_fewest goal b options limits asked is = subst (λ (x : Goal × PlainBoard). IsFewest x.0 x.1 asked.root.limit) (λ i. (sym is.for_goal i, sym is.at i)) is.fewest

-- what is to be told is asked for
pub told_asked : (subject : Subject) (options : SolutionOptions) (limits : Limits) (composed : Composed) (solved : Solved) → composed ≡ Told solved
    → ComposesReply subject options limits (Ok composed)
    → (options.first ≡ None) × (b : PlainBoard) × IsSoundText subject.fen.now b × IsAskedOf subject.goal b options limits solved.asked
told_asked subject options limits composed solved same is = subst (λ x. ComposesReply subject options limits (Ok x)) same is

-- a text is written
pub text_ran : (subject : Subject) (options : SolutionOptions) (limits : Limits) (composed : Composed) (text : Vec ℕ Global) (ending : Ending) → composed ≡ Text text
    → ComposesReply subject options limits (Ok composed) → Finishes ending text.items 0 → WritesSolution subject options limits ending
text_ran subject options limits composed text ending same is finishes =
    let reply : IsSolutionReply subject options limits (answered text.items) = subst (λ x. ComposesReply subject options limits (Ok x)) same is in
    inl (inl (answered text.items, reply, finishes))

-- a refusal of a first move that is named
pub first_refused : (subject : Subject) (options : SolutionOptions) (limits : Limits) (why : Refusal) (r : Result Composed Refusal)
    → (why ≡ refusal.NoMemory) ⊎ IsSolutionReply subject options limits (refused why) → IsErr r × IsErrAnd r (λ x. x ≡ why) → ComposesReply subject options limits r
first_refused subject options limits why (Ok composed) right err = absurd err.1
first_refused subject options limits why (Err other) right err =
    subst (λ x. (x ≡ refusal.NoMemory) ⊎ IsSolutionReply subject options limits (refused x)) (sym err.1) right
