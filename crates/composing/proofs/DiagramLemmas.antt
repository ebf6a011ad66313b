-- A problem's diagram, from what its parts give.
use Rattle.std.proofs.Common.{◌≡◌, ℕ, List, None, subst, sym}
use Rattle.board.specs.declared.game.Side.TheVariants.{White}
use Rattle.board.specs.Board.{PlainBoard}
use Rattle.rules.specs.declared.goal.Goal.{Goal}
use Rattle.rules.specs.Squares.{Ply}
use Rattle.problems.specs.Answer.{IsFewest}
use Rattle.algebraic.specs.declared.naming.Notation.{Notation}
use Rattle.solutions.specs.Lines.{ListsContinuations}
use Rattle.solution_text.specs.Text.{AreTexts, IsNumbered}
use Rattle.diagrams.specs.Pictures.{captioned_picture}
use Rattle.composing.specs.Solution.{IsDiagram, stipulation}

-- the diagram with the listed keys is the problem's
pub is_diagram : (notation : Notation) (goal : Goal) (b : PlainBoard) (plies : ℕ) (keys listed : List Ply) (text : List ℕ) → notation.goal ≡ goal
    → IsFewest goal b plies → ListsContinuations goal b plies keys → listed ≡ keys
    → (named : List ℕ) × AreTexts (IsNumbered notation 1 b) listed named
    × (text ≡ captioned_picture (record { board = b; below = White }) None (stipulation goal plies) named)
    → IsDiagram notation b text
is_diagram notation goal b plies keys listed text same fewest lists are (named, texts, is) = (
  plies,
  subst (λ g. IsFewest g b plies) (sym same) fewest,
  keys,
  subst (λ g. ListsContinuations g b plies keys) (sym same) lists,
  named,
  subst (λ ks. AreTexts (IsNumbered notation 1 b) ks named) are texts,
  subst (λ g. text ≡ captioned_picture (record { board = b; below = White }) None (stipulation g plies) named) (sym same) is,
)
