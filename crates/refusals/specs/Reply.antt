-- What is written, and with what status.
use Rattle.std.specs.Prelude.{ℕ, List, [], ◌∷◌, ◌++◌, codes}
use Rattle.refusals.specs.Refusal.{refusal_status, refusal_text}
use Rattle.refusals.specs.declared.refusal.Refusal.{Refusal}

-- what is written, and the status
pub record Reply : Type 0 where
  pub status : ℕ
  pub text : List ℕ

-- a text on a line of its own
abbrev pub line_of : List ℕ → List ℕ
line_of text = text ++ 10 ∷ []

-- an answer, with status 0
abbrev pub answered : List ℕ → Reply
answered text = record { status = 0; text = text }

-- a refusal, with its status
abbrev pub refused : Refusal → Reply
refused refusal = record { status = refusal_status refusal; text = line_of (codes "refused: " ++ refusal_text refusal) }
