-- The order that the checker's program answers.
use Rattle.command_line.specs.declared.line.Order.{Order}
use Rattle.command_line.specs.declared.line.Order.TheVariants.{Verify}
use Rattle.endings.specs.Run.{Run}
use Rattle.endings.specs.Words.{DoesNothing}
use Rattle.verdicts.specs.Verifying.{MayReadAbout, RunsVerify}

-- the run is one of the order
abbrev pub VerifiesOrder : Order → Run → Type 0
VerifiesOrder (Verify subject) run = RunsVerify subject run
VerifiesOrder _ run = DoesNothing run

-- the order reads the input: its position is sound
abbrev pub ReadsCertificate : Order → Type 0
ReadsCertificate (Verify subject) = MayReadAbout subject
ReadsCertificate _ = ⊥
