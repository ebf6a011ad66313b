-- What `show` writes: a board as it is asked for.
use Rattle.std.specs.Prelude.{◌≡◌, ℕ, List, None, if◌then◌else◌}
use Rattle.board.specs.declared.game.Side.{Side}
use Rattle.board.specs.declared.game.Side.TheVariants.{White, Black}
use Rattle.board.specs.Board.{PlainBoard}
use Rattle.command_line.specs.declared.line.Drawing.{Drawing}
use Rattle.diagrams.specs.declared.style.Style.{Style}
use Rattle.diagrams.specs.declared.style.Style.TheVariants.{Letters, Symbols}
use Rattle.diagrams.specs.Drawing.{board_drawn}
use Rattle.diagrams.specs.Pictures.{View, picture}
use Rattle.refusals.specs.Outcome.{IsReplyAt}
use Rattle.refusals.specs.Reply.{Reply, answered}
use Rattle.endings.specs.Run.{Run, WritesReply}

-- the side that sits below
abbrev pub below_of : Drawing → Side
below_of drawing = if drawing.black then Black else White

-- how units are written
abbrev pub style_of : Drawing → Style
style_of drawing = if drawing.unicode then Symbols else Letters

-- the board as the side below sees it
abbrev pub drawing_view : Drawing → PlainBoard → View
drawing_view drawing b = record { board = b; below = below_of drawing }

-- a picture with no arrow, or text
abbrev pub drawn : Drawing → PlainBoard → List ℕ
drawn drawing b = if drawing.svg then picture (drawing_view drawing b) None else board_drawn (style_of drawing) (below_of drawing) b

-- the board is shown so
abbrev pub ShowsDrawing : Drawing → PlainBoard → Reply → Type 0
ShowsDrawing drawing b reply = reply ≡ answered (drawn drawing b)

-- the same at the sound position of a text, or the refusal of the text's fault
abbrev pub IsDrawingReply : List ℕ → Drawing → Reply → Type 0
IsDrawingReply fen drawing reply = IsReplyAt fen (ShowsDrawing drawing) reply

-- the run is one of a drawing, which reads nothing
abbrev pub RunsShow : List ℕ → Drawing → Run → Type 0
RunsShow fen drawing run = (run.failed_reads ≡ 0) × WritesReply (IsDrawingReply fen drawing) run.ending
