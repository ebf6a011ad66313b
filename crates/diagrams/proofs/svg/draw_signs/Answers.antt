use Rattle.std.proofs.Common.{string_bytes}
use Rattle.diagrams.specs.Pictures.{view_of, rank_picture, file_picture, signs_picture}
use Rattle.diagrams.proofs.DrawingLemmas.{drawn_on, two_drawn}
use Rattle.diagrams.proofs.svg.draw_signs.Goals as goal

pub loop-n-preserved : goal.loop-n-preserved
loop-n-preserved c =
    let d = view_of c.args.diagram.now in
    let n = c.loop-n.n in
    drawn_on (signs_picture d) n (string_bytes c.args.text.now) (string_bytes c.loop-n.text) (string_bytes c.draw_file.new.text) c.loop-n.invariant
    (two_drawn (string_bytes c.loop-n.text) (string_bytes c.draw_rank.new.text) (string_bytes c.draw_file.new.text) (rank_picture d n) (file_picture d n)
    c.in_ok-draw_rank.ensures c.in_ok-draw_file.ensures)
