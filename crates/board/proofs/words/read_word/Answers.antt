use Rattle.std.proofs.Common.{◌-◌, take, drop, length, get_or, [], ◌∷◌, arith}
use Rattle.board.proofs.RankText.{split_first}
use Rattle.board.proofs.TwoWords.{short_first}
use Rattle.board.proofs.words.read_word.Goals as goal

pub returns-in-Some : goal.returns-in-Some
returns-in-Some c =
    let text = c.args.text.now in
    short_first text (get_or text 0 0 ∷ []) (take (length text - 1) (drop 1 text)) c.in-Some.terms.items c.in-Some.ensures (split_first text 0 (omega arith))
