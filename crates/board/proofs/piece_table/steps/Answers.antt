use Rattle.std.proofs.Common.{Result, rules}
use Rattle.board.proofs.Common.{IsOk, IsOkAnd, terms_of}
use Rattle.board.proofs.Strings.{kind_reading}
use Rattle.board.proofs.piece_table.steps.Goals as goal

is_ok : {X E : Type 0} (r : Result X E) (P : X → Type 0) → IsOkAnd r P → IsOk r
is_ok r P h = search rules

pub unwrap-requires : goal.unwrap-requires
unwrap-requires c = is_ok c.parse_betza.result _ (c.parse_betza.ensures.read (terms_of c.args.kind) (rw c.piece_text.ensures (kind_reading c.args.kind)))

pub returns : goal.returns
returns c = rw c.unwrap.ensures at (c.parse_betza.ensures.read (terms_of c.args.kind) (rw c.piece_text.ensures (kind_reading c.args.kind)))
