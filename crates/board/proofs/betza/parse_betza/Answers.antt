use Rattle.std.proofs.Common.{◌≡◌, length, arith}
use Rattle.board.proofs.Common.{nat_tests, nil_from_length, Empty, Letter}
use Rattle.board.proofs.BetzaFaulty.{no_fault}
use Rattle.board.proofs.betza.parse_betza.Goals as goal

pub returns-then-is_empty-clause-read : goal.returns-then-is_empty-clause-read
returns-then-is_empty-clause-read c = λ terms r.
    let nothing : length c.args.text.now ≡ 0 = grind (arith, nat_tests, c.if-is_empty.ensures) in
    no_fault c.args.text.now terms Empty r (nil_from_length c.args.text.now nothing)

pub returns-then-has_foreign_byte-clause-read : goal.returns-then-has_foreign_byte-clause-read
returns-then-has_foreign_byte-clause-read c = λ terms r. no_fault c.args.text.now terms Letter r c.if-has_foreign_byte.ensures
