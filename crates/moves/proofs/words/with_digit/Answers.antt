use Rattle.moves.proofs.Common.{◌≡◌, ◌<◌, refl, subst, sym, xor_lt, bit_xor, digit}
use Rattle.moves.proofs.Digits.{digit_there, digit_other}
use Rattle.moves.proofs.words.with_digit.Goals as goal

pub returns : goal.returns
returns c =
    let e : c.from.result ≡ bit_xor (digit c.args.word c.args.place) c.args.code = rw c.digit.ensures.value at c.from.ensures in
    let small = subst (λ n. n < 16) (sym c.from.ensures) (xor_lt 4 _ _ c.digit.ensures.small c.requires.code) in
    record {
      there = digit_there c.args.word c.args.place c.args.code c.from.result _ c.requires.place c.requires.code e small refl;
      elsewhere = digit_other c.args.word c.args.place c.args.code c.from.result _ c.requires.place c.requires.code e small refl;
    }
