use Rattle.std.proofs.Common.{sym, ◌∙◌, get_or, eq-eqb}
use Rattle.verifying.proofs.Common.{false≢true, get_or_default}
use Rattle.verifying.proofs.Spelling.{no_such_words, no_last_word}
use Rattle.verifying.proofs.words.read_words.Goals as goal

pub returns-in_default-clause-refuses : goal.returns-in_default-clause-refuses
returns-in_default-clause-refuses g c = λ out.
    let line = c.args.line.now in
    let i = c.loop-byte.byte-index in
    no_such_words line c.loop-byte.words.items c.loop-byte.fifties i (get_or line i 0) c.loop-byte-test.true (get_or_default line i 0 (get_or line i 0) c.loop-byte-test.true) c.loop-byte.invariant.read c.if-byte-eq90.false c.in_default.ensures

pub returns-clause-refuses : goal.returns-clause-refuses
returns-clause-refuses g c = λ out.
    no_last_word c.args.line.now c.loop-byte.words.items c.loop-byte.fifties c.loop-byte.byte-index c.loop-byte-test.false c.loop-byte.invariant.read (λ zero. false≢true (sym out ∙ eq-eqb c.loop-byte.fifties 0 zero))
