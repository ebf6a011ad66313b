use Rattle.std.proofs.Common.{◌≡◌, ◌≢◌, ◌==◌, ℕ, ◌++◌, List, [], length, ap, subst, ◌∙◌, arith}
use Rattle.board.proofs.Common.{false≢true, nat_tests, nil_from_length}
use Rattle.board.proofs.WordByWord.{IsReadTo, none_read, one_read, shorter}
use Rattle.board.proofs.BetzaFaulty.{unreadable, accepted, repeated}
use Rattle.board.proofs.betza.read_terms.Goals as goal

pub loop-rest-init : goal.loop-rest-init
loop-rest-init c = ([], none_read c.args.text.now, c.new.ensures, rw c.new.ensures (λ i j d p q. absurd (omega arith)))

pub returns-in_default-clause-fault : goal.returns-in_default-clause-fault
returns-in_default-clause-fault c =
    let i = c.loop-rest.invariant in
    let left : c.loop-rest.rest.now ≢ [] = λ e. false≢true (c.loop-rest-test.ensures ∙ ap (λ (x : List ℕ). length x == 0) e) in
    unreadable c.args.text.now c.requires.some c.requires.letters c.loop-rest.rest.now i.0 i.1 left c.in_default.ensures

pub loop-rest-smaller : goal.loop-rest-smaller
loop-rest-smaller c = shorter c.loop-rest.rest.now c.in-Some.after.now c.in-Some.word.items c.in-Some.ensures

pub loop-rest-preserved : goal.loop-rest-preserved
loop-rest-preserved c =
    let i = c.loop-rest.invariant in
    let word = c.in-Some.word.items in
    (i.0 ++ word, one_read c.args.text.now c.loop-rest.rest.now c.in-Some.after.now i.0 word i.1 c.in-Some.ensures, rw c.as_slice.ensures.value at (c.joined-terms.ensures.kept i.0 i.2), c.joined-terms.ensures.distinct)

-- what is left at the end of the loop
at_end : (text rest : List ℕ) (all : List _) → IsReadTo text rest all → length rest ≡ 0 → IsReadTo text [] all
at_end text rest all r e = subst (λ x. IsReadTo text x all) (nil_from_length rest e) r

pub returns-in-None-clause-fault : goal.returns-in-None-clause-fault
returns-in-None-clause-fault c =
    let i = c.loop-rest.invariant in
    let nothing : length c.loop-rest.rest.now ≡ 0 = grind (arith, nat_tests, c.loop-rest-test.ensures) in
    repeated c.args.text.now c.requires.some c.requires.letters i.0 (at_end c.args.text.now c.loop-rest.rest.now i.0 i.1 nothing) (rw c.in-None.is at i.2)

pub returns-in-Some-terms-clause-ok : goal.returns-in-Some-terms-clause-ok
returns-in-Some-terms-clause-ok c =
    let i = c.loop-rest.invariant in
    let nothing : length c.loop-rest.rest.now ≡ 0 = grind (arith, nat_tests, c.loop-rest-test.ensures) in
    let same = rw c.in-Some-terms.is at i.2 in
    let distinct = rw c.in-Some-terms.is at i.3 in
    rw same (accepted c.args.text.now c.requires.some c.requires.letters i.0 (at_end c.args.text.now c.loop-rest.rest.now i.0 i.1 nothing) (rw same at distinct))
