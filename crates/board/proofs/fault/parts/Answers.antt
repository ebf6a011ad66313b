use Rattle.std.proofs.Common.{◌≡◌, ◌≢◌, ◌+◌, ◌<◌, ◌≤◌, ℕ, List, eqb, length, get_or, take, drop, ap, sym, ◌∙◌, arith}
use Rattle.board.proofs.Common.{eq-eqb, ne_eqb, position_or_len, position_or_len_is, take_all, take_rest}
use Rattle.std.proofs.lemmas.List.{drop_all}
use Rattle.board.proofs.fault.parts.Goals as goal

-- the place of the first space
place : (text : List ℕ) (i : ℕ) → i ≤ length text → ((k : ℕ) → k < i → get_or text k 0 ≢ 32) → (i < length text → get_or text i 0 ≡ 32) → i ≡ position_or_len (λ c. eqb c 32) text
place text i within before here = sym (position_or_len_is (λ c. eqb c 32) text i 0 within (λ k lt. ne_eqb _ _ (before k lt)) (λ lt. eq-eqb _ _ (here lt)))

pub returns-then-text-i-eq32-clause-board : goal.returns-then-text-i-eq32-clause-board
returns-then-text-i-eq32-clause-board c =
    ap (λ n. take n c.args.text.now) (place c.args.text.now c.loop-i.i (omega arith) c.loop-i.invariant (λ lt. c.if-text-i-eq32.true))

pub returns-then-text-i-eq32-clause-side : goal.returns-then-text-i-eq32-clause-side
returns-then-text-i-eq32-clause-side c =
    take_rest c.args.text.now (c.loop-i.i + 1)
    ∙ ap (λ n. drop (n + 1) c.args.text.now) (place c.args.text.now c.loop-i.i (omega arith) c.loop-i.invariant (λ lt. c.if-text-i-eq32.true))

pub returns-clause-board : goal.returns-clause-board
returns-clause-board c =
    sym (take_all c.loop-i.i c.args.text.now c.loop-i-test.false)
    ∙ ap (λ n. take n c.args.text.now) (place c.args.text.now c.loop-i.i (omega arith) c.loop-i.invariant (λ lt. absurd (omega arith)))

pub returns-clause-side : goal.returns-clause-side
returns-clause-side c =
    sym (drop_all (c.loop-i.i + 1) c.args.text.now (omega arith))
    ∙ ap (λ n. drop (n + 1) c.args.text.now) (place c.args.text.now c.loop-i.i (omega arith) c.loop-i.invariant (λ lt. absurd (omega arith)))
