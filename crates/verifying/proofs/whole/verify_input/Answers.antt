use Rattle.std.proofs.Common.{Bool, List, ◌∷◌, ◌++◌, [], ℕ, true, false, refl, sym, subst, arith}
use Rattle.verifying.proofs.Common.{IfOk-from_err, left_of, ReadsText, any_input}
use Rattle.verifying.proofs.Inputs.{ended_answered, ended_certified, ended_refused, ended_told, line_refused, more_gone, none_gone, unread_refused}
use Rattle.verifying.proofs.whole.verify_input.Goals as goal

pub loop-init : goal.loop-init
loop-init g c = record {
  unread = c.new-unread.ensures.bounds;
  failures = refl;
  read = ([], none_gone c.new-unread.result (g.S.Source.remaining c.args.reader.now) c.new-unread.ensures.none.0 c.new-unread.ensures.none.1, c.new-checker.ensures);
}

pub loop-preserved : goal.loop-preserved
loop-preserved g c =
    let now = left_of c.loop.unread (g.S.Source.remaining c.loop.reader) in
    let after = left_of c.next_line_within.new.self (g.S.Source.remaining c.next_line_within.new.reader) in
    let line = c.as_slice-in-loop.result.now in
    let next = subst (λ (l : List ℕ). ReadsText now after l true) (sym c.as_slice-in-loop.ensures.value) (subst (λ (fed : Bool). ReadsText now after c.next_line_within.new.line.items fed) c.if-not-branch.false c.in_ok-next_line_within.ensures.reads) in
    record {
      unread = c.next_line_within.ensures.bounds;
      failures = omega (arith, c.in_ok-next_line_within.ensures.counts, c.loop.invariant.failures);
      read = more_gone c.args.goal c.args.board.now (g.S.Source.remaining c.args.reader.now) now after c.loop.checker c.take.new.self (line ++ 10 ∷ []) c.in_ok-take.ensures.takes next.1 c.loop.invariant.read;
    }

-- ---- the end

pub returns-then-not-branch-clause-certificate : goal.returns-then-not-branch-clause-certificate
returns-then-not-branch-clause-certificate g c =
    let now = left_of c.loop.unread (g.S.Source.remaining c.loop.reader) in
    let after = left_of c.next_line_within.new.self (g.S.Source.remaining c.next_line_within.new.reader) in
    let next = subst (λ (l : List ℕ). ReadsText now after l false) (sym c.as_slice.ensures.value) (subst (λ (fed : Bool). ReadsText now after c.next_line_within.new.line.items fed) c.if-not-branch.true c.in_ok-next_line_within.ensures.reads) in
    ended_certified c.args.goal c.args.board.now (g.S.Source.remaining c.args.reader.now) now c.loop.checker c.as_slice.result.now c.ended.result c.ended.ensures.proves c.ended.ensures.whole next.1 c.loop.invariant.read

pub returns-then-not-branch-clause-answer : goal.returns-then-not-branch-clause-answer
returns-then-not-branch-clause-answer g c = ended_answered c.args.goal c.args.board.now (g.S.Source.remaining c.args.reader.now) c.ended.result (returns-then-not-branch-clause-certificate g c)

pub returns-then-not-branch-clause-refused : goal.returns-then-not-branch-clause-refused
returns-then-not-branch-clause-refused g c =
    let now = left_of c.loop.unread (g.S.Source.remaining c.loop.reader) in
    let after = left_of c.next_line_within.new.self (g.S.Source.remaining c.next_line_within.new.reader) in
    let next = subst (λ (l : List ℕ). ReadsText now after l false) (sym c.as_slice.ensures.value) (subst (λ (fed : Bool). ReadsText now after c.next_line_within.new.line.items fed) c.if-not-branch.true c.in_ok-next_line_within.ensures.reads) in
    ended_refused c.args.goal c.args.board.now (g.S.Source.remaining c.args.reader.now) now c.loop.checker c.as_slice.result.now c.ended.result c.ended.ensures.refuses next.0 next.1 c.loop.invariant.read

pub returns-then-not-branch-clause-text : goal.returns-then-not-branch-clause-text
returns-then-not-branch-clause-text g c =
    ended_told c.args.goal c.args.board.now (g.S.Source.remaining c.args.reader.now) c.ended.result (returns-then-not-branch-clause-certificate g c) (returns-then-not-branch-clause-refused g c)

-- ---- a line that is refused

pub returns-in_err-take-clause-refused : goal.returns-in_err-take-clause-refused
returns-in_err-take-clause-refused g c =
    let now = left_of c.loop.unread (g.S.Source.remaining c.loop.reader) in
    let after = left_of c.next_line_within.new.self (g.S.Source.remaining c.next_line_within.new.reader) in
    let next = subst (λ (l : List ℕ). ReadsText now after l true) (sym c.as_slice-in-loop.ensures.value) (subst (λ (fed : Bool). ReadsText now after c.next_line_within.new.line.items fed) c.if-not-branch.false c.in_ok-next_line_within.ensures.reads) in
    line_refused c.args.goal c.args.board.now (g.S.Source.remaining c.args.reader.now) now after c.loop.checker c.as_slice-in-loop.result.now c.in_err-take.field-0.0 c.from_residual-in_err-take.result c.in_err-take.ensures.refuses next c.loop.invariant.read c.from_residual-in_err-take.ensures

pub returns-in_err-take-clause-text : goal.returns-in_err-take-clause-text
returns-in_err-take-clause-text g c =
    ended_told c.args.goal c.args.board.now (g.S.Source.remaining c.args.reader.now) c.from_residual-in_err-take.result (IfOk-from_err c.from_residual-in_err-take.result _ c.from_residual-in_err-take.ensures.0) (returns-in_err-take-clause-refused g c)

pub returns-in_err-next_line_within-clause-refused : goal.returns-in_err-next_line_within-clause-refused
returns-in_err-next_line_within-clause-refused g c =
    unread_refused c.args.goal c.args.board.now (g.S.Source.remaining c.args.reader.now) (left_of c.loop.unread (g.S.Source.remaining c.loop.reader)) c.loop.checker
    c.in_err-next_line_within.field-0.0 c.from_residual.result c.in_err-next_line_within.ensures.long c.loop.invariant.read c.from_residual.ensures

pub returns-in_err-next_line_within-clause-text : goal.returns-in_err-next_line_within-clause-text
returns-in_err-next_line_within-clause-text g c =
    ended_told c.args.goal c.args.board.now (g.S.Source.remaining c.args.reader.now) c.from_residual.result (IfOk-from_err c.from_residual.result _ c.from_residual.ensures.0) (returns-in_err-next_line_within-clause-refused g c)

pub returns-clause-text : goal.returns-clause-text
returns-clause-text g c = any_input (g.S.Source.remaining c.args.reader.now) _ (λ input. tt)
