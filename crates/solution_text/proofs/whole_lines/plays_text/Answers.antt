use Rattle.std.proofs.Common.{◌++◌, ap, sym, subst, ◌∙◌, string_bytes}
use Rattle.problems.specs.Answer.{Wins}
use Rattle.solution_text.proofs.Played.{each_none, each_one, each_all}
use Rattle.solution_text.proofs.whole_lines.plays_text.Goals as goal

pub loop-key-init : goal.loop-key-init
loop-key-init g c = record { goes = g.met.D.Decider.goes_at_once _; tells = each_none _ _ c.args.keys.now (string_bytes c.new-text.result) c.new-text.ensures.bytes }

pub played_text-requires-clause-key : goal.played_text-requires-clause-key
played_text-requires-clause-key g c =
    let r = c.args.root.now in
    subst (Wins r.goal r.board r.limit) (sym c.key-item.is) (c.requires.keys c.loop-key.key-index c.key-item.result c.loop-key-test.true)

pub returns-in_err-push_str-clause-goes : goal.returns-in_err-push_str-clause-goes
returns-in_err-push_str-clause-goes g c = g.met.D.Decider.goes_on _ _ _ c.loop-key.invariant.goes c.played_text.ensures.goes

pub loop-key-preserved : goal.loop-key-preserved
loop-key-preserved g c =
    let (then, is, told) = c.in_ok-one.ensures.key in
    let added = c.in_ok-push_str.ensures.bytes ∙ ap (λ t. string_bytes c.loop-key.text ++ t) c.as_str.ensures.value in
    record {
      goes = g.met.D.Decider.goes_on _ _ _ c.loop-key.invariant.goes c.played_text.ensures.goes;
      tells = each_one _ _ c.args.keys.now c.loop-key.key-index c.key-item.result then (string_bytes c.loop-key.text) (string_bytes c.in_ok-one.one) (string_bytes c.push_str.new.self)
          c.loop-key-test.true c.key-item.is c.loop-key.invariant.tells is told added;
    }

pub returns-clause-keys : goal.returns-clause-keys
returns-clause-keys g c = each_all _ _ c.args.keys.now c.loop-key.key-index (string_bytes c.loop-key.text) c.loop-key-test.false c.loop-key.invariant.tells
