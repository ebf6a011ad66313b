use Rattle.std.proofs.Common.{◌++◌, ap, sym, subst, ◌∙◌, string_bytes}
use Rattle.solution_text.proofs.Common.{IsTry}
use Rattle.solution_text.proofs.Played.{each_none, each_one, each_all}
use Rattle.solution_text.proofs.virtual_play.played_tries.Goals as goal

pub loop-first_try-init : goal.loop-first_try-init
loop-first_try-init g c = record { goes = g.met.D.Decider.goes_at_once _; tells = each_none _ _ c.args.tries.now (string_bytes c.new-text.result) c.new-text.ensures.bytes }

pub played_try-requires-clause-first_try : goal.played_try-requires-clause-first_try
played_try-requires-clause-first_try g c =
    let r = c.args.root.now in
    subst (IsTry r.goal r.board r.limit) (sym c.first_try-item.is) (c.requires.tries c.loop-first_try.first_try-index c.first_try-item.result c.loop-first_try-test.true)

pub returns-in_err-push_str-clause-goes : goal.returns-in_err-push_str-clause-goes
returns-in_err-push_str-clause-goes g c = g.met.D.Decider.goes_on _ _ _ c.loop-first_try.invariant.goes c.played_try.ensures.goes

pub loop-first_try-preserved : goal.loop-first_try-preserved
loop-first_try-preserved g c =
    let (then, is, told) = c.in_ok-one.ensures.first_try in
    let added = c.in_ok-push_str.ensures.bytes ∙ ap (λ t. string_bytes c.loop-first_try.text ++ t) c.as_str.ensures.value in
    record {
      goes = g.met.D.Decider.goes_on _ _ _ c.loop-first_try.invariant.goes c.played_try.ensures.goes;
      tells = each_one _ _ c.args.tries.now c.loop-first_try.first_try-index c.first_try-item.result then (string_bytes c.loop-first_try.text) (string_bytes c.in_ok-one.one) (string_bytes c.push_str.new.self)
          c.loop-first_try-test.true c.first_try-item.is c.loop-first_try.invariant.tells is told added;
    }

pub returns-clause-tries : goal.returns-clause-tries
returns-clause-tries g c = each_all _ _ c.args.tries.now c.loop-first_try.first_try-index (string_bytes c.loop-first_try.text) c.loop-first_try-test.false c.loop-first_try.invariant.tells
