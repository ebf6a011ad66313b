use Rattle.std.proofs.Common.{arith, refl, ◌-◌}
use Rattle.std.proofs.lemmas.List.Elements.{All-set, All-weaker}
use Rattle.slots.specs.Promise.{IsSeatOf}
use Rattle.rounds.specs.Shares.{IsShare}
use Rattle.searcher.proofs.Lists.{All-item}
use Rattle.rounds.proofs.Going.{each_none, each_one}
use Rattle.rounds.proofs.round.wins.Goals as goal

pub returns-in-Wins-clause-go_on : goal.returns-in-Wins-clause-go_on
returns-in-Wins-clause-go_on g c = let t = c.args.round.now.search.now.slots.now in
    each_none g.T.Gate.keeps t c.args.shares.now.items (All-weaker (IsShare g.J.Count.jobs c.args.round.now) (λ s. IsSeatOf t s.seat) (λ s h. h.seat) c.args.shares.now.items c.requires.shares)

pub returns-in-Loses-clause-go_on : goal.returns-in-Loses-clause-go_on
returns-in-Loses-clause-go_on g c = let t = c.args.round.now.search.now.slots.now in
    each_none g.T.Gate.keeps t c.args.shares.now.items (All-weaker (IsShare g.J.Count.jobs c.args.round.now) (λ s. IsSeatOf t s.seat) (λ s h. h.seat) c.args.shares.now.items c.requires.shares)

pub returns-in-Open-clause-shares : goal.returns-in-Open-clause-shares
returns-in-Open-clause-shares g c =
    let own = All-item (IsShare g.J.Count.jobs c.args.round.now) c.args.shares.now.items c.args.shares.now.items (c.len-last.result - 1) c.index_mut-own.result.now refl (omega arith)
    c.index_mut-own.ensures.value c.requires.shares in
    All-set (IsShare g.J.Count.jobs c.args.round.now) c.args.shares.now.items (c.len-last.result - 1) _
    (record { round = own.round; stop = own.stop; row = own.row; right = own.right; knows = own.knows; seat = c.decide_job.ensures.seat }) c.requires.shares

pub returns-in-Open-clause-go_on : goal.returns-in-Open-clause-go_on
returns-in-Open-clause-go_on g c = let t = c.args.round.now.search.now.slots.now in let own = c.index_mut-own.result.now in
    each_one g.T.Gate.keeps t c.args.shares.now.items (c.len-last.result - 1) own (record { local = own.local; scout = own.scout; row = own.row; seat = c.decide_job.new.seat })
    (omega arith) c.index_mut-own.ensures.value
    (All-weaker (IsShare g.J.Count.jobs c.args.round.now) (λ s. IsSeatOf t s.seat) (λ s h. h.seat) c.args.shares.now.items c.requires.shares) c.decide_job.ensures.goes_on
