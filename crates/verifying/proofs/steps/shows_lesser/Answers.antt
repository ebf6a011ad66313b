use Rattle.std.proofs.Common.{◌≡◌, ◌∙◌, ◌<◌, List, ap, arith, get_or, length, subst, sym, take}
use Rattle.verifying.proofs.Common.{IfOk-weaker, PlainBoard, IsLawful, ListsLawful, Ply, Claim, IsLesserLine, ShowFailures, YieldsOnly}
use Rattle.verifying.proofs.Failing.{front_lawful}
use Rattle.verifying.proofs.Making.{lesser_fail, none_lesser}
use Rattle.std.proofs.Common.{All}
use Rattle.verifying.proofs.steps.shows_lesser.Goals as goal

pub returns-then-lesser-len : goal.returns-then-lesser-len
returns-then-lesser-len g c =
    let b = c.args.board.now in
    none_lesser b c.as_slice.result.now (subst (ListsLawful b) (sym c.as_slice.ensures.value) c.lawful_on-moves.ensures) c.args.mate.first c.args.goal c.args.mate.plies c.args.words.now _ c.begin_fewer.new.claims
    (λ k within. c.place_of-lesser.ensures.least k (omega (arith, within, c.if-lesser-len.true, c.len.ensures.value, ap length c.as_slice.ensures.value)))

pub all_fail-requires-clause-lawful : goal.all_fail-requires-clause-lawful
all_fail-requires-clause-lawful g c =
    subst (λ (x : PlainBoard). All (IsLawful x) (take c.place_of-lesser.result c.as_slice-2.result.now)) (sym c.copied.ensures)
    (front_lawful c.args.board.now c.lawful_on-moves.result.items c.as_slice-2.result.now c.place_of-lesser.result c.lawful_on-moves.ensures c.as_slice-2.ensures.value)

pub returns : goal.returns
returns g c =
    let b = c.args.board.now in
    let n = c.args.mate.plies in
    let first = c.args.mate.first in
    let list = c.as_slice-2.result.now in
    let place = c.place_of-lesser.result in
    let made = c.begin_fewer.new.claims in
    let new = c.all_fail.new.claims in
    let same : c.as_slice.result.now ≡ list = c.as_slice.ensures.value ∙ sym c.as_slice-2.ensures.value in
    let within : place < length list = omega (arith, c.place_of-lesser.ensures.within, c.if-lesser-len.false, c.len.ensures.value, ap length c.as_slice.ensures.value, ap length same) in
    IfOk-weaker c.all_fail.result _ _
    (λ yes h.
    subst (λ (l : List Claim). YieldsOnly (IsLesserLine c.args.goal b n first c.args.words.now l) yes new) c.in_ok-begin_fewer.ensures
    (lesser_fail b list (subst (ListsLawful b) (sym c.as_slice-2.ensures.value) c.lawful_on-moves.ensures) first c.args.goal n place c.args.words.now yes made new within
    (subst (λ (l : List Ply). get_or l place first ≡ first) same c.place_of-lesser.ensures.there)
    (subst (λ (x : PlainBoard). YieldsOnly (ShowFailures c.args.goal x n (take place list) c.args.words.now made) yes new) c.copied.ensures h)))
    c.all_fail.ensures
