use Rattle.moves.proofs.Common.{◌≡◌, get_or, None, Some, sym, ap, ◌∙◌, arith, subst, inl, inr, false≢true, cases_lt, PROMOTIONS, unit_at, Promotes, promotion_number, Attains}
use Rattle.moves.proofs.AtOnce.{promotion_at, promotion_tried}
use Rattle.moves.proofs.at_once.attains_to.Goals as goal

pub loop-i-preserved : goal.loop-i-preserved
loop-i-preserved c = λ j low w. elim (cases_lt j c.loop-i.i) [
  | inl less ↦ c.loop-i.invariant j less w
  | inr more ↦
      let same : j ≡ c.loop-i.i = omega (arith, low, more) in
      false≢true (sym c.if-attains.false ∙ c.attains.ensures.1 (subst (λ k. Attains c.args.quest.goal c.args.board.now (record { from = c.square_in-from.result; to = c.square_in-to.result; promotion = get_or PROMOTIONS k None })) same w))
]

pub returns-clause-none : goal.returns-clause-none
returns-clause-none c = λ _ m from to w.
    let b = c.args.board.now in
    let u = c.args.unit in
    let i = c.loop-i.i in
    let end : i ≡ c.promotion_count-i-end.result = omega arith in
    let five : Promotes b.game u m.to → i ≡ 5 = λ p. end ∙ c.promotion_count-i-end.ensures.five (subst (λ g. Promotes g u c.square_in-to.result) (sym c.game.ensures.value) (subst (Promotes b.game u) (to ∙ sym c.square_in-to.ensures) p)) in
    let one = c.promotion_count-i-end.ensures.within.0 in
    let five_most = c.promotion_count-i-end.ensures.within.1 in
    let stands : unit_at b m.from ≡ Some u = ap (unit_at b) from ∙ c.requires.stands in
    let tried = promotion_tried b m u stands (w.next, w.move) i five (omega (arith, one, end)) in
    let named : get_or PROMOTIONS (promotion_number m.promotion) None ≡ m.promotion = promotion_at m.promotion (omega (arith, tried, end, five_most)) in
    let same : m ≡ record { from = c.square_in-from.result; to = c.square_in-to.result; promotion = get_or PROMOTIONS (promotion_number m.promotion) None } = λ k. record { from = (from ∙ sym c.square_in-from.ensures) k; to = (to ∙ sym c.square_in-to.ensures) k; promotion = sym named k } in
    c.loop-i.invariant (promotion_number m.promotion) tried (subst (Attains c.args.quest.goal b) same w)

pub returns-then-not-is_open-clause-none : goal.returns-then-not-is_open-clause-none
returns-then-not-is_open-clause-none c = λ _ m from to w. c.is_open.ensures.none c.if-not-is_open.true m from to (w.next, w.move)

pub attains-requires-clause-pseudo : goal.attains-requires-clause-pseudo
attains-requires-clause-pseudo c = λ named. c.is_open.ensures.pseudo c.if-not-is_open.false _ c.square_in-from.ensures c.square_in-to.ensures named

pub returns-then-attains-clause-found : goal.returns-then-attains-clause-found
returns-then-attains-clause-found c = λ _. (_, c.attains.ensures.0 c.if-attains.true)
