use Rattle.std.proofs.Common.{◌≡◌, ◌∙◌, ℕ, List, [], Option, None, Some, ap, slice_get, subst, sym, arith}
use Rattle.verifying.proofs.Common.{common_steps, same_Some, PlainBoard, Goal, Ply, Claim, Word, IsYesLine, with_claim, FindsOnly}
use Rattle.verifying.proofs.Making.{not_found, this_found}
use Rattle.verifying.proofs.steps.shows_win.Goals as goal

-- the claim that is read is the one that was made
of_first : (goal : Goal) (b : PlainBoard) (n : ℕ) (words : List Word) (none start new : List Claim) (read : Claim) (found made : Option Ply) → none ≡ [] → start ≡ with_claim none b n → slice_get start 0 ≡ Some read → made ≡ found → FindsOnly (λ (m : Ply) (other : List Claim). IsYesLine goal read m words start other) made new
    → FindsOnly (λ (m : Ply) (other : List Claim). IsYesLine goal (record { position = b; plies = n }) m words (with_claim [] b n) other) found new
of_first goal b n words none start new read found made empty is at one h =
    let begun : start ≡ with_claim [] b n = is ∙ ap (λ (l : List Claim). with_claim l b n) empty in
    let same : read ≡ record { position = b; plies = n } = same_Some read _ (sym at ∙ ap (λ (l : List Claim). slice_get l 0) begun) in
    subst (λ (c : Claim). FindsOnly (λ (m : Ply) (other : List Claim). IsYesLine goal c m words (with_claim [] b n) other) found new) same
    (subst (λ (l : List Claim). FindsOnly (λ (m : Ply) (other : List Claim). IsYesLine goal read m words l other) found new) begun
    (subst (λ (o : Option Ply). FindsOnly (λ (m : Ply) (other : List Claim). IsYesLine goal read m words start other) o new) one h))

pub returns-in-Some : goal.returns-in-Some
returns-in-Some g c =
    this_found (λ (m : Ply) (other : List Claim). IsYesLine c.args.goal (record { position = c.args.board.now; plies = c.args.mate.plies }) m c.args.words.now (with_claim [] c.args.board.now c.args.mate.plies) other) c.in-Some.m c.args.mate.first c.eq.result c.winning_move.new.claims
    (of_first c.args.goal c.args.board.now c.args.mate.plies c.args.words.now c.clear.new.self c.push.new.self c.winning_move.new.claims c.claim-claim.result (Some c.in-Some.m) _ c.clear.ensures c.in_ok-push.ensures.ok c.claim-claim.ensures c.in-Some.is c.in_ok-m.ensures)
    (grind (arith, common_steps, c.eq.ensures))

pub returns-in-None : goal.returns-in-None
returns-in-None g c =
    not_found (λ (m : Ply) (other : List Claim). IsYesLine c.args.goal (record { position = c.args.board.now; plies = c.args.mate.plies }) m c.args.words.now (with_claim [] c.args.board.now c.args.mate.plies) other) c.args.mate.first c.winning_move.new.claims
    (of_first c.args.goal c.args.board.now c.args.mate.plies c.args.words.now c.clear.new.self c.push.new.self c.winning_move.new.claims c.claim-claim.result None _ c.clear.ensures c.in_ok-push.ensures.ok c.claim-claim.ensures c.in-None.is c.in_ok-m.ensures)
