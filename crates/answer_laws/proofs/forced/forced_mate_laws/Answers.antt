use Rattle.std.proofs.Common.{◌≡◌, ◌+◌, ◌*◌, suc, subst, arith}
use Rattle.rules.specs.Forces.{Forces}
use Rattle.rules.proofs.Forcing.{Forces-more, Forces-even, twice, twice-double}
use Rattle.answer_laws.proofs.forced.forced_mate_laws.Goals as goal

pub returns-clause-more : goal.returns-clause-more
returns-clause-more c = λ wanted attacker b n forced.
    let next : suc n ≡ n + 1 = omega arith in
    subst (Forces wanted attacker b) next (Forces-more wanted attacker b n forced)

pub returns-clause-even : goal.returns-clause-even
returns-clause-even c = λ wanted attacker b k own.
    let double : twice k ≡ 2 * k = twice-double k in
    let odd : suc (twice k) ≡ 2 * k + 1 = omega arith in
    let even : suc (suc (twice k)) ≡ 2 * k + 2 = omega arith in
    let back : 2 * k + 2 ≡ suc (suc (twice k)) = omega arith in
    let again : 2 * k + 1 ≡ suc (twice k) = omega arith in (
      λ forced. subst (Forces wanted attacker b) odd (Forces-even k wanted attacker b own (subst (Forces wanted attacker b) back forced)),
      λ forced. subst (Forces wanted attacker b) even (Forces-more wanted attacker b (suc (twice k)) (subst (Forces wanted attacker b) again forced)),
    )
