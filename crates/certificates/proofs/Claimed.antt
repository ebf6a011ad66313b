-- Claims that rest on one another are true.
use Rattle.std.proofs.Common.{◌≡◌, ℕ, zero, suc, ◌+◌, ◌-◌, ◌≤◌, inl, inr, refl, sym, subst, ◌∙◌, arith, List, Contains, false}
use Rattle.board.specs.declared.game.Side.{Side}
use Rattle.board.specs.declared.game.Side.TheVariants.{White, Black}
use Rattle.board.specs.Games.{is_same_side, other_side}
use Rattle.board.specs.Board.{PlainBoard}
use Rattle.rules.specs.declared.goal.Goal.{Goal}
use Rattle.rules.specs.Squares.{Ply}
use Rattle.rules.specs.Moves.{IsMove, IsLawful}
use Rattle.rules.specs.Forces.{IsReached, Forces}
use Rattle.rules.proofs.Keeps.{mover-after}
use Rattle.rules.proofs.Forcing.{to_other, turn-own, same_side-self, Forces-more}
use Rattle.problems.specs.Answer.{Wins, ForcesNothing}
use Rattle.problems.proofs.Winning.{forced_by}
use Rattle.certificates.specs.declared.claim.Claim.{Claim}
use Rattle.certificates.specs.Claims.{FailsBy, AllHold, MetBy, WinsBy, AllWon}
use Rattle.board.proofs.RankText.{on_true as on_own, on_false as on_other}

-- ---- two plies later the same side is to move

other_twice : (s : Side) → other_side (other_side s) ≡ s
other_twice White = refl
other_twice Black = refl

two_later : (b : PlainBoard) (m : Ply) (q : PlainBoard) (r : Ply) (p : PlainBoard) → IsMove b m q → IsMove q r p → p.mover ≡ b.mover
two_later b m q r p move reply = mover-after q r p reply ∙ ((λ i. other_side (mover-after b m q move i)) ∙ other_twice b.mover)

-- ---- what is forced within n plies is forced within more

forced_later : (goal : Goal) (s : Side) (b : PlainBoard) (d n k : ℕ) → k ≡ d + n → Forces goal s b n → Forces goal s b k
forced_later goal s b zero n k is f = subst (Forces goal s b) (omega (arith, is)) f
forced_later goal s b (suc d) n zero is f = absurd (omega (arith, is))
forced_later goal s b (suc d) n (suc k) is f = Forces-more goal s b k (forced_later goal s b d n k (omega (arith, is)) f)

pub forced_within : (goal : Goal) (s : Side) (b : PlainBoard) (n k : ℕ) → n ≤ k → Forces goal s b n → Forces goal s b k
forced_within goal s b n k within f = forced_later goal s b (k - n) n k (omega arith) f

-- where the goal is reached it is forced within any number of plies
reached_within : (goal : Goal) (s : Side) (q : PlainBoard) (n : ℕ) → is_same_side s q.mover ≡ false → IsReached goal q → Forces goal s q n
reached_within goal s q zero other there = to_other _ _ _ other there
reached_within goal s q (suc n) other there = to_other _ _ _ other (inl there)

nothing_now : (goal : Goal) (p : PlainBoard) (j : ℕ) → j ≡ 0 → Forces goal p.mover p j → ⊥
nothing_now goal p zero is f = on_own _ ⊥ (IsReached goal p) (same_side-self p.mover) f
nothing_now goal p (suc j) is f = absurd (omega (arith, is))

-- a defender with a reply loses where each reply leaves the attacker to force the goal
replies_left : (goal : Goal) (b : PlainBoard) (n : ℕ) (m : Ply) (q : PlainBoard) → 1 ≤ n → IsMove b m q → is_same_side b.mover q.mover ≡ false → ((r : Ply) × IsLawful q r)
    → ((r : Ply) (p : PlainBoard) → IsMove q r p → Forces goal p.mover p (n - 2)) → Forces goal b.mover q (n - 1)
replies_left goal b zero m q some move other reply each = absurd (omega (arith, some))
replies_left goal b (suc zero) m q some move other reply each = absurd (nothing_now goal reply.1.0 (1 - 2) (omega arith) (each reply.0 reply.1.0 reply.1.1))
replies_left goal b (suc (suc j)) m q some move other reply each =
    let one : suc j ≡ suc (suc j) - 1 = omega arith in
    let two : suc (suc j) - 2 ≡ j = omega arith in
    subst (Forces goal b.mover q) one (to_other _ _ _ other (inr (
      reply,
      λ r p next.
          subst (λ s. Forces goal s p j) (two_later b m q r p move next) (subst (Forces goal p.mover p) two (each r p next)),
    )))

-- ---- no claims

module _ (goal : Goal) (claims : List Claim) (hold : AllHold goal claims) where
  mutual
    -- after a move that fails within n plies, and has taken one of them, nothing is forced within the others
    move_fails : (k : ℕ) (b : PlainBoard) (n : ℕ) (m : Ply) (q : PlainBoard) → suc k ≤ n → FailsBy goal claims b n m → IsMove b m q → Forces goal b.mover q k → ⊥
    move_fails zero b n m q within fails move f =
        (fails q move).0 (on_other _ _ _ (turn-own b.mover b m q move (same_side-self b.mover)) f)
    move_fails (suc k) b n m q within fails move f =
        elim (on_other _ _ _ (turn-own b.mover b m q move (same_side-self b.mover)) f) [
          | inl there ↦ (fails q move).0 there
          | inr replies ↦ elim (fails q move).1 [
            | inl one ↦ absurd (omega (arith, within, one))
            | inr (inl stuck) ↦ stuck replies.0.0 replies.0.1
            | inr (inr (r, p, reply, escape)) ↦
                let left : Forces goal p.mover p k = subst (λ s. Forces goal s p k) (sym (two_later b m q r p move reply)) (replies.1 r p reply) in
                elim escape [
                  | inl nothing ↦ nothing k (omega (arith, within)) left
                  | inr (c, among, about, many) ↦ resists k c among (omega (arith, within, many)) (subst (λ x. Forces goal x.mover x k) (sym about) left)
                ]
          ]
        ]

    resists : (k : ℕ) (c : Claim) → Contains claims c → k ≤ c.plies → Forces goal c.position.mover c.position k → ⊥
    resists zero c among within f = on_own _ ⊥ (IsReached goal c.position) (same_side-self c.position.mover) f
    resists (suc k) c among within f =
        let w = on_own _ _ _ (same_side-self c.position.mover) f in
        move_fails k c.position c.plies w.0 w.1 within (hold c among w.0) w.2 w.3

  -- a move that fails within n plies doesn't win within them
  pub fails_to_win : (b : PlainBoard) (n : ℕ) (m : Ply) → 1 ≤ n → FailsBy goal claims b n m → Wins goal b n m → ⊥
  fails_to_win b n m some fails w = move_fails (n - 1) b n m w.0 (omega (arith, some)) fails w.1 w.2

pub no_claims : (goal : Goal) (claims : List Claim) → AllHold goal claims → (c : Claim) → Contains claims c → ForcesNothing goal c.position c.plies
no_claims goal claims hold c among k within f = resists goal claims hold k c among within f

-- ---- yes claims

module _ (goal : Goal) (claims : List Claim) (won : AllWon goal claims) where
  -- a move that wins by the claims wins, for at most k plies
  pub wins_within : (k : ℕ) (b : PlainBoard) (n : ℕ) (m : Ply) → n ≤ k → WinsBy goal claims b n m → Wins goal b n m
  wins_within zero b n m within w = absurd (omega (arith, within, w.0))
  wins_within (suc k) b n m within (some, q, move, end) =
      let other = turn-own b.mover b m q move (same_side-self b.mover) in
      elim end as (λ _. Wins goal b n m) [
        | inl there ↦ (q, move, reached_within goal b.mover q (n - 1) other there)
        | inr (reply, met) ↦
            let below : (c : Claim) → Contains claims c → c.plies ≤ n - 2 → Forces goal c.position.mover c.position c.plies =
            (λ c among few. let w = won c among in forced_by goal c.position c.plies w.0 (omega (arith, w.1.0)) (wins_within k c.position c.plies w.0 (omega (arith, few, within, some)) w.1)) in
            let each : (r : Ply) (p : PlainBoard) → IsMove q r p → Forces goal p.mover p (n - 2) =
            (λ r p next. met_within p (n - 2) below (met r p next)) in
            (q, move, replies_left goal b n m q some move other reply each)
      ]
    where
      met_within : (p : PlainBoard) (j : ℕ) → ((c : Claim) → Contains claims c → c.plies ≤ j → Forces goal c.position.mover c.position c.plies) → MetBy goal claims p j → Forces goal p.mover p j
      met_within p j below (inl f) = f
      met_within p j below (inr (c, among, about, few)) =
          forced_within goal p.mover p c.plies j few (subst (λ x. Forces goal x.mover x c.plies) about (below c among few))

pub yes_claims : (goal : Goal) (claims : List Claim) → AllWon goal claims → (c : Claim) → Contains claims c → Forces goal c.position.mover c.position c.plies
yes_claims goal claims won c among =
    let w = won c among in
    forced_by goal c.position c.plies w.0 (omega (arith, w.1.0)) (wins_within goal claims won c.plies c.position c.plies w.0 (omega arith) w.1)
