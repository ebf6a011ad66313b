-- What is left to the replies after a move, and which of them last longest.
use Rattle.std.proofs.Common.{◌≡◌, ℕ, zero, suc, ◌+◌, ◌-◌, ◌*◌, ◌<◌, ◌≤◌, ◌⊎◌, inl, inr, refl, sym, ◌∙◌, subst, arith, false, Bool, IsTrue, ◌↔◌, ap, List, [], ◌∷◌, ◌++◌, append_assoc}
use Rattle.board.specs.declared.game.Side.{Side}
use Rattle.solutions.proofs.Common.{is_same_side, PlainBoard, Goal, Ply, IsMove, IsLawful, one_after, to_other, turn-own, turn-other, same_side-self, twice, twice-double, Forces-even, Wins, IsFewest, ForcesNothing, IsAnswer, forced_by, nothing_at_once, same_mover, forced_within, reached_now, not_reached, IsMet, Lasts}
use Rattle.rules.specs.Forces.{IsReached, Forces}
use Rattle.problems.specs.declared.answer.Answer.{Answer}
use Rattle.problems.specs.declared.answer.Answer.TheVariants.{Mate as mates, NoneWithin}
use Rattle.board.proofs.RankText.{on_false as on_other}

-- ---- the fewest plies are odd

parity : (n : ℕ) → ((k : ℕ) × (n ≡ 2 * k)) ⊎ ((k : ℕ) × (n ≡ 2 * k + 1))
parity zero = inl (0, refl)
parity (suc n) = elim (parity n) [
  | inl even ↦ inr (even.0, omega (arith, even.1))
  | inr odd ↦ inl (odd.0 + 1, omega (arith, odd.1))
]

-- what is forced within 2 k + 2 plies is forced within 2 k + 1
odd_enough : (goal : Goal) (b : PlainBoard) (k n : ℕ) → n ≡ 2 * k + 2 → Forces goal b.mover b n → Forces goal b.mover b (2 * k + 1)
odd_enough goal b k n even f =
    let from : n ≡ suc (suc (twice k)) = (let e = twice-double k in omega arith) in
    let to : suc (twice k) ≡ 2 * k + 1 = (let e = twice-double k in omega arith) in
    subst (Forces goal b.mover b) to (Forces-even k goal b.mover b (same_side-self b.mover) (subst (Forces goal b.mover b) from f))

not_even : (goal : Goal) (b : PlainBoard) (k n : ℕ) → n ≡ 2 * k → IsFewest goal b n → ⊥
not_even goal b zero n even fewest = nothing_at_once goal b n (omega (arith, even)) fewest.forced
not_even goal b (suc k) n even fewest = fewest.fewer (2 * k + 1) (omega (arith, even)) (odd_enough goal b k n (omega (arith, even)) fewest.forced)

pub fewest_odd : (goal : Goal) (b : PlainBoard) (n : ℕ) → IsFewest goal b n → (k : ℕ) × (n ≡ 2 * k + 1)
fewest_odd goal b n fewest = elim (parity n) [
  | inl even ↦ absurd (not_even goal b even.0 n even.1 fewest)
  | inr odd ↦ odd
]

-- an odd number of plies is the fewest where two less don't suffice
pub fewest_by : (goal : Goal) (b : PlainBoard) (k n : ℕ) → n ≡ 2 * k + 1 → Forces goal b.mover b n → (Forces goal b.mover b (n - 2) → ⊥) → IsFewest goal b n
fewest_by goal b k n odd f not = record { forced = f; fewer = λ j less g. not (short k j odd less g) }
  where
    split : (j m : ℕ) → j < m → (j ≤ m - 2) ⊎ (suc j ≡ m)
    split j m h = grind arith

    short : (k j : ℕ) → n ≡ 2 * k + 1 → j < n → Forces goal b.mover b j → Forces goal b.mover b (n - 2)
    short zero j is less g = absurd (nothing_at_once goal b j (omega (arith, is, less)) g)
    short (suc k) j is less g = elim (split j n less) [
      | inl within ↦ forced_within goal b.mover b j (n - 2) within g
      | inr last ↦ subst (Forces goal b.mover b) (omega (arith, is)) (odd_enough goal b k j (omega (arith, is, last)) g)
    ]

-- ---- what is left after the attacker's move

module _ (goal : Goal) (b : PlainBoard) (m : Ply) (q : PlainBoard) (move : IsMove b m q) where
  other : is_same_side b.mover q.mover ≡ false
  other = turn-own b.mover b m q move (same_side-self b.mover)

  -- after a reply the attacker is to move
  attacker : (r : Ply) (p : PlainBoard) → IsMove q r p → b.mover ≡ p.mover
  attacker r p reply = same_mover b.mover p.mover (turn-other b.mover q r p reply other)

  left_to_each : (n : ℕ) → ((r : Ply) × IsLawful q r) → Forces goal b.mover q n → (0 < n) × ((r : Ply) (p : PlainBoard) → IsMove q r p → Forces goal b.mover p (n - 1))
  left_to_each zero some f = absurd (not_reached goal q some (on_other _ _ _ other f))
  left_to_each (suc n) some f = elim (on_other _ _ _ other f) [
    | inl reached ↦ absurd (not_reached goal q some reached)
    | inr w ↦ (omega arith, λ r p reply. subst (Forces goal b.mover p) (omega arith) (w.1 r p reply))
  ]

  module _ (n : ℕ) (wins : Wins goal b n m) where
    left : Forces goal b.mover q (n - 1)
    left = subst (λ (x : PlainBoard). Forces goal b.mover x (n - 1)) (one_after b m wins.0 q wins.1 move) wins.2

    -- a move that wins reaches the goal where there is no reply
    pub key_reaches : ((r : Ply) → IsLawful q r → ⊥) → IsReached goal q
    key_reaches none = reached_now goal b.mover q (n - 1) other none left

    pub key_plies : ((r : Ply) × IsLawful q r) → 2 ≤ n
    key_plies some = let more = (left_to_each (n - 1) some left).0 in omega arith

    -- and else each reply is met in two plies less
    pub key_meets : (r : Ply) → IsLawful q r → IsMet goal q (n - 2) r
    key_meets r lawful =
        let p = lawful.0 in
        let reply = lawful.1 in
        let f : Forces goal b.mover p (n - 2) = subst (Forces goal b.mover p) (omega arith) ((left_to_each (n - 1) (r, lawful) left).1 r p reply) in
        (p, reply, subst (λ (s : Side). Forces goal s p (n - 2)) (attacker r p reply) f)

  -- where each reply is met within some plies, the move wins within two more
  meets_wins : (k : ℕ) → ((r : Ply) × IsLawful q r) → ((r : Ply) → IsLawful q r → IsMet goal q k r) → Wins goal b (k + 2) m
  meets_wins k some met = (
    q,
    move,
    subst (Forces goal b.mover q) up (to_other _ _ _ other (inr (
      some,
      λ r p reply.
          let w = met r (p, reply) in
          let f = subst (λ (x : PlainBoard). Forces goal x.mover x k) (one_after q r w.0 p w.1 reply) w.2 in
          subst (λ (s : Side). Forces goal s p k) (sym (attacker r p reply)) f,
    ))),
  )
    where
      up : suc k ≡ k + 2 - 1
      up = omega arith

  -- where n plies are the fewest, some reply isn't met within two less than all are
  pub some_lasts : (n : ℕ) → IsFewest goal b n → ((r : Ply) × IsLawful q r) → ((r : Ply) → IsLawful q r → IsMet goal q (n - 2 - 2) r) → ⊥
  some_lasts n fewest some met = elim (few n) [
    | inl less ↦ fewest.fewer (n - 2 - 2 + 2) less (forced_by goal b (n - 2 - 2 + 2) m (omega arith) (meets_wins (n - 2 - 2) some met))
    | inr none ↦ let w = met some.0 some.1 in nothing_at_once goal w.0 (n - 2 - 2) none w.2
  ]
    where
      few : (n : ℕ) → (n - 2 - 2 + 2 < n) ⊎ (n - 2 - 2 ≤ 0)
      few n = grind arith

-- ---- one reply

module _ (goal : Goal) (q : PlainBoard) (r : Ply) (p : PlainBoard) (move : IsMove q r p) where
  -- what is met behind the reply is forced from the position there
  pub met_here : (n : ℕ) → IsMet goal q n r → Forces goal p.mover p n
  met_here n w = subst (λ (x : PlainBoard). Forces goal x.mover x n) (one_after q r w.0 p w.1 move) w.2

  pub met_by : (n : ℕ) (side : Side) (met : Bool) → side ≡ p.mover → (IsTrue met ↔ Forces goal side p n) → IsTrue met ↔ IsMet goal q n r
  met_by n side met is answer = (
    λ so. (p, move, subst (λ (s : Side). Forces goal s p n) is (answer.0 so)),
    λ w. answer.1 (subst (λ (s : Side). Forces goal s p n) (sym is) (met_here n w)),
  )

-- a reply that is met in two plies less doesn't last so long
pub met_before : (goal : Goal) (q : PlainBoard) (n : ℕ) (r : Ply) → 0 < n → IsMet goal q (n - 2) r → Lasts goal q n r → ⊥
met_before goal q n r some met lasts = lasts.2.fewer (n - 2) (omega arith) (met_here goal q r lasts.0 lasts.1 (n - 2) met)

-- a reply that isn't met in two plies less does
pub lasts_by : (goal : Goal) (q : PlainBoard) (k n : ℕ) (r : Ply) → n ≡ 2 * k + 1 → IsMet goal q n r → (IsMet goal q (n - 2) r → ⊥) → Lasts goal q n r
lasts_by goal q k n r odd met not = (met.0, met.1, fewest_by goal met.0 k n odd met.2 (λ f. not (met.0, met.1, f)))

-- ---- a line

-- where the game goes on, the fewest plies are odd and no fewer than three
pub three_plies : (goal : Goal) (b : PlainBoard) (n : ℕ) → IsFewest goal b n → 2 ≤ n → (0 < n - 2) × ((k : ℕ) × (n - 2 ≡ 2 * k + 1))
three_plies goal b n fewest two = let odd = fewest_odd goal b n fewest in (omega (arith, odd.1, two), (odd.0 - 1, omega (arith, odd.1, two)))

-- the fewest plies behind a reply that lasts so long
pub lasting_here : (goal : Goal) (q : PlainBoard) (r : Ply) (p : PlainBoard) (n : ℕ) → IsMove q r p → Lasts goal q n r → IsFewest goal p n
lasting_here goal q r p n move lasts = subst (λ (x : PlainBoard). IsFewest goal x n) (one_after q r lasts.0 p lasts.1 move) lasts.2

-- two moves and the rest
pub two_more : (xs ys zs all : List Ply) (m r : Ply) (rest : List Ply) → ys ≡ xs ++ m ∷ [] → zs ≡ ys ++ r ∷ [] → all ≡ zs ++ rest → all ≡ xs ++ m ∷ r ∷ rest
two_more xs ys zs all m r rest first second then = then ∙ ap (λ l. l ++ rest) (second ∙ ap (λ l. l ++ r ∷ []) first) ∙ append_assoc (xs ++ m ∷ []) (r ∷ []) rest ∙ append_assoc xs (m ∷ []) (r ∷ rest)

-- ---- an answer

module _ (goal : Goal) (b : PlainBoard) (limit : ℕ) (answer : Answer) where
  pub mate_found : (n : ℕ) (m : Ply) → answer ≡ mates n m → IsAnswer goal b limit answer → (n ≤ limit) × IsFewest goal b n
  mate_found n m is found = let w = subst (IsAnswer goal b limit) is found in (w.0, w.1)

  pub nothing_found : (within : ℕ) → answer ≡ NoneWithin within → IsAnswer goal b limit answer → ForcesNothing goal b limit
  nothing_found within is found = (subst (IsAnswer goal b limit) is found).1

-- what holds where a root is laid holds of the position that it was laid on
pub carried : (P : Goal → PlainBoard → Type 0) (g goal : Goal) (b next q : PlainBoard) → g ≡ goal → b ≡ next → next ≡ q → P g b → P goal q
carried P g goal b next q is laid leads h = subst (P goal) leads (subst (P goal) laid (subst (λ (x : Goal). P x b) is h))
