-- Each step keeps the rule of the word.
use Rattle.std.proofs.Common.{◌≡◌, ◌≢◌, ℕ, zero, suc, ◌+◌, ◌<◌, ◌≤◌, List, [], ◌∷◌, get_or, set, min, sym, refl, ap, ◌∙◌, subst, inl, inr, ⊎_elim, arith, le_refl}
use mathlib.Core.Option as option
use native.Mathlib.Decide.{dec_le}
use lib.ListN.{get_elem?}
use Rattle.atomic_table.specs.Table.{State, Me, keeps, stepped, Allows, Splits, opening, Final, Seen}
use Rattle.atomic_table.proofs.Lists.{at_set, set_again, at_snoc}
use Rattle.jobs.specs.declared.views.JobView.{JobView}
use Rattle.atomic_table.specs.declared.shared.Seat.{Seat}
use Rattle.jobs.specs.JobBoard.{JobBoard}
use Rattle.jobs.specs.Rule.{view, NoneOrWins, Fits, BoardHolds, Knows, read, lowered}
use Rattle.jobs.specs.Promise.{IsBest, least_known, steps, IsJobSeatOf, GivenUp}

module _ {W : Type 0} (wins : W → ℕ → Type 0) where
  abbrev St : Type 0
  St = State (Unit {0}) (JobView W)

  abbrev M : Type 0
  M = Me (Unit {0}) (JobView W)

  first_fits : (won : W) (jobs seat : ℕ) (v : JobView W) → get_elem? (view won jobs jobs 0 ∷ []) seat ≡ option.some v → Fits wins won jobs jobs v
  first_fits won jobs zero v e = subst (Fits wins won jobs jobs) (option.some-injective (view won jobs jobs 0) v e) record { set = refl; jobs = refl; above = le_refl jobs; best = inl refl }
  first_fits won jobs (suc seat) v e = absurd (option.some-ne-none v (sym e))

  -- at the start the word is the number of jobs
  pub begins : (won : W) (jobs : ℕ) → BoardHolds wins won jobs (opening (jobs ∷ []) [] (view won jobs jobs 0))
  begins won jobs = record { word = jobs; alone = refl; best = inl refl; each_seat = first_fits won jobs }

  -- what is best by the rule's own jobs is best by the seat's
  as_known : (won : W) (jobs word n : ℕ) (v : JobView W) → Fits wins won jobs word v → NoneOrWins wins won jobs n → NoneOrWins wins v.wins v.jobs n
  as_known won jobs word n v fits = subst (λ (z : W × ℕ). NoneOrWins wins z.0 z.1 n) (λ i. (sym fits.set i, sym fits.jobs i))

  -- the word falls to n, or stays, and the seat knows n
  falls : (won : W) (jobs : ℕ) (s : St) (r : BoardHolds wins won jobs s) (id : ℕ) (me : M) (n : ℕ) → get_elem? s.views id ≡ option.some me.0 → n ≤ r.word → NoneOrWins wins won jobs n
      → BoardHolds wins won jobs (stepped s 0 n id me.1 (view me.0.wins me.0.jobs n (me.0.steps + 1)) keeps)
  falls won jobs s r id me n at less best = let mine = r.each_seat id me.0 at in let w : JobView W = view me.0.wins me.0.jobs n (me.0.steps + 1) in record {
    word = n;
    alone = ap (λ ws. set ws 0 n) r.alone;
    best = best;
    each_seat = λ seat v e. ⊎_elim
        (λ (x : (seat ≡ id) × (w ≡ v)). subst (Fits wins won jobs n) x.1 record { set = mine.set; jobs = mine.jobs; above = le_refl n; best = best })
        (λ (x : (seat ≢ id) × (get_elem? s.views seat ≡ option.some v)). let f = r.each_seat seat v x.1 in record { set = f.set; jobs = f.jobs; above = omega (arith, f.above, less); best = f.best })
        (at_set s.views id seat w v e);
  }

  -- the word that a step finds
  found : (won : W) (jobs : ℕ) (s : St) (r : BoardHolds wins won jobs s) → r.word ≡ get_or s.words 0 0
  found won jobs s r = sym (ap (λ ws. get_or ws 0 0) r.alone)

  pub reads_allowed : (won : W) (jobs slots id : ℕ) (me : M) → Allows (BoardHolds wins won jobs) slots id me 0 (λ n. n) (read wins me)
  reads_allowed won jobs slots id me s r _ at _ =
      let is = found won jobs s r in
      let n : ℕ = get_or s.words 0 0 in
      let mine = r.each_seat id me.0 at in
      let best = subst (NoneOrWins wins won jobs) is r.best in
      (view me.0.wins me.0.jobs n (me.0.steps + 1), keeps, tt, falls won jobs s r id me n at (omega (arith, is)) best, ((refl, omega (arith, is, mine.above), as_known won jobs r.word n me.0 mine best), refl))

  -- the lesser of two numbers, of which each is the number of jobs or a job that wins, is one too
  lesser_best : (won : W) (jobs a b : ℕ) → NoneOrWins wins won jobs a → NoneOrWins wins won jobs b → Dec (a ≤ b) → NoneOrWins wins won jobs (min a b)
  lesser_best won jobs a b one two (yes h) = let e : a ≡ min a b = omega arith in subst (NoneOrWins wins won jobs) e one
  lesser_best won jobs a b one two (no h) = let e : b ≡ min a b = omega arith in subst (NoneOrWins wins won jobs) e two

  pub lowers_allowed : (won : W) (jobs slots id : ℕ) (me : M) (job : ℕ) → job < me.0.jobs → wins me.0.wins job
      → Allows (BoardHolds wins won jobs) slots id me 0 (λ n. min n job) (lowered wins job me)
  lowers_allowed won jobs slots id me job inside win s r _ at _ =
      let is = found won jobs s r in
      let n : ℕ = get_or s.words 0 0 in
      let mine = r.each_seat id me.0 at in
      let own : NoneOrWins wins won jobs job = inr (omega (arith, inside, mine.jobs), subst (λ (z : W). wins z job) mine.set win) in
      let best = lesser_best won jobs n job (subst (NoneOrWins wins won jobs) is r.best) own (dec_le n job) in
      (view me.0.wins me.0.jobs (min n job) (me.0.steps + 1), keeps, tt, falls won jobs s r id me (min n job) at (omega (arith, is)) best, ((refl, omega (arith, is, mine.above), as_known won jobs r.word (min n job) me.0 mine best), refl))

  pub deals_allowed : (won : W) (jobs id : ℕ) (v : JobView W) → Splits (BoardHolds wins won jobs) id v v v
  deals_allowed won jobs id v s r at = let same = set_again s.views id v at in record {
    word = r.word;
    alone = r.alone;
    best = r.best;
    each_seat = λ seat u e. ⊎_elim
        (λ (x : get_elem? (set s.views id v) seat ≡ option.some u). r.each_seat seat u (ap (λ vs. get_elem? vs seat) (sym same) ∙ x))
        (λ (x : v ≡ u). subst (Fits wins won jobs r.word) x (r.each_seat id v at))
        (at_snoc (set s.views id v) v u seat e);
  }

  -- the one word that is left at the end is the rule's
  pub given_up : (board : JobBoard W) (seat : Seat (Unit {0}) (JobView W)) (ws : List ℕ) (xs : List (Unit {0})) (n : ℕ) → get_elem? ws 0 ≡ option.some n → seat.table_id ≡ board.table
      → Final (Seen (BoardHolds wins board.wins board.jobs) seat.id seat.me.0) ws xs → GivenUp wins board seat n
  given_up board seat ws xs n at whose f =
      let r : BoardHolds wins board.wins board.jobs f.0 = f.1.0 in
      let is : r.word ≡ n = option.some-injective r.word n (ap (λ (l : List ℕ). get_elem? l 0) (sym r.alone ∙ f.2) ∙ at) in
      record { state = f.0; whose = whose; rule = r; view = f.1.1; words = r.alone ∙ ap (λ (k : ℕ). k ∷ []) is }

  -- the word that is left is best, and no seat knows less
  pub left : (board : JobBoard W) (seat : Seat (Unit {0}) (JobView W)) (n : ℕ) → GivenUp wins board seat n → IsBest wins board n × (n ≤ least_known seat)
  left board seat n g =
      let r = g.rule in
      let mine = r.each_seat seat.id seat.me.0 g.view in
      let is : r.word ≡ n = ap (λ (l : List ℕ). get_or l 0 0) (sym r.alone ∙ g.words) in
      (subst (NoneOrWins wins board.wins board.jobs) is r.best, omega (arith, is, mine.above))

  -- a step told the seat of n: it is still a seat of the board, and knows n
  pub still_seated : (board : JobBoard W) (before after : Seat (Unit {0}) (JobView W)) (n : ℕ) → IsJobSeatOf board before → after.table_id ≡ before.table_id → after.me.1 ≡ before.me.1 → Knows wins before.me.0 n after.me.0
      → IsJobSeatOf board after × IsBest wins board (least_known after) × (least_known after ≤ least_known before) × (least_known after ≡ n) × (steps after ≡ steps before + 1)
  still_seated board before after n sits same out knows =
      let is : after.me.0 ≡ view before.me.0.wins before.me.0.jobs n (steps before + 1) = knows.0 in
      let known : least_known after ≡ n = ap (λ (v : JobView W). v.known) is in (
        (same ∙ sits.0, out ∙ sits.1, ap (λ (v : JobView W). v.wins) is ∙ sits.2, ap (λ (v : JobView W). v.jobs) is ∙ sits.3),
        subst (λ (z : W × ℕ × ℕ). NoneOrWins wins z.0 z.1 z.2) (λ i. (sits.2 i, sits.3 i, sym known i)) knows.2,
        omega (arith, known, knows.1),
        known,
        ap (λ (v : JobView W). v.steps) is,
      )
