-- What a share's finds say of the round.
use Rattle.std.proofs.Common.{◌≡◌, ℕ, ◌+◌, ◌-◌, ◌<◌, ◌≤◌, List, [], ◌∷◌, ◌++◌, length, map, reverse, All, sym, ap, subst, ◌∙◌, arith, append_assoc}
use Rattle.std.proofs.lemmas.List.{length-append, reverse-append, map-append, length-reverse, length-map}
use Rattle.std.proofs.lemmas.List.Elements.{All-nil, All-same, All-push, All-head, All-tail}
use Rattle.std.proofs.lemmas.Grind.{reverse_onto}
use Rattle.atomic_table.specs.Seated.{TableId}
use Rattle.atomic_table.specs.declared.shared.Seat.{Seat}
use Rattle.slots.specs.declared.views.View.{View}
use Rattle.slots.specs.Promise.{IsSeatOf}
use Rattle.crossbeam_deque.specs.Handles.{worker_view}
use Rattle.decision.specs.declared.scout.Scout.{Scout}
use Rattle.jobs.specs.Promise.{least_known}
use Rattle.rounds.specs.declared.shared.JobStop.{JobStop}
use Rattle.rounds.specs.declared.shared.Round.{Round}
use Rattle.rounds.specs.declared.shared.RootJobs.{RootJobs}
use Rattle.rounds.specs.declared.share.Share.{Share}
use Rattle.problems.specs.Jobs.{RootJobWins}
use Rattle.jobs.specs.Deals.{Deals}
use Rattle.searcher.specs.Tables.{AreSeats}
use Rattle.rounds.specs.Shares.{IsRound, IsShare, WinsHere, AreDealt, seats_back}
use Rattle.searcher.proofs.Lists.{Each-snoc}

-- a job that wins in the round is one that the round's word may tell of
pub may_lower : {T : Type 0} (b : Round T) (n job : ℕ) → IsRound n b → job < n → WinsHere b job
    → (job < b.least.now.jobs) × RootJobWins b.least.now.wins.goal b.least.now.wins.position b.least.now.wins.plies job
may_lower b n job is below win = (
  omega (arith, is.jobs, below),
  subst (λ (w : RootJobs). RootJobWins w.goal w.position w.plies job) (sym is.wins) (b.search.now.root.moves.items, is.root, win),
)

-- a share after a search: what led it and its seat have gone on
pub later : {J T : Type 0} (n : ℕ) (b : Round T) (s : Share J) (scout : Scout JobStop) (seat : Seat ℕ View) → IsShare n b s → scout.stop.least.now ≡ s.scout.stop.least.now
    → least_known scout.stop.seat ≤ least_known s.scout.stop.seat → IsSeatOf b.search.now.slots.now seat → IsShare n b (record { local = s.local; scout = scout; row = s.row; seat = seat })
later n b s scout seat is same falls seated = record {
  round = is.round;
  stop = same ∙ is.stop;
  row = is.row;
  right = is.right;
  knows = λ job wins. omega (arith, falls, is.knows job wins);
  seat = seated;
}

-- one thread more is dealt its part
pub dealt_more : {J : Type 0} (n threads step count part : ℕ) (xs ys : List (Share J)) (s : Share J) (put : List ℕ) → ys ≡ xs ++ s ∷ [] → step ≡ threads → count ≡ n
    → threads - 1 - length xs ≡ part → worker_view s.local ≡ put → Deals step count part put → AreDealt n threads xs → AreDealt n threads ys
dealt_more n threads step count part xs ys s put e same_step same_count here same_put dealt so_far =
    Each-snoc (λ k u. Deals threads n (threads - 1 - k) (worker_view u.local)) xs ys s e so_far
    (subst (λ (p : ℕ × ℕ × ℕ × List ℕ). Deals p.0 p.1 p.2 p.3) (λ i. (same_step i, same_count i, sym here i, sym same_put i)) dealt)

-- one share more: its seat is the first
pub back_more : {J : Type 0} (xs ys : List (Share J)) (s : Share J) → ys ≡ xs ++ s ∷ [] → seats_back ys ≡ s.seat ∷ seats_back xs
back_more xs ys s e = ap seats_back e ∙ ap reverse (map-append (λ u. u.seat) xs (s ∷ [])) ∙ reverse-append (map (λ u. u.seat) xs) (s.seat ∷ [])

-- a seat is taken from the end, and stands in one share more
pub seat_taken : {J : Type 0} (seats seats' all : List (Seat ℕ View)) (seat : Seat ℕ View) (xs ys : List (Share J)) (s : Share J) → seats ≡ seats' ++ seat ∷ [] → ys ≡ xs ++ s ∷ [] → s.seat ≡ seat
    → seats ++ seats_back xs ≡ all → seats' ++ seats_back ys ≡ all
seat_taken seats seats' all seat xs ys s taken put same so_far =
    ap (λ l. seats' ++ l) (back_more xs ys s put ∙ ap (λ x. x ∷ seats_back xs) same) ∙ sym (append_assoc seats' (seat ∷ []) (seats_back xs)) ∙ sym (ap (λ l. l ++ seats_back xs) taken) ∙ so_far

pub back_length : {J : Type 0} (xs : List (Share J)) → length (seats_back xs) ≡ length xs
back_length xs = length-reverse (map (λ s. s.seat) xs) ∙ length-map xs (λ (s : Share _). s.seat)

-- as many seats are left, or stand in shares, as were lent
pub lent_count : {J : Type 0} (left lent : List (Seat ℕ View)) (xs : List (Share J)) → left ++ seats_back xs ≡ lent → length left + length xs ≡ length lent
lent_count left lent xs same = omega (arith, ap length same, length-append left (seats_back xs), back_length xs)

-- they are seats of the table, one a share
module _ {J : Type 0} (t : TableId) where
  each_back : (xs : List (Share J)) → All (λ s. IsSeatOf t s.seat) xs → All (IsSeatOf t) (seats_back xs)
  each_back [] a = All-nil (IsSeatOf t)
  each_back (x ∷ xs) a =
      All-same (IsSeatOf t) (seats_back (x ∷ xs)) (seats_back xs ++ x.seat ∷ []) (reverse_onto (map (λ s. s.seat) xs) x.seat [])
      (All-push (IsSeatOf t) (seats_back xs) x.seat (each_back xs (All-tail (λ s. IsSeatOf t s.seat) x xs a)) (All-head (λ s. IsSeatOf t s.seat) x xs a))

  pub back_seats : (xs : List (Share J)) → All (λ s. IsSeatOf t s.seat) xs → AreSeats t (length xs) (seats_back xs)
  back_seats xs seats = (back_length xs, each_back xs seats)
