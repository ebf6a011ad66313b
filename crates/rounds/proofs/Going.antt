-- A seat that goes on, step by step.
use Rattle.std.proofs.Common.{◌≡◌, ℕ, zero, suc, ◌<◌, List, [], ◌∷◌, ◌++◌, length, get_or, All, sym, ap, subst, ◌∙◌, arith}
use lib.ListN.{set}
use Rattle.std.proofs.lemmas.List.Elements.{All-head, All-tail, length_all_zip}
use Rattle.atomic_table.specs.Seated.{TableId}
use Rattle.atomic_table.specs.declared.shared.Seat.{Seat}
use Rattle.slots.specs.declared.views.View.{View}
use Rattle.slots.specs.Promise.{IsSeatOf}
use Rattle.decision.specs.Calls.{Continues}
use Rattle.decision.proofs.Calls.{continues_none, continues_more}
use Rattle.rounds.specs.declared.share.Share.{Share}
use Rattle.rounds.specs.Shares.{seats_back}
use Rattle.rounds.specs.Going.{SeatGoesOn, EachGoesOn, SeatsGoOn, KeptSeatsGoOn}
use Rattle.searcher.specs.Gates.{KeepsOn}
use Rattle.searcher.specs.Tables.{AreSeats}
use Rattle.rounds.proofs.Shares.{back_length, back_seats}
use Rattle.rounds.specs.Going.SeatGoesOn.{searched, called, onward}
use Rattle.decision.proofs.Zips.{zip_same, zip_last, zip_then, zip_back}

module _ (keeps : TableId → Seat ℕ View → Seat ℕ View → Type 0) (t : TableId) where
  pub goes_none : (a : Seat ℕ View) → IsSeatOf t a → SeatGoesOn keeps t a a
  goes_none a seat = searched (continues_none t a seat)

  pub goes_more : (a b c : Seat ℕ View) → SeatGoesOn keeps t a b → SeatGoesOn keeps t b c → SeatGoesOn keeps t a c
  goes_more a b c p q = onward p q

  -- the gate is called, and then a job is decided
  pub goes_decided : (a b c : Seat ℕ View) → IsSeatOf t a → keeps t a b → Continues t b c → SeatGoesOn keeps t a c
  goes_decided a b c seat kept calls = onward (called seat kept) (searched calls)

  -- a seat that goes on continues, if it does so in the gate's calls
  pub goes_kept : KeepsOn keeps t → (a b : Seat ℕ View) → SeatGoesOn keeps t a b → Continues t a b
  goes_kept keep a b (searched calls) = calls
  goes_kept keep a b (called seat kept) = keep a b seat kept
  goes_kept keep a b (onward {between = m} p q) = continues_more t a m b (goes_kept keep a m p) (goes_kept keep m b q)

module _ (keeps : TableId → Seat ℕ View → Seat ℕ View → Type 0) (t : TableId) where
  -- no seat was used
  pub seats_none : (xs : List (Seat ℕ View)) → All (IsSeatOf t) xs → SeatsGoOn keeps t xs xs
  seats_none xs seats = zip_same (SeatGoesOn keeps t) (IsSeatOf t) (goes_none keeps t) xs seats

  pub seats_more : (xs ys zs : List (Seat ℕ View)) → SeatsGoOn keeps t xs ys → SeatsGoOn keeps t ys zs → SeatsGoOn keeps t xs zs
  seats_more xs ys zs p q = zip_then (SeatGoesOn keeps t) (goes_more keeps t) xs ys zs p q

  -- the last one alone was used
  pub seats_last : (xs xs' ys : List (Seat ℕ View)) (s s' : Seat ℕ View) → xs ≡ ys ++ s ∷ [] → xs' ≡ ys ++ s' ∷ [] → All (IsSeatOf t) ys → SeatGoesOn keeps t s s' → SeatsGoOn keeps t xs xs'
  seats_last xs xs' ys s s' e e' seats on = zip_last (SeatGoesOn keeps t) (IsSeatOf t) (goes_none keeps t) xs xs' ys s s' e e' seats on

  pub seats_kept : KeptSeatsGoOn keeps t
  seats_kept keep [] [] on = tt
  seats_kept keep [] (y ∷ ys) on = absurd on
  seats_kept keep (x ∷ xs) [] on = absurd on
  seats_kept keep (x ∷ xs) (y ∷ ys) on = (goes_kept keeps t keep x y on.0, seats_kept keep xs ys on.1)

  module _ {J : Type 0} where
    each_still : (s : Share J) → IsSeatOf t s.seat → SeatGoesOn keeps t s.seat s.seat
    each_still s seat = goes_none keeps t s.seat seat

    -- no share was used
    pub each_none : (xs : List (Share J)) → All (λ s. IsSeatOf t s.seat) xs → EachGoesOn keeps t xs xs
    each_none xs seats = zip_same (λ a b. SeatGoesOn keeps t a.seat b.seat) (λ s. IsSeatOf t s.seat) each_still xs seats

    -- one share alone was used
    pub each_one : (xs : List (Share J)) (i : ℕ) (x s : Share J) → i < length xs → x ≡ get_or xs i x → All (λ s. IsSeatOf t s.seat) xs → SeatGoesOn keeps t x.seat s.seat → EachGoesOn keeps t xs (set xs i s)
    each_one [] i x s lt is seats on = absurd (omega (arith, lt))
    each_one (y ∷ ys) zero x s lt is seats on = (subst (λ u. SeatGoesOn keeps t u.seat s.seat) is on, each_none ys (All-tail (λ s. IsSeatOf t s.seat) y ys seats))
    each_one (y ∷ ys) (suc i) x s lt is seats on =
        (each_still y (All-head (λ s. IsSeatOf t s.seat) y ys seats), each_one ys i x s (omega (arith, lt)) is (All-tail (λ s. IsSeatOf t s.seat) y ys seats) on)

    pub each_more : (xs ys zs : List (Share J)) → EachGoesOn keeps t xs ys → EachGoesOn keeps t ys zs → EachGoesOn keeps t xs zs
    each_more xs ys zs p q = zip_then (λ a b. SeatGoesOn keeps t a.seat b.seat) (λ a b c. goes_more keeps t a.seat b.seat c.seat) xs ys zs p q

    pub back_goes_on : (xs ys : List (Share J)) → EachGoesOn keeps t xs ys → SeatsGoOn keeps t (seats_back xs) (seats_back ys)
    back_goes_on xs ys p = zip_back (SeatGoesOn keeps t) (λ u. u.seat) xs ys p

    -- all seats stand in shares, and come back from them
    pub lent_seats : (lent left back : List (Seat ℕ View)) (xs ys : List (Share J)) → left ≡ [] → left ++ seats_back xs ≡ lent → back ≡ left ++ seats_back ys → EachGoesOn keeps t xs ys
        → All (λ s. IsSeatOf t s.seat) ys → AreSeats t (length lent) back × SeatsGoOn keeps t lent back
    lent_seats lent left back xs ys none same came on seats =
        let lent_is : seats_back xs ≡ lent = sym (ap (λ l. l ++ seats_back xs) none) ∙ same in
        let back_is : seats_back ys ≡ back = sym (came ∙ ap (λ l. l ++ seats_back ys) none) in
        let count : length ys ≡ length lent = sym (length_all_zip (λ a b. SeatGoesOn keeps t a.seat b.seat) xs ys on) ∙ sym (back_length xs) ∙ ap length lent_is in (
          subst (λ (p : ℕ × List (Seat ℕ View)). AreSeats t p.0 p.1) (λ i. (count i, back_is i)) (back_seats t ys seats),
          subst (λ (p : List (Seat ℕ View) × List (Seat ℕ View)). SeatsGoOn keeps t p.0 p.1) (λ i. (lent_is i, back_is i)) (back_goes_on xs ys on),
        )
