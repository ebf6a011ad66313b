-- First pass, the gate alone: it never falls, half of it counts the stores, and what a seat says of its numbers stays so.
use Rattle.std.proofs.Common.{◌≡◌, ℕ, ◌-◌, ◌/◌, ◌%◌, ◌^◌, ◌<◌, ◌≤◌, true, List, set, arith}
use Rattle.slots.proofs.Common.{Call, Note, Half, Idle, Reading, Writing, stores, Glance, Had, Passed, GateHolds}
use Rattle.slots.proofs.Seats.{each_moved}

pub higher : (gate gate' : ℕ) → gate ≤ gate' → (note : Note) → Had gate note → Had gate' note
higher gate gate' more note h = let low = h.0 in let high = h.1 in (low, omega arith)

still_passed : (gate gate' : ℕ) → gate ≤ gate' → (h : Half) → Passed gate h → Passed gate' h
still_passed gate gate' more Idle p = tt
still_passed gate gate' more (Reading at got) p = let below = p.1 in (p.0, omega arith)
still_passed gate gate' more (Writing at stood put) p = tt

-- an even gate that can rise no more counts the most stores
pub full_gate : (g c : ℕ) → g % 2 ≡ 0 → 2 ^ 64 - 4 < g → g < 18446744073709551616 → c ≡ g / 2 → c ≡ 2 ^ 63 - 1
full_gate g c even high small e = omega arith

-- a step of one seat keeps the pass, where the gate doesn't fall and still counts the stores
pub gate_keeps : (history : List Call) (gate : ℕ) (seats : List Glance) → GateHolds history gate seats → (id : ℕ) (new : Glance) (history' : List Call) (gate' : ℕ)
    → stores history' ≡ gate' / 2 → gate ≤ gate' → (new.seated ≡ true → Had gate' new.note) → Passed gate' new.half → GateHolds history' gate' (set seats id new)
gate_keeps history gate seats r id new history' gate' counted more had passed = record {
  counted = counted;
  had = each_moved seats id new (λ _ g. g.seated ≡ true → Had gate' g.note) (λ j g _ e is. higher gate gate' more g.note (r.had j g e is)) had;
  passed = each_moved seats id new (λ _ g. Passed gate' g.half) (λ j g _ e. still_passed gate gate' more g.half (r.passed j g e)) passed;
}
