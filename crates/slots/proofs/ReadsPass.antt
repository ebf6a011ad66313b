-- Third pass, half-done reads: words change only as the gate rises, so words that were read under one gate are whole.
use Rattle.std.proofs.Common.{◌≡◌, ℕ, ◌+◌, ◌%◌, ◌<◌, ◌≤◌, List, [], ◌∷◌, ◌++◌, length, take, set, get_or, sym, ap, ◌∙◌, subst, arith, length-append}
use Rattle.slots.proofs.Common.{take_more, Call, Half, Idle, Reading, Writing, Way, IsLegal, Glance, Passed, StillRead, GateHolds, ReadsHold}
use Rattle.slots.proofs.Seats.{each_moved}

-- one word more is read
pub got_more : (got words : List ℕ) (i : ℕ) → length got ≡ i → got ≡ take (length got) words → i < length words → got ++ get_or words i 0 ∷ [] ≡ take (length (got ++ get_or words i 0 ∷ [])) words
got_more got words i l e room = ap (λ z. z ++ get_or words i 0 ∷ []) (e ∙ ap (λ n. take n words) l) ∙ (sym (take_more words i 0 room) ∙ ap (λ n. take n words) (ap (λ n. n + 1) (sym l) ∙ sym (length-append got (get_or words i 0 ∷ []))))

-- what another seat has read stays so
still_read : (gate gate' : ℕ) (words words' : List ℕ) → gate ≤ gate' → (gate % 2 ≡ 0 → gate' ≡ gate → words' ≡ words) → (h : Half) → Passed gate h → StillRead gate words h → StillRead gate' words' h
still_read gate gate' words words' more rest Idle p k = tt
still_read gate gate' words words' more rest (Reading at got) p k = let even : at % 2 ≡ 0 = p.0 in let below : at ≤ gate = p.1 in
    λ (e : at ≡ gate'). let same : at ≡ gate = omega arith in let same' : gate' ≡ gate = omega arith in let even' : gate % 2 ≡ 0 = subst (λ (z : ℕ). z % 2 ≡ 0) same even in
    subst (λ (ws : List ℕ). got ≡ take (length got) ws) (sym (rest even' same')) (k same)
still_read gate gate' words words' more rest (Writing at stood put) p k = tt

-- a step of one seat keeps the pass, where words change only under a gate that is odd or rises
pub reads_keep : (way : Way) (history : List Call) (gate : ℕ) (words : List ℕ) (seats : List Glance) → GateHolds history gate seats → ReadsHold way history gate words seats → (id : ℕ) (new : Glance) (history' : List Call) (gate' : ℕ) (words' : List ℕ)
    → IsLegal way history' → StillRead gate' words' new.half → gate ≤ gate' → (gate % 2 ≡ 0 → gate' ≡ gate → words' ≡ words)
    → ReadsHold way history' gate' words' (set seats id new)
reads_keep way history gate words seats numbers r id new history' gate' words' legal own more rest = record {
  legal = legal;
  read = each_moved seats id new (λ _ g. StillRead gate' words' g.half) (λ j g _ e. still_read gate gate' words words' more rest g.half (numbers.passed j g e) (r.read j g e)) own;
}
