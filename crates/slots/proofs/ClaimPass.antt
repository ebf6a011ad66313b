-- Second pass, the claim and the written words: one seat at most writes, what it has written stands, and at rest the words are what the history leaves.
use Rattle.std.proofs.Common.{◌≡◌, ◌≢◌, ℕ, ◌%◌, ◌<◌, List, [], ◌∷◌, ◌++◌, length, take, set, Some, sym, ap, ◌∙◌, subst, inl, length-append}
use Rattle.slots.proofs.Common.{take_more_set, Call, Offered, Stored, Half, Idle, Reading, Writing, Way, Machine, MayReply, standing, StoresMeet, Yields, words_of, Glance, Claims, ClaimHolds}
use mathlib.Core.Option as option
use lib.ListN.{get_elem?}
use Rattle.slots.proofs.Seats.{each_moved}

-- one word more is written
pub put_more : (put words : List ℕ) (word : ℕ) → put ≡ take (length put) words → length put < length words → put ++ word ∷ [] ≡ take (length (put ++ word ∷ [])) (set words (length put) word)
put_more put words word e room = ap (λ l. l ++ word ∷ []) e ∙ (sym (take_more_set words (length put) word room) ∙ ap (λ n. take n (set words (length put) word)) (sym (length-append put (word ∷ []))))

-- where new words may be put, they may be stored
pub yields_may : (meets : List ℕ → Type 0) (way : Way) (stood put : List ℕ) (m : Machine) → Yields meets way stood put → (length stood ≡ 3 → stood ≡ words_of m.holds) → ((w : List ℕ) → m.holds ≡ Some w → meets w) → MayReply way m (Offered put Stored)
yields_may meets way stood put m yields was lore = λ r e. yields r (λ full. was full ∙ ap words_of e) (inl (lore r e))

-- what the writer has half done stays so, where others change nothing under its claim
still_claims : (gate gate' : ℕ) (words words' holds holds' : List ℕ) (writer writer' seat : ℕ)
    → (gate % 2 ≡ 1 → seat ≡ writer → (gate' ≡ gate) × (words' ≡ words) × (writer' ≡ writer) × (holds' ≡ holds)) → (h : Half) → Claims gate words holds writer seat h → Claims gate' words' holds' writer' seat h
still_claims gate gate' words words' holds holds' writer writer' seat still Idle k = tt
still_claims gate gate' words words' holds holds' writer writer' seat still (Reading at got) k = tt
still_claims gate gate' words words' holds holds' writer writer' seat still (Writing at stood put) k = let odd : gate % 2 ≡ 1 = subst (λ (z : ℕ). z % 2 ≡ 1) k.1 k.0 in let same = still odd k.2 in
    (k.0, k.1 ∙ sym same.0, k.2 ∙ sym same.2, subst (λ (ws : List ℕ). put ≡ take (length put) ws) (sym same.1) k.3, λ full. k.4 full ∙ sym same.3)

-- a step of one seat keeps the pass, where another's claim, words and history stay as they are
pub claim_keeps : (meets : List ℕ → Type 0) (history : List Call) (gate : ℕ) (words : List ℕ) (seats : List Glance) (r : ClaimHolds meets history gate words seats) (id : ℕ) (new : Glance) (history' : List Call) (gate' : ℕ) (words' : List ℕ) (writer' : ℕ)
    → (gate' % 2 ≡ 0 → words' ≡ words_of (standing history')) → ((k : ℕ) (c : Call) → get_elem? history' k ≡ option.some c → StoresMeet meets c.act)
    → Claims gate' words' (words_of (standing history')) writer' id new.half
    → ((j : ℕ) → j ≢ id → gate % 2 ≡ 1 → j ≡ r.writer → (gate' ≡ gate) × (words' ≡ words) × (writer' ≡ r.writer) × (words_of (standing history') ≡ words_of (standing history)))
    → ClaimHolds meets history' gate' words' (set seats id new)
claim_keeps meets history gate words seats r id new history' gate' words' writer' rest lore own odd = record {
  writer = writer';
  at_rest = rest;
  lore = lore;
  claims = each_moved seats id new (λ j g. Claims gate' words' (words_of (standing history')) writer' j g.half)
      (λ j g apart e. still_claims gate gate' words words' (words_of (standing history)) (words_of (standing history')) r.writer writer' j (odd j apart) g.half (r.claims j g e))
      own;
}
