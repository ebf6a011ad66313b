-- What two callers have seen, and what stands when the table is given up.
use Rattle.std.proofs.Common.{◌≡◌, ◌⊎◌, ℕ, zero, suc, ◌+◌, ◌*◌, List, [], ◌∷◌, ◌++◌, get_or, refl, sym, ap, ◌∙◌, subst, ⊎_elim, inl, inr}
use mathlib.Core.Option as option
use lib.ListN.{get_elem?}
use Rattle.slots.proofs.Common.{Final, Seen, TableId, Seat, Call, View, Way, StartsWith, TableHolds, slots_of, InOneOrder, GivenUp}

-- of two beginnings of one list, one begins the other
pub both_begin : (xs ys more more' : List Call) → xs ++ more ≡ ys ++ more' → StartsWith xs ys ⊎ StartsWith ys xs
both_begin [] ys more more' e = inr (ys, refl)
both_begin (x ∷ xs) [] more more' e = inl (x ∷ xs, refl)
both_begin (x ∷ xs) (y ∷ ys) more more' e = let head : x ≡ y = cc in let tail : xs ++ more ≡ ys ++ more' = cc in
    ⊎_elim (λ (t : StartsWith xs ys). inl (t.0, λ i. head i ∷ t.1 i)) (λ (t : StartsWith ys xs). inr (t.0, λ i. sym head i ∷ t.1 i)) (both_begin xs ys more more' tail)

pub in_one_order : (way : Way) (meets : List ℕ → Type 0) (slots : ℕ) → InOneOrder way meets slots
in_one_order way meets slots s r i j v w at there seated seated' = let f = r.each_seat i v at seated in let g = r.each_seat j w there seated' in
    both_begin v.seen w.seen f.seen.0 g.seen.0 (sym f.seen.1 ∙ g.seen.1)

word_is : (l : List ℕ) (i x : ℕ) → get_elem? l i ≡ option.some x → x ≡ get_or l i 0
word_is [] i x e = absurd (option.some-ne-none x (sym e))
word_is (y ∷ ys) zero x e = sym (option.some-injective y x e)
word_is (y ∷ ys) (suc i) x e = word_is ys i x e

pub given_up : (way : Way) (meets : List ℕ → Type 0) (count : ℕ) (table : TableId) (words values : List ℕ) (seat : Seat ℕ View) (slot a b c d : ℕ) → count ≡ slots_of table → 4 * count ≡ table.words → seat.table_id ≡ table → Final (Seen (TableHolds way meets count) seat.id seat.me.0) words values
    → get_elem? words (4 * slot) ≡ option.some a → get_elem? words (4 * slot + 1) ≡ option.some b → get_elem? words (4 * slot + 2) ≡ option.some c → get_elem? words (4 * slot + 3) ≡ option.some d
    → GivenUp way meets table seat slot (a ∷ b ∷ c ∷ d ∷ [])
given_up way meets count table words values seat slot a b c d same all whose final p q r t = record {
  state = final.0;
  whose = whose;
  wide = final.1.0.wide ∙ all;
  rule = subst (λ n. TableHolds way meets n final.0) same final.1.0;
  view = final.1.1;
  words = λ i. (word_is words (4 * slot) a p ∙ ap (λ l. get_or l (4 * slot) 0) (sym final.2)) i
      ∷ (word_is words (4 * slot + 1) b q ∙ ap (λ l. get_or l (4 * slot + 1) 0) (sym final.2)) i
      ∷ (word_is words (4 * slot + 2) c r ∙ ap (λ l. get_or l (4 * slot + 2) 0) (sym final.2)) i
      ∷ (word_is words (4 * slot + 3) d t ∙ ap (λ l. get_or l (4 * slot + 3) 0) (sym final.2)) i
      ∷ [];
}
