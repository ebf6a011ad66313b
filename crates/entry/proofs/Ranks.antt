-- A position's squares, two ranks at a time.
use Rattle.std.proofs.Common.{◌≡◌, ℕ, ◌+◌, ◌-◌, ◌*◌, ◌≤◌, zero, suc, refl, sym, ap, ◌∙◌, arith, List, [], ◌∷◌, ◌++◌, length, get_or, take, drop, replicate, Option, Some, None, length-drop}
use Rattle.entry.proofs.Common.{IfSome, take-append-drop, length-take-le, Game, LosAlamos, Gardner, Man, width_of, squares_of, PlainBoard, unit_on, MayStandOn, IsPosition, squares_word, rank_pair}
use Rattle.std.proofs.Math.Seq.{take-add}
use Rattle.entry.proofs.Digits.{one_squares}

-- ---- three parts and a rest

abbrev pub Places : Type 0
Places = List (Option Man)

abbrev pub joined : Places → Places → Places → ℕ → Places
joined a b c n = ((a ++ b) ++ c) ++ replicate n None

parts_of : (n : ℕ) (us : Places) → us ≡ ((take n us ++ take n (drop n us)) ++ take n (drop (n + n) us)) ++ drop (n + n + n) us
parts_of n us = sym (take-append-drop (n + n + n) us) ∙ ap (λ x. x ++ drop (n + n + n) us) (take-add (n + n) n us ∙ ap (λ x. x ++ take n (drop (n + n) us)) (take-add n n us))

empty_tail : (n k : ℕ) (us : Places) → length us ≡ n + k → ((i : ℕ) → n ≤ i → get_or us i None ≡ None) → drop n us ≡ replicate k None
empty_tail zero zero [] h e = refl
empty_tail zero zero (u ∷ us) h e = absurd (omega arith)
empty_tail zero (suc k) [] h e = absurd (omega arith)
empty_tail zero (suc k) (u ∷ us) h e =
    let first : u ≡ None = e 0 (omega arith) in
    let rest : us ≡ replicate k None = empty_tail zero k us (omega arith) (λ i p. e (suc i) (omega arith)) in
    λ i. first i ∷ rest i
empty_tail (suc n) k [] h e = absurd (omega arith)
empty_tail (suc n) k (u ∷ us) h e = empty_tail n k us (omega arith) (λ i p. e (suc i) (omega arith))

-- ---- pairs of ranks

abbrev pub pair : ℕ → Game → Places → Places
pair k g us = take (2 * width_of g) (drop (k * (2 * width_of g)) us)

-- the places are three pairs of ranks, and nothing after them
pub record IsWhole (g : Game) (us : Places) : Type 0 where
  pub parts : us ≡ joined (pair 0 g us) (pair 1 g us) (pair 2 g us) (36 - 6 * width_of g)
  pub first : length (pair 0 g us) ≡ 2 * width_of g
  pub second : length (pair 1 g us) ≡ 2 * width_of g
  pub third : length (pair 2 g us) ≡ 2 * width_of g

long_pair : (n k : ℕ) (us : Places) → k + n ≤ length us → length (take n (drop k us)) ≡ n
long_pair n k us h = let e = length-drop k us in length-take-le n (drop k us) (omega arith)

whole_places : (g : Game) (us : Places) → length us ≡ 36 → ((i : ℕ) → squares_of g ≤ i → get_or us i None ≡ None) → IsWhole g us
whole_places LosAlamos us h e = record {
  parts = parts_of 12 us ∙ ap (λ x. ((take 12 us ++ take 12 (drop 12 us)) ++ take 12 (drop 24 us)) ++ x) (empty_tail 36 0 us h (λ i p. e i p));
  first = long_pair 12 0 us (omega arith);
  second = long_pair 12 12 us (omega arith);
  third = long_pair 12 24 us (omega arith);
}
whole_places Gardner us h e = record {
  parts = parts_of 10 us ∙ ap (λ x. ((take 10 us ++ take 10 (drop 10 us)) ++ take 10 (drop 20 us)) ++ x) (empty_tail 30 6 us h (λ i p. e i (omega arith)));
  first = long_pair 10 0 us (omega arith);
  second = long_pair 10 10 us (omega arith);
  third = long_pair 10 20 us (omega arith);
}

nothing_past : (g : Game) (n : ℕ) (o : Option Man) → squares_of g ≤ n → IfSome o (MayStandOn g n) → o ≡ None
nothing_past g n None h m = refl
nothing_past g n (Some u) h m = let k = m.on_board in absurd (omega arith)

pub whole_position : (b : PlainBoard) → IsPosition b → IsWhole b.game b.units
whole_position b p = whole_places b.game b.units p.places (λ i h. nothing_past b.game i (unit_on b i) h (p.squares i))

-- the words of the pairs decide the places
same_places : (g : Game) (us vs : Places) → IsWhole g us → IsWhole g vs → squares_word (pair 0 g us) ≡ squares_word (pair 0 g vs) → squares_word (pair 1 g us) ≡ squares_word (pair 1 g vs) → squares_word (pair 2 g us) ≡ squares_word (pair 2 g vs) → us ≡ vs
same_places g us vs p q a b c =
    let x = one_squares (pair 0 g us) (pair 0 g vs) (p.first ∙ sym q.first) a in
    let y = one_squares (pair 1 g us) (pair 1 g vs) (p.second ∙ sym q.second) b in
    let z = one_squares (pair 2 g us) (pair 2 g vs) (p.third ∙ sym q.third) c in
    p.parts ∙ (λ i. joined (x i) (y i) (z i) (36 - 6 * width_of g)) ∙ sym q.parts

pub same_units : (g h : Game) (us vs : Places) → g ≡ h → IsWhole g us → IsWhole h vs → squares_word (pair 0 g us) ≡ squares_word (pair 0 h vs) → squares_word (pair 1 g us) ≡ squares_word (pair 1 h vs) → squares_word (pair 2 g us) ≡ squares_word (pair 2 h vs) → us ≡ vs
same_units LosAlamos LosAlamos us vs e p q a b c = same_places LosAlamos us vs p q a b c
same_units LosAlamos Gardner us vs e p q a b c = cc
same_units Gardner LosAlamos us vs e p q a b c = cc
same_units Gardner Gardner us vs e p q a b c = same_places Gardner us vs p q a b c

-- the words hold the position's squares, two ranks in each
pub record IsPacked (b : PlainBoard) (w0 w1 w2 : ℕ) : Type 0 where
  pub position : IsPosition b
  pub low : w0 ≡ squares_word (rank_pair 0 b)
  pub middle : w1 ≡ squares_word (rank_pair 1 b)
  pub high : w2 ≡ squares_word (rank_pair 2 b)

-- the words of a position's squares, its game and its mover decide it
pub one_board : (b q : PlainBoard) (w0 w1 w2 : ℕ) → IsPacked b w0 w1 w2 → IsPacked q w0 w1 w2 → b.game ≡ q.game → b.mover ≡ q.mover → b ≡ q
one_board b q w0 w1 w2 p r g m =
    let units = same_units b.game q.game b.units q.units g (whole_position b p.position) (whole_position q r.position) (sym p.low ∙ r.low) (sym p.middle ∙ r.middle) (sym p.high ∙ r.high) in
    λ i. record { game = g i; mover = m i; units = units i }
