-- The words of a board, as those of an entry.
use Rattle.std.proofs.Common.{◌≡◌, ◌≢◌, ℕ, zero, suc, ◌+◌, ◌*◌, ◌/◌, ◌%◌, ◌^◌, ◌<◌, ◌≤◌, refl, sym, ap, subst, ◌∙◌, arith, List, [], ◌∷◌, length, get_or, take, drop, None, length-drop, inl, inr}
use Rattle.entry.proofs.Common.{mul_left_comm, cases_lt, get_or-drop, Game, LosAlamos, Gardner, Side, width_of, squares_of, PlainBoard, Goal, digit, man_of, code_on, flags_of, game_of, game_of_flags, mover_of_flags, units_in, unpacked, IsUnused, IsBoard, units_in-at, Bounds, IsBounds, code_of, squares_word, rank_pair, side_bit, game_bit, goal_bit, upto_byte, entry_of, first_word, second_word, third_word, Packing}
use Rattle.std.proofs.lemmas.Nat.{pow-add, shr-shr}
use Rattle.std.proofs.lemmas.List.FromFn.{length-map-range_with_len}
use Rattle.moves.proofs.Digits.{digit_shifted}
use Rattle.entry.proofs.Digits.{squares_small}
use Rattle.entry.proofs.Ranks.{Places, pair, whole_position}
use Rattle.entry.proofs.Words.{side_bit_le, game_bit_le, goal_bit_le}

-- ---- codes

code_of-man : (c : ℕ) → c < 13 → code_of (man_of c) ≡ c
code_of-man zero h = refl
code_of-man (suc zero) h = refl
code_of-man (suc (suc zero)) h = refl
code_of-man (suc (suc (suc zero))) h = refl
code_of-man (suc (suc (suc (suc zero)))) h = refl
code_of-man (suc (suc (suc (suc (suc zero))))) h = refl
code_of-man (suc (suc (suc (suc (suc (suc zero)))))) h = refl
code_of-man (suc (suc (suc (suc (suc (suc (suc zero))))))) h = refl
code_of-man (suc (suc (suc (suc (suc (suc (suc (suc zero)))))))) h = refl
code_of-man (suc (suc (suc (suc (suc (suc (suc (suc (suc zero))))))))) h = refl
code_of-man (suc (suc (suc (suc (suc (suc (suc (suc (suc (suc zero)))))))))) h = refl
code_of-man (suc (suc (suc (suc (suc (suc (suc (suc (suc (suc (suc zero))))))))))) h = refl
code_of-man (suc (suc (suc (suc (suc (suc (suc (suc (suc (suc (suc (suc zero)))))))))))) h = refl
code_of-man (suc (suc (suc (suc (suc (suc (suc (suc (suc (suc (suc (suc (suc n))))))))))))) h = absurd (omega arith)

flags_bits : (f : ℕ) → f < 8 → f % 4 < 2 → f ≡ side_bit (mover_of_flags f) + 4 * game_bit (game_of_flags f)
flags_bits zero h k = refl
flags_bits (suc zero) h k = refl
flags_bits (suc (suc zero)) h k = absurd (omega arith)
flags_bits (suc (suc (suc zero))) h k = absurd (omega arith)
flags_bits (suc (suc (suc (suc zero)))) h k = refl
flags_bits (suc (suc (suc (suc (suc zero))))) h k = refl
flags_bits (suc (suc (suc (suc (suc (suc zero)))))) h k = absurd (omega arith)
flags_bits (suc (suc (suc (suc (suc (suc (suc zero))))))) h k = absurd (omega arith)
flags_bits (suc (suc (suc (suc (suc (suc (suc (suc n)))))))) h k = absurd (omega arith)

-- ---- digits of a word

pub digit_first : (w : ℕ) → digit w 0 ≡ w % 16
digit_first w = omega arith

pub digit_rest : (w i : ℕ) → digit (w / 16) i ≡ digit w (suc i)
digit_rest w i = let at : 1 + i ≡ suc i = omega arith in digit_shifted w 1 i ∙ ap (digit w) at

-- a word is so many squares, and what stands above them
squares_above : (n : ℕ) (us : Places) (w : ℕ) → n ≤ length us → ((i : ℕ) → i < n → man_of (digit w i) ≡ get_or us i None) → ((i : ℕ) → i < n → digit w i < 13) → w ≡ squares_word (take n us) + w / 2 ^ (4 * n) * 2 ^ (4 * n)
squares_above zero us w h stands small = omega arith
squares_above (suc n) [] w h stands small = absurd (omega arith)
squares_above (suc n) (u ∷ us) w h stands small =
    let at : 4 * suc n ≡ 4 + 4 * n = omega arith in
    let first : w % 16 ≡ code_of u = sym (digit_first w) ∙ sym (code_of-man (digit w 0) (small 0 (omega arith))) ∙ ap code_of (stands 0 (omega arith)) in
    let rest = squares_above n us (w / 16) (omega (arith, h)) (λ i k. ap man_of (digit_rest w i) ∙ stands (suc i) (omega (arith, k))) (λ i k. subst (λ x. x < 13) (sym (digit_rest w i)) (small (suc i) (omega (arith, k)))) in
    let high : w / 2 ^ (4 * suc n) ≡ w / 16 / 2 ^ (4 * n) = ap (λ e. w / 2 ^ e) at ∙ sym (shr-shr w 4 (4 * n)) in
    let power : 2 ^ (4 * suc n) ≡ 16 * 2 ^ (4 * n) = ap (λ e. 2 ^ e) at ∙ pow-add 2 4 (4 * n) in
    let above : w / 2 ^ (4 * suc n) * 2 ^ (4 * suc n) ≡ 16 * (w / 16 / 2 ^ (4 * n) * 2 ^ (4 * n)) = (λ i. high i * power i) ∙ mul_left_comm (w / 16 / 2 ^ (4 * n)) 16 (2 ^ (4 * n)) in
    omega (arith, first, rest, above)

-- ---- a pair of ranks

pair_word : (g : Game) (us : Places) (w k : ℕ) → k < 3 → length us ≡ 36 → w < 2 ^ 64 → ((i : ℕ) → i < 2 * width_of g → man_of (digit w i) ≡ get_or us (k * (2 * width_of g) + i) None) → ((i : ℕ) → i < 2 * width_of g → digit w i < 13) → ((i : ℕ) → 2 * width_of g ≤ i → i ≢ 12 → digit w i ≡ 0) → w ≡ squares_word (pair k g us) + 2 ^ 48 * digit w 12
pair_word LosAlamos us w k three long fits stands small free =
    let left = length-drop (k * 12) us in
    let all : w ≡ squares_word (take 12 (drop (k * 12) us)) + w / 2 ^ 48 * 2 ^ 48 =
    squares_above 12 (drop (k * 12) us) w (omega (arith, left, long, three)) (λ i h. stands i h ∙ sym (get_or-drop (k * 12) us i None)) small in
    let a : w / 2 ^ 52 % 16 ≡ 0 = free 13 (omega arith) (λ e. omega (arith, e)) in
    let b : w / 2 ^ 56 % 16 ≡ 0 = free 14 (omega arith) (λ e. omega (arith, e)) in
    let c : w / 2 ^ 60 % 16 ≡ 0 = free 15 (omega arith) (λ e. omega (arith, e)) in
    omega (arith, all, a, b, c, fits)
pair_word Gardner us w k three long fits stands small free =
    let left = length-drop (k * 10) us in
    let all : w ≡ squares_word (take 10 (drop (k * 10) us)) + w / 2 ^ 40 * 2 ^ 40 =
    squares_above 10 (drop (k * 10) us) w (omega (arith, left, long, three)) (λ i h. stands i h ∙ sym (get_or-drop (k * 10) us i None)) small in
    let d : w / 2 ^ 40 % 16 ≡ 0 = free 10 (omega arith) (λ e. omega (arith, e)) in
    let e : w / 2 ^ 44 % 16 ≡ 0 = free 11 (omega arith) (λ e. omega (arith, e)) in
    let a : w / 2 ^ 52 % 16 ≡ 0 = free 13 (omega arith) (λ e. omega (arith, e)) in
    let b : w / 2 ^ 56 % 16 ≡ 0 = free 14 (omega arith) (λ e. omega (arith, e)) in
    let c : w / 2 ^ 60 % 16 ≡ 0 = free 15 (omega arith) (λ e. omega (arith, e)) in
    omega (arith, all, a, b, c, d, e, fits)

code_at : (g : Game) (words : List ℕ) (k i : ℕ) → i < 2 * width_of g → code_on g words (k * (2 * width_of g) + i) ≡ digit (get_or words k 0) i
code_at LosAlamos words k i h =
    let a : (k * 12 + i) / 12 ≡ k = omega (arith, h) in
    let b : (k * 12 + i) % 12 ≡ i = omega (arith, h) in
    λ t. digit (get_or words (a t) 0) (b t)
code_at Gardner words k i h =
    let a : (k * 10 + i) / 10 ≡ k = omega (arith, h) in
    let b : (k * 10 + i) % 10 ≡ i = omega (arith, h) in
    λ t. digit (get_or words (a t) 0) (b t)

within : (g : Game) (k i : ℕ) → k < 3 → i < 2 * width_of g → k * (2 * width_of g) + i < 36
within LosAlamos k i h l = omega (arith, h, l)
within Gardner k i h l = omega (arith, h, l)

-- no square stands past the last
unused_past : (g : Game) (k i : ℕ) → i < 2 * width_of g → squares_of g ≤ k * (2 * width_of g) + i → IsUnused g k i
unused_past LosAlamos k i h past = record { no_square = λ n l a b. omega (arith, h, past, l, a, b); no_flags = λ _ e. omega (arith, h, e) }
unused_past Gardner k i h past = record { no_square = λ n l a b. omega (arith, h, past, l, a, b); no_flags = λ _ e. omega (arith, h, e) }

unused_above : (g : Game) (k i : ℕ) → 2 * width_of g ≤ i → (k ≡ 0 → i ≡ 12 → ⊥) → IsUnused g k i
unused_above LosAlamos k i h other = record { no_square = λ n l a b. omega (arith, h, b); no_flags = other }
unused_above Gardner k i h other = record { no_square = λ n l a b. omega (arith, h, b); no_flags = other }

twelve : (g : Game) → 2 * width_of g ≤ 12
twelve LosAlamos = omega arith
twelve Gardner = omega arith

-- ---- the three words

module _ (words : List ℕ) (is : IsBoard words) where
  abbrev pub board : PlainBoard
  board = unpacked words

  code_small : (k i : ℕ) → i < 2 * width_of (game_of words) → digit (get_or words k 0) i < 13
  code_small k i h =
      let g = game_of words in
      elim (cases_lt (k * (2 * width_of g) + i) (squares_of g)) [
        | inl l ↦ subst (λ x. x < 13) (code_at g words k i h) (is.codes (k * (2 * width_of g) + i) l)
        | inr past ↦ omega (arith, is.unused k i (unused_past g k i h past))
      ]

  word_at : (k : ℕ) → k < 3 → get_or words k 0 < 2 ^ 64 → get_or words k 0 ≡ squares_word (rank_pair k board) + 2 ^ 48 * digit (get_or words k 0) 12
  word_at k h fits =
      let g = game_of words in
      let w = get_or words k 0 in
      pair_word g (units_in g words) w k h (length-map-range_with_len (λ n. man_of (code_on g words n)) 0 36) fits
      (λ i l. ap man_of (sym (code_at g words k i l)) ∙ sym (units_in-at g words (k * (2 * width_of g) + i) (within g k i h l)))
      (code_small k)
      (λ i l other. is.unused k i (unused_above g k i l (λ _ e. other e)))

  pub first_at : get_or words 0 0 < 2 ^ 64 → get_or words 0 0 ≡ squares_word (rank_pair 0 board) + 2 ^ 48 * (side_bit board.mover + 4 * game_bit board.game)
  first_at fits = word_at 0 (omega arith) fits ∙ ap (λ n. squares_word (rank_pair 0 board) + 2 ^ 48 * n) (flags_bits (flags_of words) is.flags is.colour)

  none_above : (k : ℕ) → 0 < k → digit (get_or words k 0) 12 ≡ 0
  none_above k h = is.unused k 12 (unused_above (game_of words) k 12 (twelve (game_of words)) (λ e _. omega (arith, h, e)))

  pub later_at : (k : ℕ) → 0 < k → k < 3 → get_or words k 0 < 2 ^ 64 → get_or words k 0 ≡ squares_word (rank_pair k board)
  later_at k h l fits = omega (arith, word_at k l fits, none_above k h)

  pub first_small : get_or words 0 0 < 2 ^ 64 → get_or words 0 0 < 2 ^ 51
  first_small fits =
      let whole = whole_position board is.position in
      let low = squares_small (rank_pair 0 board) (omega (arith, whole.first, twelve board.game)) in
      omega (arith, low, first_at fits, side_bit_le board.mover, game_bit_le board.game)

  pub second_small : get_or words 1 0 < 2 ^ 64 → get_or words 1 0 < 2 ^ 48
  second_small fits =
      let whole = whole_position board is.position in
      let low = squares_small (rank_pair 1 board) (omega (arith, whole.second, twelve board.game)) in
      omega (arith, low, later_at 1 (omega arith) (omega arith) fits)

  pub third_small : get_or words 2 0 < 2 ^ 64 → get_or words 2 0 < 2 ^ 48
  third_small fits =
      let whole = whole_position board is.position in
      let low = squares_small (rank_pair 2 board) (omega (arith, whole.third, twelve board.game)) in
      omega (arith, low, later_at 2 (omega arith) (omega arith) fits)

  -- the words with more bits above are the packing
  pub board_packing : (attacker : Side) (goal : Goal) (i : Bounds) (marks upto : ℕ) → IsBounds i → get_or words 0 0 < 2 ^ 64 → get_or words 1 0 < 2 ^ 64 → get_or words 2 0 < 2 ^ 64 → marks ≡ 2 * side_bit attacker + 8 * goal_bit goal + 32768 → upto ≡ upto_byte i.upto → upto < 256 → Packing (entry_of board attacker goal i) ((get_or words 0 0 + marks * 2 ^ 48 % 2 ^ 64) ∷ (get_or words 1 0 + i.below * 2 ^ 48 % 2 ^ 64) ∷ (get_or words 2 0 + upto * 2 ^ 48 % 2 ^ 64) ∷ [])
  board_packing attacker goal i marks upto bounds f0 f1 f2 m u ul =
      let e = entry_of board attacker goal i in
      let limit = bounds.below in
      let w0 : get_or words 0 0 + marks * 2 ^ 48 % 2 ^ 64 ≡ first_word e = omega (arith, first_at f0, m, side_bit_le attacker, goal_bit_le goal) in
      let w1 : get_or words 1 0 + i.below * 2 ^ 48 % 2 ^ 64 ≡ second_word e = omega (arith, later_at 1 (omega arith) (omega arith) f1, limit) in
      let w2 : get_or words 2 0 + upto * 2 ^ 48 % 2 ^ 64 ≡ third_word e = omega (arith, later_at 2 (omega arith) (omega arith) f2, u, ul) in
      record { position = is.position; interval = bounds; words = λ t. w0 t ∷ w1 t ∷ w2 t ∷ [] }
