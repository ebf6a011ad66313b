-- Reading a move, a byte at a time.
use Rattle.std.proofs.Common.{◌≡◌, ◌⊎◌, ℕ, ◌+◌, ◌<◌, ◌≤◌, List, [], ◌∷◌, ◌++◌, length, take, drop, refl, sym, ap, ◌∙◌, subst, inl, inr, arith, Option, Some, None, Bool, true, false, cond, IfSome, slice_get, is_some, ◌==◌}
use Rattle.wintree.proofs.Common.{slice_get_within, true≢false, Kind, Queen, Rook, Bishop, Knight, IsPromoted, IsPly, Ply, TreeFault, square_text, promotion_text, move_text, Spans, IsPlain, ReadsMove, ReadsCell, NoCell, NoMove, promotion_of, next_byte, count_append}
use Rattle.wintree.proofs.Places.{spans_none, spans_more}
use Rattle.wintree.proofs.MoveTexts.{kind_of, no_brace, some_move, is_some_move}

plain_more : (xs : List ℕ) (n : ℕ) → n < 123 → IsPlain xs → IsPlain (xs ++ n ∷ [])
plain_more xs n low plain =
    let opens : (n == 123) ≡ false = no_brace n 123 low in
    let closes : (n == 125) ≡ false = no_brace n 125 (omega arith) in
    (count_append (λ b. b == 123) xs (n ∷ []) ∙ rw opens (omega (arith, plain.0)), count_append (λ b. b == 125) xs (n ∷ []) ∙ rw closes (omega (arith, plain.1)))

-- nothing was read so far, or cells of a move
pub record Reads (bytes : List ℕ) (at g : ℕ) (xs : List ℕ) : Type 0 where
  pub later : at ≤ g
  pub within : g ≤ length bytes
  pub plain : IsPlain xs
  pub spans : Spans bytes at g xs

reads_none : (bytes : List ℕ) (at : ℕ) → at ≤ length bytes → Reads bytes at at []
reads_none bytes at within = record { later = omega arith; within = within; plain = (refl, refl); spans = spans_none bytes at }

reads_more : (bytes : List ℕ) (at g k first n : ℕ) (xs : List ℕ) → Reads bytes at g xs → first < 118 → ReadsCell bytes g first n → k ≡ g + 1 → Reads bytes at k (xs ++ (first + n) ∷ [])
reads_more bytes at g k first n xs so_far low cell e =
    record {
      later = omega (arith, so_far.later);
      within = omega (arith, slice_get_within bytes g (first + n) cell.1);
      plain = plain_more xs (first + n) (omega (arith, cell.0)) so_far.plain;
      spans = spans_more bytes at g k (first + n) xs so_far.spans cell.1 e;
    }

-- the move's text goes on by a cell, which doesn't stand there
leaves : (bytes : List ℕ) (at g first : ℕ) (part rest : List ℕ) (m : Ply) (fault : TreeFault) → Reads bytes at g part → part ++ rest ≡ move_text m → IsPly m → NoCell bytes g first fault
    → ((m : Ply) (x y : List ℕ) → IsPly m → part ++ x ≡ move_text m ++ y → (n : ℕ) × (n ≤ 5) × (next_byte x ≡ Some (first + n))) → NoMove bytes at fault
leaves bytes at g first part rest m fault so_far goes_on ply none next =
    subst (NoMove bytes at) (sym none.0)
    (record {
      later = so_far.later;
      within = so_far.within;
      part = part;
      plain = so_far.plain;
      spans = so_far.spans;
      begins = (rest, m, goes_on, ply);
      ends = λ other x y is_ply head e. let cell = next other x y is_ply e in none.1 cell.0 cell.1 (sym head ∙ cell.2);
    })

module _ (bytes : List ℕ) (at : ℕ) (within : at ≤ length bytes) where
  pub leaves_0 : (fault : TreeFault) → NoCell bytes at 97 fault → NoMove bytes at fault
  leaves_0 fault none =
      let m = some_move 0 0 0 0 in
      leaves bytes at at 97 [] (move_text m) m fault (reads_none bytes at within) refl (is_some_move 0 0 0 0 (omega arith) (omega arith) (omega arith) (omega arith)) none (λ n x y ply e. (n.from.file, omega (arith, ply.from.file), ap next_byte e))

  module _ (f : ℕ) (cell_f : ReadsCell bytes at 97 f) where
    one : Reads bytes at (at + 1) ((97 + f) ∷ [])
    one = reads_more bytes at at (at + 1) 97 f [] (reads_none bytes at within) (omega arith) cell_f refl

    pub leaves_1 : (fault : TreeFault) → NoCell bytes (at + 1) 49 fault → NoMove bytes at fault
    leaves_1 fault none =
        let m = some_move f 0 0 0 in
        leaves bytes at (at + 1) 49 ((97 + f) ∷ []) (49 ∷ 97 ∷ 49 ∷ []) m fault one refl (is_some_move f 0 0 0 cell_f.0 (omega arith) (omega arith) (omega arith)) none (λ n x y ply e. (n.from.rank, omega (arith, ply.from.rank), ap (λ xs. next_byte (drop 1 xs)) e))

    module _ (r : ℕ) (cell_r : ReadsCell bytes (at + 1) 49 r) where
      two : Reads bytes at (at + 2) ((97 + f) ∷ (49 + r) ∷ [])
      two = reads_more bytes at (at + 1) (at + 2) 49 r ((97 + f) ∷ []) one (omega arith) cell_r (omega arith)

      pub leaves_2 : (fault : TreeFault) → NoCell bytes (at + 2) 97 fault → NoMove bytes at fault
      leaves_2 fault none =
          let m = some_move f r 0 0 in
          leaves bytes at (at + 2) 97 ((97 + f) ∷ (49 + r) ∷ []) (97 ∷ 49 ∷ []) m fault two refl (is_some_move f r 0 0 cell_f.0 cell_r.0 (omega arith) (omega arith)) none (λ n x y ply e. (n.to.file, omega (arith, ply.to.file), ap (λ xs. next_byte (drop 2 xs)) e))

      module _ (f' : ℕ) (cell_f' : ReadsCell bytes (at + 2) 97 f') where
        three : Reads bytes at (at + 3) ((97 + f) ∷ (49 + r) ∷ (97 + f') ∷ [])
        three = reads_more bytes at (at + 2) (at + 3) 97 f' ((97 + f) ∷ (49 + r) ∷ []) two (omega arith) cell_f' (omega arith)

        pub leaves_3 : (fault : TreeFault) → NoCell bytes (at + 3) 49 fault → NoMove bytes at fault
        leaves_3 fault none =
            let m = some_move f r f' 0 in
            leaves bytes at (at + 3) 49 ((97 + f) ∷ (49 + r) ∷ (97 + f') ∷ []) (49 ∷ []) m fault three refl (is_some_move f r f' 0 cell_f.0 cell_r.0 cell_f'.0 (omega arith)) none (λ n x y ply e. (n.to.rank, omega (arith, ply.to.rank), ap (λ xs. next_byte (drop 3 xs)) e))

        module _ (r' : ℕ) (cell_r' : ReadsCell bytes (at + 3) 49 r') where
          pub four : Reads bytes at (at + 4) ((97 + f) ∷ (49 + r) ∷ (97 + f') ∷ (49 + r') ∷ [])
          four = reads_more bytes at (at + 3) (at + 4) 49 r' ((97 + f) ∷ (49 + r) ∷ (97 + f') ∷ []) three (omega arith) cell_r' (omega arith)

-- each cell that may be missing
pub ruleset leaves_move = (leaves_0, leaves_1, leaves_2, leaves_3)

-- ---- the promotion

letter_read : (o : Option ℕ) (p : Option Kind) → p ≡ promotion_of o → is_some p ≡ true → (b : ℕ) × (o ≡ Some b) × (promotion_text p ≡ b ∷ [])
letter_read None p is some = absurd (true≢false (sym some ∙ ap is_some is))
letter_read (Some b) p is some =
    elim (kind_of b) as (λ _. (c : ℕ) × (Some b ≡ Some c) × (promotion_text p ≡ c ∷ [])) [
      | inl none ↦ absurd (true≢false (sym some ∙ ap is_some (is ∙ none)))
      | inr letter ↦ (b, refl, ap promotion_text is ∙ letter)
    ]

no_letter : (p : Option Kind) → is_some p ≡ false → p ≡ None
no_letter None e = refl
no_letter (Some k) e = absurd (true≢false e)

some_cell : (b : ℕ) → [] ≡ b ∷ [] → ⊥
some_cell b e = cc

-- a letter stands for what a pawn may become
promoted_step : (t : Bool) (to : Kind) (others : Option Kind) → IsPromoted to → IfSome others IsPromoted → IfSome (cond t (Some to) others) IsPromoted
promoted_step true to others is rest = is
promoted_step false to others is rest = rest

is_promoted : (o : Option ℕ) → IfSome (promotion_of o) IsPromoted
is_promoted None = tt
is_promoted (Some b) =
    promoted_step (b == 113) Queen _ tt (promoted_step (b == 114) Rook _ tt (promoted_step (b == 98) Bishop _ tt (promoted_step (b == 110) Knight None tt tt)))

pub read_ply : (m : Ply) (o : Option ℕ) → m.from.file ≤ 5 → m.from.rank ≤ 5 → m.to.file ≤ 5 → m.to.rank ≤ 5 → m.promotion ≡ promotion_of o → IsPly m
read_ply m o ff fr tf tr is =
    record { from = record { file = omega arith; rank = omega arith }; to = record { file = omega arith; rank = omega arith }; promotion = subst (λ p. IfSome p IsPromoted) (sym is) (is_promoted o) }

pub reads_move : (bytes : List ℕ) (at next : ℕ) (m : Ply) → IsPly m → Reads bytes at (at + 4) (square_text m.from ++ square_text m.to) → m.promotion ≡ promotion_of (slice_get bytes (at + 4))
    → ((is_some m.promotion ≡ true) × (next ≡ at + 5)) ⊎ ((is_some m.promotion ≡ false) × (next ≡ at + 4)) → ReadsMove bytes at m next
reads_move bytes at next m ply squares is (inl some) =
    let letter = letter_read (slice_get bytes (at + 4)) m.promotion is some.0 in
    let spans = spans_more bytes at (at + 4) next letter.0 (square_text m.from ++ square_text m.to) squares.spans letter.1 (omega (arith, some.1)) in
    record {
      later = omega (arith, some.1);
      within = omega (arith, some.1, slice_get_within bytes (at + 4) letter.0 letter.1);
      spans = spans ∙ ap (λ xs. take at bytes ++ (square_text m.from ++ square_text m.to ++ xs)) (sym letter.2);
      ply = ply;
      whole = λ none. absurd (some_cell letter.0 (sym none ∙ letter.2));
    }
reads_move bytes at next m ply squares is (inr bare) =
    let none = no_letter m.promotion bare.0 in
    record {
      later = omega (arith, bare.1);
      within = omega (arith, bare.1, squares.within);
      spans = subst (λ k. Spans bytes at k (move_text m)) (sym bare.1) (squares.spans ∙ ap (λ p. take at bytes ++ (square_text m.from ++ square_text m.to ++ promotion_text p)) (sym none));
      ply = ply;
      whole = λ _. ap (λ k. promotion_of (slice_get bytes k)) bare.1 ∙ sym is ∙ none;
    }
