-- The text of a move tells where the move ends.
use Rattle.std.proofs.Common.{◌≡◌, ◌≢◌, ◌⊎◌, ℕ, ◌+◌, ◌<◌, ◌≤◌, List, [], ◌∷◌, ◌++◌, refl, sym, ap, ◌∙◌, inl, inr, arith, Option, Some, None, Bool, true, false, ◌==◌, cond, count_by}
use Rattle.wintree.proofs.Common.{ne_eqb, true≢false, eqb_tells, Kind, King, Queen, Rook, Bishop, Knight, Pawn, Ply, IsPly, square_text, promotion_text, move_text, promotion_of, next_byte, IsPlain, count_append}

-- the text of a promotion is nothing, or a letter of one
letter_of : (p : Option Kind) → (promotion_text p ≡ []) ⊎ ((b : ℕ) × (promotion_text p ≡ b ∷ []) × (promotion_of (Some b) ≢ None))
letter_of None = inl refl
letter_of (Some King) = inl refl
letter_of (Some Queen) = inr (113, refl, λ e. cc)
letter_of (Some Rook) = inr (114, refl, λ e. cc)
letter_of (Some Bishop) = inr (98, refl, λ e. cc)
letter_of (Some Knight) = inr (110, refl, λ e. cc)
letter_of (Some Pawn) = inl refl

same_after : (p q x y : List ℕ) → (p ≡ []) ⊎ ((b : ℕ) × (p ≡ b ∷ []) × (promotion_of (Some b) ≢ None)) → (q ≡ []) ⊎ ((b : ℕ) × (q ≡ b ∷ []) × (promotion_of (Some b) ≢ None)) → (p ≡ [] → promotion_of (next_byte x) ≡ None) → promotion_of (next_byte y) ≡ None → p ++ x ≡ q ++ y → x ≡ y
same_after p q x y (inl none) (inl bare) no_x no_y e = ap (λ r. r ++ x) (sym none) ∙ e ∙ ap (λ r. r ++ y) bare
same_after p q x y (inl none) (inr letter) no_x no_y e =
    let f : x ≡ letter.0 ∷ y = ap (λ r. r ++ x) (sym none) ∙ e ∙ ap (λ r. r ++ y) letter.1 in
    absurd (letter.2 (ap (λ r. promotion_of (next_byte r)) (sym f) ∙ no_x none))
same_after p q x y (inr letter) (inl bare) no_x no_y e =
    let f : letter.0 ∷ x ≡ y = ap (λ r. r ++ x) (sym letter.1) ∙ e ∙ ap (λ r. r ++ y) bare in
    absurd (letter.2 (ap (λ r. promotion_of (next_byte r)) f ∙ no_y))
same_after p q x y (inr letter) (inr other) no_x no_y e =
    let f : letter.0 ∷ x ≡ other.0 ∷ y = ap (λ r. r ++ x) (sym letter.1) ∙ e ∙ ap (λ r. r ++ y) other.1 in
    cc

-- what follows two moves is the same where it begins with no letter of a promotion
pub same_rest : (m n : Ply) (x y : List ℕ) → (promotion_text m.promotion ≡ [] → promotion_of (next_byte x) ≡ None) → promotion_of (next_byte y) ≡ None → move_text m ++ x ≡ move_text n ++ y → x ≡ y
same_rest m n x y no_x no_y e =
    let f : promotion_text m.promotion ++ x ≡ promotion_text n.promotion ++ y = cc in
    same_after (promotion_text m.promotion) (promotion_text n.promotion) x y (letter_of m.promotion) (letter_of n.promotion) no_x no_y f

same_byte : (b k : ℕ) → (b == k) ≡ true → b ≡ k
same_byte b k is = elim (eqb_tells b k) as (λ _. b ≡ k) [ inl equal ↦ equal.1 | inr different ↦ absurd (true≢false (sym is ∙ different.0)) ]

-- the kind of a letter has this letter
kind_step : (t : Bool) (b k : ℕ) (kind : Option Kind) (others : Option Kind) → (b == k) ≡ t → promotion_text kind ≡ k ∷ [] → (others ≡ None) ⊎ (promotion_text others ≡ b ∷ []) → (cond t kind others ≡ None) ⊎ (promotion_text (cond t kind others) ≡ b ∷ [])
kind_step true b k kind others is letter rest = inr (letter ∙ ap (λ n. n ∷ []) (sym (same_byte b k is)))
kind_step false b k kind others is letter rest = rest

pub kind_of : (b : ℕ) → (promotion_of (Some b) ≡ None) ⊎ (promotion_text (promotion_of (Some b)) ≡ b ∷ [])
kind_of b =
    kind_step (b == 113) b 113 (Some Queen) _ refl refl (kind_step (b == 114) b 114 (Some Rook) _ refl refl (kind_step (b == 98) b 98 (Some Bishop) _ refl refl (kind_step (b == 110) b 110 (Some Knight) _ refl refl (inl refl))))

-- ---- a move's text has no braces

plain_letter : (p : Option Kind) → IsPlain (promotion_text p)
plain_letter None = (refl, refl)
plain_letter (Some King) = (refl, refl)
plain_letter (Some Queen) = (refl, refl)
plain_letter (Some Rook) = (refl, refl)
plain_letter (Some Bishop) = (refl, refl)
plain_letter (Some Knight) = (refl, refl)
plain_letter (Some Pawn) = (refl, refl)

pub no_brace : (n k : ℕ) → n < k → (n == k) ≡ false
no_brace n k below = ne_eqb n k (λ e. absurd (omega arith))

plain_by : (m : Ply) (k : ℕ) → IsPly m → 102 < k → count_by (λ b. b == k) (promotion_text m.promotion) ≡ 0 → count_by (λ b. b == k) (move_text m) ≡ 0
plain_by m k ply above none =
    let ff : (97 + m.from.file == k) ≡ false = no_brace (97 + m.from.file) k (omega (arith, ply.from.file)) in
    let fr : (49 + m.from.rank == k) ≡ false = no_brace (49 + m.from.rank) k (omega (arith, ply.from.rank)) in
    let tf : (97 + m.to.file == k) ≡ false = no_brace (97 + m.to.file) k (omega (arith, ply.to.file)) in
    let tr : (49 + m.to.rank == k) ≡ false = no_brace (49 + m.to.rank) k (omega (arith, ply.to.rank)) in
    count_append (λ b. b == k) (square_text m.from ++ square_text m.to) (promotion_text m.promotion) ∙ rw (ff, fr, tf, tr) (omega (arith, none))

pub plain_move : (m : Ply) → IsPly m → IsPlain (move_text m)
plain_move m ply =
    let letter = plain_letter m.promotion in (plain_by m 123 ply (omega arith) letter.0, plain_by m 125 ply (omega arith) letter.1)

-- ---- some square and some move, which complete a beginning of a move's text

abbrev pub some_move : (file rank to_file to_rank : ℕ) → Ply
some_move file rank to_file to_rank = record { from = record { file = file; rank = rank }; to = record { file = to_file; rank = to_rank }; promotion = None }

pub is_some_move : (file rank to_file to_rank : ℕ) → file ≤ 5 → rank ≤ 5 → to_file ≤ 5 → to_rank ≤ 5 → IsPly (some_move file rank to_file to_rank)
is_some_move file rank to_file to_rank f r tf tr =
    record { from = record { file = omega arith; rank = omega arith }; to = record { file = omega arith; rank = omega arith }; promotion = tt }
