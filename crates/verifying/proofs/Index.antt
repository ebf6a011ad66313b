-- The map of claims: a position has one list of words, and what is entered by it is found.
use Rattle.std.proofs.Common.{◌≡◌, ℕ, zero, suc, ◌+◌, ◌*◌, ◌/◌, ◌%◌, ◌<◌, ◌≤◌, refl, sym, ap, subst, ◌∙◌, arith, inl, inr, true, cond, ◌||◌, eqb, leb, eqb-true, leb-true, List, [], ◌∷◌, ◌++◌, length, get_or, Option, Some, None, unwrap_or, Contains, bytes_eq}
use Rattle.std.specs.Map.{lookup}
use Rattle.verifying.proofs.Common.{agree_below_at, or_cases, cases_eq, cond_both, both_ways, same_lists, get_or_default, Contains-append_left, Contains-push, Contains-push_cases, bytes_eq-Decides, Game, LosAlamos, Gardner, Side, White, Black, Kind, King, Queen, Rook, Bishop, Knight, Pawn, PlainBoard, squares_of, digit, man_of, code_on, flags_of, game_of, game_of_flags, mover_of_flags, unpacked, IsPacked, IsUnused, units_in-at, within_36, Claim, AreWordsOf, IsFoundIn, IsIndexOf}
use Rattle.board.specs.declared.game.Unit.{Unit as Man}
use Rattle.moves.proofs.Digits.{digit_shifted}

-- ---- a position has one list of words

kind_number : Kind → ℕ
kind_number King = 1
kind_number Queen = 2
kind_number Rook = 3
kind_number Bishop = 4
kind_number Knight = 5
kind_number Pawn = 6

side_number : Side → ℕ
side_number White = 0
side_number Black = 1

game_number : Game → ℕ
game_number LosAlamos = 0
game_number Gardner = 4

man_number : Option Man → ℕ
man_number None = 0
man_number (Some u) = kind_number u.kind + 6 * side_number u.side

code_number : (c : ℕ) → c < 13 → man_number (man_of c) ≡ c
unfolding man_number kind_number side_number
code_number c h = eqb-true (man_number (man_of c)) c (agree_below_at (λ n. eqb (man_number (man_of n)) n) (λ _. true) 13 c refl h)

flags_number : (f : ℕ) → f < 8 → f % 4 < 2 → game_number (game_of_flags f) + side_number (mover_of_flags f) ≡ f
unfolding game_number side_number
flags_number f h k = elim (or_cases (eqb (game_number (game_of_flags f) + side_number (mover_of_flags f)) f) (leb 2 (f % 4)) (agree_below_at (λ n. eqb (game_number (game_of_flags n) + side_number (mover_of_flags n)) n || leb 2 (n % 4)) (λ _. true) 8 f refl h)) [
  | inl same ↦ eqb-true (game_number (game_of_flags f) + side_number (mover_of_flags f)) f same
  | inr more ↦ absurd (omega (arith, leb-true 2 (f % 4) more))
]

-- a number is all its digits
same_number : (most v w : ℕ) → v + w ≤ most → ((i : ℕ) → digit v i ≡ digit w i) → v ≡ w
same_number zero v w few same = omega (arith, few)
same_number (suc most) v w few same =
    let rest : v / 16 ≡ w / 16 = same_number most (v / 16) (w / 16) (omega (arith, few)) (λ i. digit_shifted v 1 i ∙ same (1 + i) ∙ sym (digit_shifted w 1 i)) in
    omega (arith, same 0, rest)

module _ (v w : List ℕ) (a : IsPacked v) (b : IsPacked w) (one : unpacked v ≡ unpacked w) where
  game : game_of w ≡ game_of v
  game = ap (λ (x : PlainBoard). x.game) (sym one)

  same_man : (n : ℕ) → n < 36 → man_of (code_on (game_of v) v n) ≡ man_of (code_on (game_of v) w n)
  same_man n h =
      sym (units_in-at (game_of v) v n h) ∙ ap (λ (x : PlainBoard). get_or x.units n None) one ∙ units_in-at (game_of w) w n h
      ∙ ap (λ (g : Game). man_of (code_on g w n)) game

  same_code : (n : ℕ) → n < squares_of (game_of v) → code_on (game_of v) v n ≡ code_on (game_of v) w n
  same_code n h =
      let small : code_on (game_of v) w n < 13 = subst (λ (g : Game). (k : ℕ) → k < squares_of g → code_on g w k < 13) game b.codes n h in
      sym (code_number (code_on (game_of v) v n) (a.codes n h)) ∙ ap man_number (same_man n (within_36 (game_of v) n h)) ∙ code_number (code_on (game_of v) w n) small

  same_flags : flags_of v ≡ flags_of w
  same_flags = sym (flags_number (flags_of v) a.flags a.colour) ∙ ap (λ (x : PlainBoard). game_number x.game + side_number x.mover) one ∙ flags_number (flags_of w) b.flags b.colour

  -- what is neither a square's nor the flags' is 0 in both
  same_digit : (k i : ℕ) → digit (get_or v k 0) i ≡ digit (get_or w k 0) i
  same_digit k i = elim (cases_eq (digit (get_or v k 0) i) (digit (get_or w k 0) i)) [
    | inl same ↦ same
    | inr differs ↦
        let free : IsUnused (game_of v) k i = record {
          no_square = λ n h x y. differs (cc (same_code n h));
          no_flags = λ x y. differs (cc same_flags);
        } in
        a.unused k i free ∙ sym (subst (λ (g : Game). (m j : ℕ) → IsUnused g m j → digit (get_or w m 0) j ≡ 0) game b.unused k i free)
  ]

  same_words : length v ≡ length w → v ≡ w
  same_words long = same_lists v w long (λ k d h. get_or_default v k d 0 h ∙ same_number (get_or v k 0 + get_or w k 0) (get_or v k 0) (get_or w k 0) (omega arith) (same_digit k) ∙ get_or_default w k 0 d (omega (arith, h, long)))

-- ---- a claim more

module _ (entries : List (List ℕ × ℕ)) (claims : List Claim) (p : PlainBoard) (plies : ℕ) where
  abbrev more : List Claim
  more = claims ++ record { position = p; plies = plies } ∷ []

  -- the first claim about the position, where the added one may be it
  pub first_claim : (found : Option ℕ) → IsFoundIn claims p found → Contains more (record { position = p; plies = unwrap_or found plies })
  first_claim None none = Contains-push claims (record { position = p; plies = plies })
  first_claim (Some k) among = Contains-append_left claims (record { position = p; plies = plies } ∷ []) (record { position = p; plies = k }) among

  still_found : (q : PlainBoard) (found : Option ℕ) → (p ≡ q → ⊥) → IsFoundIn claims q found → IsFoundIn more q found
  still_found q None apart none = λ c among about. elim (Contains-push_cases claims (record { position = p; plies = plies }) c among) as (λ _. ⊥) [
    | inl before ↦ none c before about
    | inr new ↦ apart (ap (λ (x : Claim). x.position) new ∙ about)
  ]
  still_found q (Some k) apart among = Contains-append_left claims (record { position = p; plies = plies } ∷ []) (record { position = q; plies = k }) among

  -- what is entered by the position's words is found, and of the other positions the same as before
  pub entered : (mine : List ℕ) (first : ℕ) (new : List (List ℕ × ℕ)) → AreWordsOf p mine → Contains more (record { position = p; plies = first })
      → ((words : List ℕ) → lookup (bytes_eq words) new ≡ cond (bytes_eq mine words) (Some first) (lookup (bytes_eq words) entries)) → IsIndexOf entries claims → IsIndexOf new more
  entered mine first new are among is h q words theirs =
      subst (IsFoundIn more q) (sym (is words)) (cond_both (bytes_eq mine words) (Some first) (lookup (bytes_eq words) entries) (IsFoundIn more q)
      (λ yes. subst (λ (x : PlainBoard). Contains more (record { position = x; plies = first })) (sym are.board ∙ ap unpacked ((bytes_eq-Decides mine words).0 yes) ∙ theirs.board) among)
      (λ no. still_found q (lookup (bytes_eq words) entries)
      (λ same. both_ways (bytes_eq mine words) no ((bytes_eq-Decides mine words).1 (same_words mine words are.packed theirs.packed (are.board ∙ same ∙ sym theirs.board) (are.three ∙ sym theirs.three)))) (h q words theirs)))
