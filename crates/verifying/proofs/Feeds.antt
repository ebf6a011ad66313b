-- A text has one list of lines.
use Rattle.std.proofs.Common.{true, not, nat_eq, ◌≡◌, ◌≢◌, ◌<◌, ◌≤◌, ℕ, ◌+◌, ◌/◌, ◌%◌, List, [], ◌∷◌, ◌++◌, length, replicate, refl, sym, ap, ◌∙◌, subst, arith, append_assoc, All, codes, Option, None, Some, length-append, Contains}
use Rattle.verifying.proofs.Common.{All-weaker, Decides-eqb, Decides-not, nat_tests, All-nil, All-cons, All-head, All-tail, All-append, All-replicate, decimal, Kind, King, Queen, Rook, Bishop, Knight, Pawn, Goal, promotion_text, move_text, Ply, Answer, HasNoFeed, Word, Seen, Claimed, Stalemated, first_line, goal_text, IsInRange, place_letter, word_text, words_line, fed, All-contains, Contains-append_left, Contains-push, length-decimal-le}
use Rattle.std.proofs.lemmas.Grind.{elements}
use Rattle.std.proofs.lemmas.List.Sums.{AllPass-from_list_all}
use Rattle.std.specs.List.{list_all}
use Rattle.rules.specs.declared.goal.Goal.TheVariants as goal
use Rattle.problems.specs.declared.answer.Answer.TheVariants.{Mate, NoneWithin}
use Rattle.verifying.specs.declared.words.Word.TheVariants.{Place}
use Rattle.verifying.proofs.OneAnswer.{apart_decimal, one_cut}

abbrev NoFeed : ℕ → Type 0
NoFeed x = x ≢ 10

-- ---- lines without a feed

-- a text has no feed where none of its bytes passes for one
no_feed_in : (xs : List ℕ) → list_all (λ x. not (nat_eq x 10)) xs ≡ true → HasNoFeed xs
no_feed_in xs e =
    All-weaker (λ x. not (nat_eq x 10) ≡ true) NoFeed (λ x pass. (Decides-not (nat_eq x 10) (Decides-eqb x 10)).0 pass) xs (AllPass-from_list_all (λ x. not (nat_eq x 10)) xs e)

word_no_feed : (w : Word) → HasNoFeed (word_text w)
word_no_feed Seen = no_feed_in (codes ".") refl
word_no_feed Claimed = no_feed_in (codes "=") refl
word_no_feed Stalemated = no_feed_in (codes "-") refl
word_no_feed (Place n) =
    All-append NoFeed (replicate (n / 50) 90) (place_letter (n % 50) ∷ []) (All-replicate NoFeed (n / 50) 90 (λ e. omega (arith, e)))
    (All-cons NoFeed (place_letter (n % 50)) [] (grind (arith, nat_tests)) (All-nil NoFeed))

pub line_no_feed : (words : List Word) → HasNoFeed (words_line words)
line_no_feed [] = All-nil NoFeed
line_no_feed (w ∷ words) = All-append NoFeed (word_text w) (words_line words) (word_no_feed w) (line_no_feed words)

-- ---- an answer's line is short

-- at most so many bytes, and no feed
abbrev pub IsBrief : ℕ → List ℕ → Type 0
IsBrief most xs = (length xs ≤ most) × HasNoFeed xs

brief_append : (j k : ℕ) (xs ys : List ℕ) → IsBrief j xs → IsBrief k ys → IsBrief (j + k) (xs ++ ys)
brief_append j k xs ys (few, none) (also, none_too) = (omega (arith, few, also, length-append xs ys), All-append NoFeed xs ys none none_too)

letter_brief : (p : Option Kind) → IsBrief 1 (promotion_text p)
letter_brief None = (omega arith, All-nil NoFeed)
letter_brief (Some King) = (omega arith, All-nil NoFeed)
letter_brief (Some Queen) = (omega arith, no_feed_in (codes "q") refl)
letter_brief (Some Rook) = (omega arith, no_feed_in (codes "r") refl)
letter_brief (Some Bishop) = (omega arith, no_feed_in (codes "b") refl)
letter_brief (Some Knight) = (omega arith, no_feed_in (codes "n") refl)
letter_brief (Some Pawn) = (omega arith, All-nil NoFeed)

move_brief : (m : Ply) → IsBrief 6 (32 ∷ move_text m)
move_brief m =
    let (few, p) = letter_brief m.promotion in
    (omega (arith, few), grind (arith, elements, p))

decimal_brief : (n : ℕ) → n ≤ 63 → IsBrief 2 (decimal n)
decimal_brief n few = (length-decimal-le 2 n (omega arith) (omega (arith, few)) (omega (arith, few)), apart_decimal 10 n (omega arith) few)

goal_brief : (goal : Goal) → IsBrief 5 (goal_text goal)
goal_brief goal.Mate = (omega arith, no_feed_in (codes "mate ") refl)
goal_brief goal.MateOrStale = (omega arith, no_feed_in (codes "goal ") refl)

pub answer_brief : (goal : Goal) (answer : Answer) → IsInRange answer → IsBrief 8192 (first_line goal answer)
answer_brief goal (Mate n first) range =
    let so = brief_append 5 8 (goal_text goal) (decimal n ++ 32 ∷ move_text first) (goal_brief goal) (brief_append 2 6 (decimal n) (32 ∷ move_text first) (decimal_brief n range.1) (move_brief first)) in
    (omega (arith, so.0), so.1)
answer_brief goal (NoneWithin limit) range =
    let so = brief_append 12 2 (codes "none within ") (decimal limit) (omega arith, no_feed_in (codes "none within ") refl) (decimal_brief limit range.1) in
    (omega (arith, so.0), so.1)

-- ---- where a line ends

-- a line that is longer than what comes up to the next feed
longer_line : (x a line rest : List ℕ) → HasNoFeed line → x ++ 10 ∷ a ≡ line ++ rest → length line ≤ length x
longer_line x a [] rest none e = omega arith
longer_line [] a (c ∷ line) rest none e = let feed : c ≡ 10 = cc in absurd (All-head NoFeed c line none feed)
longer_line (d ∷ x) a (c ∷ line) rest none e =
    let others : x ++ 10 ∷ a ≡ line ++ rest = cc in
    let later = longer_line x a line rest (All-tail NoFeed c line none) others in
    omega (arith, later)

fed_cons : (x : List ℕ) (xs : List (List ℕ)) → fed (x ∷ xs) ≡ x ++ 10 ∷ fed xs
fed_cons x xs = append_assoc x (10 ∷ []) (fed xs)

-- behind the lines ys comes this rest, which holds the other lines
pub left_over : (xs ys : List (List ℕ)) (rest : List ℕ) → All HasNoFeed xs → All HasNoFeed ys → fed xs ≡ fed ys ++ rest → (more : List (List ℕ)) × (xs ≡ ys ++ more) × (fed more ≡ rest)
left_over xs [] rest p q e = (xs, refl, e)
left_over [] ([] ∷ ys) rest p q e = cc
left_over [] ((c ∷ y) ∷ ys) rest p q e = cc
left_over (x ∷ xs) (y ∷ ys) rest p q e =
    let whole : x ++ 10 ∷ fed xs ≡ y ++ 10 ∷ (fed ys ++ rest) = sym (fed_cons x xs) ∙ (e ∙ (ap (λ (l : List ℕ). l ++ rest) (fed_cons y ys) ∙ append_assoc y (10 ∷ fed ys) rest)) in
    let one = one_cut 10 x y (fed xs) (fed ys ++ rest) (All-head HasNoFeed x xs p) (All-head HasNoFeed y ys q) whole in
    let later = left_over xs ys rest (All-tail HasNoFeed x xs p) (All-tail HasNoFeed y ys q) one.1 in
    (later.0, ap (λ (l : List ℕ). l ∷ xs) one.0 ∙ ap (λ (l : List (List ℕ)). y ∷ l) later.1, later.2)

-- the next of them
pub next_of : (more : List (List ℕ)) (line rest : List ℕ) → All HasNoFeed more → HasNoFeed line → fed more ≡ line ++ 10 ∷ rest → (others : List (List ℕ)) × (more ≡ line ∷ others) × (fed others ≡ rest)
next_of more line rest p none e =
    let whole : fed (line ∷ []) ++ rest ≡ line ++ 10 ∷ rest = simp append_assoc in
    left_over more (line ∷ []) rest p (All-cons HasNoFeed line [] none (All-nil HasNoFeed)) (e ∙ sym whole)

-- none of them
pub none_of : (more : List (List ℕ)) (rest : List ℕ) → HasNoFeed rest → fed more ≡ rest → (more ≡ []) × (rest ≡ [])
none_of [] rest none e = (refl, sym e)
none_of (x ∷ xs) rest none e =
    absurd (All-contains NoFeed rest 10 none (subst (λ (l : List ℕ). Contains l 10) e (Contains-append_left (x ++ 10 ∷ []) (fed xs) 10 (Contains-push x 10))) refl)

-- a long one of them
pub long_of : (more : List (List ℕ)) (line rest : List ℕ) → HasNoFeed line → 0 < length line → fed more ≡ line ++ rest → (x : List ℕ) × (others : List (List ℕ)) × (more ≡ x ∷ others) × (length line ≤ length x)
long_of [] [] rest none some e = absurd (omega arith)
long_of [] (c ∷ line) rest none some e = cc
long_of (x ∷ xs) line rest none some e = (x, xs, refl, longer_line x (fed xs) line rest none (sym (fed_cons x xs) ∙ e))
