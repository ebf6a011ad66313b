-- Lists of lawful moves, as they grow.
use Rattle.std.proofs.Common.{◌≡◌, ℕ, ◌+◌, ◌*◌, ◌<◌, ◌≤◌, ◌⊎◌, inl, inr, zero, suc, refl, sym, ap, subst, ◌∙◌, arith, List, [], ◌∷◌, ◌++◌, get_or, Option, Some, None, Contains, lit<, true, false}
use Rattle.rules.proofs.Common.{IfSome, IsSome, All-nil, All-push, All-weaker, All-get_or, All-contains, Contains-append_left, Contains-push, Game, LosAlamos, Gardner, Kind, King, Queen, Rook, Bishop, Knight, Pawn, Side, White, Black, squares_of, is_same_side, PlainBoard, unit_on, is_of_side, Reaches, false≢true, Place, Ply, IsOnBoard, square_number, unit_at, PROMOTIONS, Man, same_Some, Promotes, IsPromotion, IsLawful, promotion_number, ListsLawful, ply_number, ListsBelow}
use Rattle.std.proofs.lemmas.List.Quantifiers.{all_pairs_push}
use Rattle.rules.proofs.Listed.{same_number, number_within}
use Rattle.rules.proofs.Keeps.{to_on_board}

-- ---- a move's number

-- its squares are on the board, and its promotion is one of five
pub record IsNumbered (b : PlainBoard) (m : Ply) : Type 0 where
  pub from : IsOnBoard b.game m.from
  pub to : IsOnBoard b.game m.to
  pub promotion : promotion_number m.promotion < 5

promotion_below : (g : Game) (o : Option Kind) → IfSome o (IsPromotion g) → promotion_number o < 5
promotion_below g None h = lit< tt
promotion_below g (Some Queen) h = lit< tt
promotion_below g (Some Rook) h = lit< tt
promotion_below g (Some Bishop) h = lit< tt
promotion_below g (Some Knight) h = lit< tt
promotion_below g (Some King) h = absurd h
promotion_below g (Some Pawn) h = absurd h

pub IsNumbered-lawful : (b : PlainBoard) (m : Ply) → IsLawful b m → IsNumbered b m
IsNumbered-lawful b m (q, move) = record {
  from = move.pseudo.on_board;
  to = to_on_board b m move.unit move.pseudo;
  promotion = promotion_below b.game m.promotion move.pseudo.allowed;
}

pub within_board : (g : Game) (s : Place) → IsOnBoard g s → square_number g s < 36
within_board LosAlamos s a = omega (arith, a.file, a.rank)
within_board Gardner s a = omega (arith, a.file, a.rank)

-- the parts of a number
pub split_number : (a c p a' c' p' : ℕ) → c < 36 → c' < 36 → p < 5 → p' < 5 → (a * 36 + c) * 5 + p ≡ (a' * 36 + c') * 5 + p' → (a ≡ a') × (c ≡ c') × (p ≡ p')
split_number a c p a' c' p' h h' k k' e = (omega arith, omega arith, omega arith)

kind_numbered : ℕ → Option Kind
kind_numbered zero = None
kind_numbered (suc zero) = Some Queen
kind_numbered (suc (suc zero)) = Some Rook
kind_numbered (suc (suc (suc zero))) = Some Bishop
kind_numbered (suc (suc (suc (suc zero)))) = Some Knight
kind_numbered (suc (suc (suc (suc (suc zero))))) = Some King
kind_numbered (suc (suc (suc (suc (suc (suc n)))))) = Some Pawn

kind_numbered-number : (o : Option Kind) → kind_numbered (promotion_number o) ≡ o
unfolding kind_numbered
kind_numbered-number None = refl
kind_numbered-number (Some Queen) = refl
kind_numbered-number (Some Rook) = refl
kind_numbered-number (Some Bishop) = refl
kind_numbered-number (Some Knight) = refl
kind_numbered-number (Some King) = refl
kind_numbered-number (Some Pawn) = refl

same_promotion : (o o' : Option Kind) → promotion_number o ≡ promotion_number o' → o ≡ o'
same_promotion o o' e = sym (kind_numbered-number o) ∙ ap kind_numbered e ∙ kind_numbered-number o'

-- moves of one number are one move
pub same_ply : (b : PlainBoard) (m n : Ply) → IsNumbered b m → IsNumbered b n → ply_number b.game m ≡ ply_number b.game n → m ≡ n
same_ply b m n h k e =
    let s = split_number _ _ _ _ _ _ (within_board b.game m.to h.to) (within_board b.game n.to k.to) h.promotion k.promotion e in
    let from = same_number b.game m.from n.from h.from k.from s.0 in
    let to = same_number b.game m.to n.to h.to k.to s.1 in
    let promotion = same_promotion m.promotion n.promotion s.2 in
    λ i. record { from = from i; to = to i; promotion = promotion i }

-- ---- the list

pub ListsBelow-nil : (b : PlainBoard) → ListsBelow b 0 []
ListsBelow-nil b = record {
  lawful = All-nil (IsLawful b);
  below = All-nil (λ m. ply_number b.game m < 0);
  complete = λ m h l. absurd (omega arith);
  ordered = λ i j d p q. absurd (omega arith);
}

-- no lawful move has a number from n on and below k
pub ListsBelow-jump : (b : PlainBoard) (n k : ℕ) (xs : List Ply) → n ≤ k → ListsBelow b n xs → ((m : Ply) → n ≤ ply_number b.game m → ply_number b.game m < k → IsLawful b m → ⊥) → ListsBelow b k xs
ListsBelow-jump b n k xs le c none = record {
  lawful = c.lawful;
  below = All-weaker (λ m. ply_number b.game m < n) (λ m. ply_number b.game m < k) (λ m h. omega arith) xs c.below;
  complete = λ m h l. elim (split (ply_number b.game m) n) [ inl less ↦ c.complete m less l | inr more ↦ absurd (none m more h l) ];
  ordered = c.ordered;
}
  where
    split : (i j : ℕ) → (i < j) ⊎ (j ≤ i)
    split i j = grind arith

pub ListsBelow-push : (b : PlainBoard) (n : ℕ) (xs : List Ply) (m : Ply) → ListsBelow b n xs → IsLawful b m → ply_number b.game m ≡ n → ListsBelow b (n + 1) (xs ++ m ∷ [])
ListsBelow-push b n xs m c l e = record {
  lawful = All-push (IsLawful b) xs m c.lawful l;
  below = All-push (λ x. ply_number b.game x < n + 1) xs m (All-weaker (λ x. ply_number b.game x < n) (λ x. ply_number b.game x < n + 1) (λ x h. omega arith) xs c.below) (omega arith);
  complete = λ x h lx. elim (split (ply_number b.game x) n h) [
    | inl less ↦ Contains-append_left xs (m ∷ []) x (c.complete x less lx)
    | inr same ↦ subst (Contains (xs ++ m ∷ [])) (same_ply b m x (IsNumbered-lawful b m l) (IsNumbered-lawful b x lx) (e ∙ sym same)) (Contains-push xs m)
  ];
  ordered = all_pairs_push (λ x y. ply_number b.game x < ply_number b.game y) xs m c.ordered
      (λ k d h. let lt = All-get_or (λ x. ply_number b.game x < n) xs k d h c.below in omega (arith, lt, e));
}
  where
    split : (i j : ℕ) → i < j + 1 → (i < j) ⊎ (i ≡ j)
    split i j h = grind arith

-- ---- the loop over the promotions

pub numbered_promotion : (i : ℕ) → i < 5 → promotion_number (get_or PROMOTIONS i None) ≡ i
numbered_promotion zero h = refl
numbered_promotion (suc zero) h = refl
numbered_promotion (suc (suc zero)) h = refl
numbered_promotion (suc (suc (suc zero))) h = refl
numbered_promotion (suc (suc (suc (suc zero)))) h = refl
numbered_promotion (suc (suc (suc (suc (suc n))))) h = absurd (omega arith)

-- a move that isn't lawful is passed over
pub ListsBelow-skip : (b : PlainBoard) (n : ℕ) (xs : List Ply) (m : Ply) → ListsBelow b n xs → IsNumbered b m → ply_number b.game m ≡ n → (IsLawful b m → ⊥) → ListsBelow b (n + 1) xs
ListsBelow-skip b n xs m c numbered e not_lawful =
    ListsBelow-jump b n (n + 1) xs (omega arith) c
    (λ x h k l. not_lawful (subst (IsLawful b) (same_ply b x m (IsNumbered-lawful b x l) numbered (omega arith)) l))

is_some_numbered : (o : Option Kind) → 0 < promotion_number o → IsSome o
is_some_numbered None h = absurd (omega arith)
is_some_numbered (Some k) h = refl

-- only a pawn is promoted
pub promoted_pawn : (b : PlainBoard) (m : Ply) (u : Man) → unit_at b m.from ≡ Some u → 0 < promotion_number m.promotion → IsLawful b m → u.kind ≡ Pawn
promoted_pawn b m u stands h (q, move) =
    let same : move.unit ≡ u = same_Some move.unit u (sym move.pseudo.stands ∙ stands) in
    ap (λ (x : Man). x.kind) (sym same) ∙ (move.pseudo.named.0 (is_some_numbered m.promotion h)).0

pub first_promotion : (b : PlainBoard) (m : Ply) (u : Man) → unit_at b m.from ≡ Some u → (u.kind ≡ Pawn → ⊥) → IsLawful b m → (i : ℕ) → promotion_number m.promotion ≡ i → i < 1
first_promotion b m u stands piece l zero e = omega arith
first_promotion b m u stands piece l (suc i) e = absurd (piece (promoted_pawn b m u stands (omega arith) l))

-- a lawful move that names a promotion is a pawn's to its last rank
pub promotes_to : (b : PlainBoard) (m : Ply) (u : Man) → unit_at b m.from ≡ Some u → 0 < promotion_number m.promotion → IsLawful b m → Promotes b.game u m.to
promotes_to b m u stands h (q, move) =
    let same : move.unit ≡ u = same_Some move.unit u (sym move.pseudo.stands ∙ stands) in
    subst (λ x. Promotes b.game x m.to) same (move.pseudo.named.0 (is_some_numbered m.promotion h))

-- ---- squares from which, or to which, no move goes

-- the move's numbers, where it is lawful
pub record HasParts (b : PlainBoard) (m : Ply) : Type 0 where
  pub to : square_number b.game m.to < 36
  pub on_to : square_number b.game m.to < squares_of b.game
  pub on_from : square_number b.game m.from < squares_of b.game
  pub promotion : promotion_number m.promotion < 5

pub HasParts-lawful : (b : PlainBoard) (m : Ply) → IsLawful b m → HasParts b m
HasParts-lawful b m l = let h = IsNumbered-lawful b m l in record {
  to = within_board b.game m.to h.to;
  on_to = number_within b.game m.to h.to;
  on_from = number_within b.game m.from h.from;
  promotion = h.promotion;
}

-- a lawful move from the unit's square reaches its to-square
pub reaches_from : (b : PlainBoard) (u : Man) (from : Place) → unit_at b from ≡ Some u → (m : Ply) → IsLawful b m → m.from ≡ from → Reaches b u from m.to (unit_at b m.to)
reaches_from b u from stands m (q, move) e =
    let same : move.unit ≡ u = same_Some move.unit u (sym move.pseudo.stands ∙ ap (unit_at b) e ∙ stands) in
    subst (λ x. Reaches b u x m.to (unit_at b m.to)) e (subst (λ x. Reaches b x m.from m.to (unit_at b m.to)) same move.pseudo.reaches)

pub ListsBelow-unreached : (b : PlainBoard) (n : ℕ) (xs : List Ply) (u : Man) (from to : Place) → IsOnBoard b.game from → IsOnBoard b.game to → square_number b.game to ≡ n → unit_at b from ≡ Some u → (Reaches b u from to (unit_at b to) → ⊥)
    → ListsBelow b ((square_number b.game from * 36 + n) * 5) xs → ListsBelow b ((square_number b.game from * 36 + (n + 1)) * 5) xs
ListsBelow-unreached b n xs u from to on_from on_to at stands unreached lists =
    ListsBelow-jump b _ _ xs (omega arith) lists (λ m low high l.
    let parts = HasParts-lawful b m l in
    let small : n < 36 = omega (arith, within_board b.game to on_to) in
    let f : square_number b.game m.from ≡ square_number b.game from = omega (arith, parts.to, parts.promotion) in
    let t : square_number b.game m.to ≡ n = omega (arith, parts.to, parts.promotion) in
    let numbered = IsNumbered-lawful b m l in
    let same_from : m.from ≡ from = same_number b.game m.from from numbered.from on_from f in
    let same_to : m.to ≡ to = same_number b.game m.to to numbered.to on_to (t ∙ sym at) in
    unreached (subst (λ x. Reaches b u from x (unit_at b x)) same_to (reaches_from b u from stands m l same_from)))

-- once the promotions are tried that a move between two squares may name, all moves between them are listed
pub ListsBelow-promoted : (b : PlainBoard) (n i : ℕ) (xs : List Ply) (u : Man) (from to : Place) → IsOnBoard b.game from → IsOnBoard b.game to → square_number b.game to ≡ n → unit_at b from ≡ Some u → i ≤ 5 → (Promotes b.game u to → i ≡ 5) → 1 ≤ i
    → ListsBelow b ((square_number b.game from * 36 + n) * 5 + i) xs → ListsBelow b ((square_number b.game from * 36 + n + 1) * 5) xs
ListsBelow-promoted b n i xs u from to on_from on_to at stands few five first lists =
    ListsBelow-jump b _ _ xs (omega arith) lists (λ m low high l.
    let parts = HasParts-lawful b m l in
    let small : n < 36 = omega (arith, within_board b.game to on_to) in
    let f : square_number b.game m.from ≡ square_number b.game from = omega (arith, parts.to, parts.promotion) in
    let t : square_number b.game m.to ≡ n = omega (arith, parts.to, parts.promotion) in
    let named : i ≤ promotion_number m.promotion = omega arith in
    let numbered = IsNumbered-lawful b m l in
    let same_from : m.from ≡ from = same_number b.game m.from from numbered.from on_from f in
    let same_to : m.to ≡ to = same_number b.game m.to to numbered.to on_to (t ∙ sym at) in
    let all : i ≡ 5 = five (subst (Promotes b.game u) same_to (promotes_to b m u (ap (unit_at b) same_from ∙ stands) (omega arith) l)) in
    omega (arith, parts.promotion))

pub ListsBelow-all_to : (b : PlainBoard) (f n : ℕ) (xs : List Ply) → squares_of b.game ≤ n → n ≤ 36 → ListsBelow b ((f * 36 + n) * 5) xs → ListsBelow b ((f + 1) * 36 * 5) xs
ListsBelow-all_to b f n xs all le lists =
    ListsBelow-jump b _ _ xs (omega arith) lists (λ m low high l.
    let parts = HasParts-lawful b m l in
    omega (arith, parts.to, parts.on_to, parts.promotion))

same_side : (side : Side) → is_same_side side side ≡ true
same_side White = refl
same_side Black = refl

pub own_from : (b : PlainBoard) (m : Ply) → IsLawful b m → is_of_side b.mover (unit_at b m.from) ≡ true
own_from b m (q, move) = ap (is_of_side b.mover) move.pseudo.stands ∙ ap (is_same_side b.mover) move.pseudo.owner ∙ same_side b.mover

pub ListsBelow-not_own : (b : PlainBoard) (n : ℕ) (xs : List Ply) → is_of_side b.mover (unit_on b n) ≡ false → ListsBelow b (n * 36 * 5) xs → ListsBelow b ((n + 1) * 36 * 5) xs
ListsBelow-not_own b n xs other lists =
    ListsBelow-jump b _ _ xs (omega arith) lists (λ m low high l.
    let parts = HasParts-lawful b m l in
    let f : square_number b.game m.from ≡ n = omega (arith, parts.to, parts.promotion) in
    false≢true (sym other ∙ ap (λ x. is_of_side b.mover (unit_on b x)) (sym f) ∙ own_from b m l))

-- ---- the whole list

pub split3 : (i j : ℕ) → (i < j) ⊎ ((i ≡ j) ⊎ (j < i))
split3 i j = grind arith

before_from : (a c p a' c' p' : ℕ) → c < 36 → c' < 36 → p < 5 → p' < 5 → (a * 36 + c) * 5 + p < (a' * 36 + c') * 5 + p' → (a < a') ⊎ ((a ≡ a') × (c < c')) ⊎ ((a ≡ a') × (c ≡ c') × (p < p'))
before_from a c p a' c' p' h h' k k' lt = elim (split3 a a') [
  | inl less ↦ inl less
  | inr (inl same) ↦ elim (split3 c c') [
    | inl less' ↦ inr (inl (same, less'))
    | inr (inl same') ↦ inr (inr (same, same', omega arith))
    | inr (inr more') ↦ absurd (omega arith)
  ]
  | inr (inr more) ↦ absurd (omega arith)
]

pub ListsLawful-from : (b : PlainBoard) (n : ℕ) (xs : List Ply) → squares_of b.game ≤ n → ListsBelow b (n * 36 * 5) xs → ListsLawful b xs
ListsLawful-from b n xs all lists = record {
  ordered = λ i j d p q.
      let a = get_or xs i d in
      let c = get_or xs j d in
      let ha = HasParts-lawful b a (All-get_or (IsLawful b) xs i d (omega arith) lists.lawful) in
      let hc = HasParts-lawful b c (All-get_or (IsLawful b) xs j d q lists.lawful) in
      before_from _ _ _ _ _ _ ha.to hc.to ha.promotion hc.promotion (lists.ordered i j d p q);
  exact = λ m. (
    λ h. All-contains (IsLawful b) xs m lists.lawful h,
    λ l. let h = HasParts-lawful b m l in lists.complete m (omega (arith, h.to, h.on_from, h.promotion)) l,
  );
}

-- where the empty list has all lawful moves there is none
pub none_lawful : (b : PlainBoard) (n : ℕ) → squares_of b.game ≤ n → ListsBelow b (n * 36 * 5) [] → ((m : Ply) × IsLawful b m) → ⊥
none_lawful b n all lists (m, l) = All-contains (λ _. ⊥) [] m (All-nil (λ _. ⊥)) (((ListsLawful-from b n [] all lists).exact m).1 l)
