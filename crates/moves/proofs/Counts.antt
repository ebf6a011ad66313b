-- How many lawful moves there are, by the cells to which they lead.
use Rattle.moves.proofs.Common.{◌≡◌, ℕ, ◌+◌, ◌*◌, ◌/◌, ◌%◌, ◌^◌, ◌<◌, ◌≤◌, zero, suc, refl, sym, ap, subst, ◌∙◌, ◌↔◌, inl, inr, arith, List, [], ◌∷◌, ◌++◌, length, get_or, length-append, Option, Some, None, IsSome, IfSome, count_ones, bit_at, ones_le_self, bit_at-lt, bit_at_lowest, bit_at-suc, cases_eq, All-get_or, Game, LosAlamos, Gardner, Kind, Queen, Rook, Bishop, Knight, Man, PlainBoard, Place, Ply, IsOnBoard, square_number, unit_at, Promotes, IsPromotion, IsLawful, promotion_number, ply_number, ListsBelow, place_in, Has, IsNamed, HasSafe, IsEach, promotions_of, cell_small, IsNumbered, ListsBelow-push, ListsBelow-skip, ListsBelow-promoted}
use Rattle.std.specs.Int.Count.{ones_step}
use Rattle.moves.proofs.AtOnce.{pseudo_by}
use Rattle.moves.proofs.Walking.{IsWalked, Jumps, walked_start, walked_end, next_holds, walked_more}
use Rattle.moves.proofs.Scanning.{safe_cell, skip, skip_rest}

-- ---- a list has no more moves than numbers

-- the numbers of the moves grow
number_least : (b : PlainBoard) (n : ℕ) (moves : List Ply) (d : Ply) → ListsBelow b n moves → (i : ℕ) → i < length moves → i ≤ ply_number b.game (get_or moves i d)
number_least b n moves d lists zero h = omega arith
number_least b n moves d lists (suc i) h =
    let before = number_least b n moves d lists i (omega arith) in
    let less = lists.ordered i (suc i) d (omega arith) h in
    omega (arith, before, less)

pub few_below : (b : PlainBoard) (n : ℕ) (moves : List Ply) → ListsBelow b n moves → length moves ≤ n
few_below b n [] lists = omega arith
few_below b n (m ∷ moves) lists =
    let last : length moves < length (m ∷ moves) = omega arith in
    let least = number_least b n (m ∷ moves) m lists (length moves) last in
    let below = All-get_or (λ x. ply_number b.game x < n) (m ∷ moves) (length moves) m last lists.below in
    omega (arith, least, below)

-- ---- the members of a set, one by one

-- how many members are below k
bits_below : ℕ → ℕ → ℕ
bits_below n zero = 0
bits_below n (suc k) = bits_below n k + bit_at n k

bits_first : (n k : ℕ) → bits_below n (suc k) ≡ n % 2 + bits_below (n / 2) k
unfolding bits_below
bits_first n zero = let e = bit_at_lowest n in omega (arith, e)
bits_first n (suc k) = let e = bits_first n k in let f = bit_at-suc n k in omega (arith, e, f)

bits_all : (k n : ℕ) → n < 2 ^ k → bits_below n k ≡ count_ones n
unfolding bits_below
bits_all zero n h =
    let none : n ≡ 0 = omega arith in
    let least : count_ones 0 ≤ 0 = ones_le_self 0 in
    sym (ap count_ones none ∙ omega (arith, least))
bits_all (suc k) n h =
    let half : n / 2 < 2 ^ k = omega (arith, h) in
    let rest = bits_all k (n / 2) half in
    let first = bits_first n k in
    let step : count_ones n ≡ n % 2 + count_ones (n / 2) = ones_step n in
    omega (arith, rest, first, step)

few_bits : (n k : ℕ) → bits_below n k ≤ k
unfolding bits_below
few_bits n zero = omega arith
few_bits n (suc k) = omega (arith, few_bits n k, bit_at-lt n k)

pub few_ones : (n : ℕ) → n < 2 ^ 64 → count_ones n ≤ 64
few_ones n fits = omega (arith, few_bits n 64, bits_all 64 n fits)

-- ---- the moves between two squares

module _ (b : PlainBoard) (u : Man) (from to : Place) (on : IsOnBoard b.game from) (on_to : IsOnBoard b.game to) (stands : unit_at b from ≡ Some u) where
  -- the number of the first of them
  abbrev first : ℕ
  first = (square_number b.game from * 36 + square_number b.game to) * 5

  abbrev move_to : Option Kind → Ply
  move_to o = record { from = from; to = to; promotion = o }

  module _ (xs : List Ply) where
    -- of those whose promotion is numbered below i, n are lawful, and come into the list
    abbrev Taken : ℕ → ℕ → Type 0
    Taken i n = (more : List Ply) × ListsBelow b (first + i) more × (length more ≡ length xs + n)

    take : (i n : ℕ) (o : Option Kind) → promotion_number o ≡ i → IsLawful b (move_to o) → Taken i n → Taken (i + 1) (n + 1)
    take i n o at lawful (more, lists, count) =
        let here : ply_number b.game (move_to o) ≡ first + i = ap (λ x. first + x) at in
        let same : first + i + 1 ≡ first + (i + 1) = omega arith in (
          more ++ move_to o ∷ [],
          subst (λ k. ListsBelow b k (more ++ move_to o ∷ [])) same (ListsBelow-push b (first + i) more (move_to o) lists lawful here),
          omega (arith, length-append more (move_to o ∷ []), count),
        )

    leave : (i n : ℕ) (o : Option Kind) → promotion_number o ≡ i → i < 5 → (IsLawful b (move_to o) → ⊥) → Taken i n → Taken (i + 1) n
    leave i n o at low unlawful (more, lists, count) =
        let here : ply_number b.game (move_to o) ≡ first + i = ap (λ x. first + x) at in
        let same : first + i + 1 ≡ first + (i + 1) = omega arith in
        let numbered : IsNumbered b (move_to o) = record { from = on; to = on_to; promotion = omega (arith, at, low) } in
        (more, subst (λ k. ListsBelow b k more) same (ListsBelow-skip b (first + i) more (move_to o) lists numbered here unlawful), count)

    start : ListsBelow b first xs → Taken 0 0
    start lists = let same : first ≡ first + 0 = omega arith in (xs, subst (λ n. ListsBelow b n xs) same lists, omega arith)

    -- of all of them n are lawful
    abbrev TakenAll : ℕ → Type 0
    TakenAll n = (more : List Ply) × ListsBelow b ((square_number b.game from * 36 + square_number b.game to + 1) * 5) more × (length more ≡ length xs + n)

    whole : (i n : ℕ) → i ≤ 5 → (Promotes b.game u to → i ≡ 5) → 1 ≤ i → Taken i n → TakenAll n
    whole i n few five some (more, lists, count) = (more, ListsBelow-promoted b (square_number b.game to) i more u from to on on_to refl stands few five some lists, count)

    module _ (lawful : (m : Ply) → m.from ≡ from → m.to ≡ to → IsNamed b.game u m → IsLawful b m) where
      lawful_as : (o : Option Kind) → (IsSome o ↔ Promotes b.game u to) → IfSome o (IsPromotion b.game) → IsLawful b (move_to o)
      lawful_as o named allowed = lawful (move_to o) refl refl (record { named = named; allowed = allowed })

      -- a move that names no promotion is the only one where none is due
      take_one : (Promotes b.game u to → ⊥) → ListsBelow b first xs → TakenAll 1
      take_one not lists = whole 1 1 (omega arith) (λ p. absurd (not p)) (omega arith) (take 0 0 None refl (lawful_as None ((λ e. cc), λ p. absurd (not p)) tt) (start lists))

      module _ (due : Promotes b.game u to) where
        not_none : IsLawful b (move_to None) → ⊥
        not_none l = cc ((pseudo_by b (move_to None) u stands l).named.1 due)

        promoted : (k : Kind) → IsPromotion b.game k → IsLawful b (move_to (Some k))
        promoted k may = lawful_as (Some k) ((λ _. due), (λ _. refl)) may

        -- the queen and the rook come first
        two : ListsBelow b first xs → Taken 3 2
        two lists = take 2 1 (Some Rook) refl (promoted Rook tt) (take 1 0 (Some Queen) refl (promoted Queen tt) (leave 0 0 None refl (omega arith) not_none (start lists)))

        take_all : (g : Game) → b.game ≡ g → ListsBelow b first xs → TakenAll (promotions_of g)
        take_all LosAlamos e lists =
            let no_bishop : IsLawful b (move_to (Some Bishop)) → ⊥ = λ l. subst (λ g. IsPromotion g Bishop) e (pseudo_by b (move_to (Some Bishop)) u stands l).allowed in
            whole 5 3 (omega arith) (λ _. refl) (omega arith) (take 4 2 (Some Knight) refl (promoted Knight tt) (leave 3 2 (Some Bishop) refl (omega arith) no_bishop (two lists)))
        take_all Gardner e lists =
            let bishop : IsPromotion b.game Bishop = subst (λ g. IsPromotion g Bishop) (sym e) tt in
            whole 5 4 (omega arith) (λ _. refl) (omega arith) (take 4 3 (Some Knight) refl (promoted Knight tt) (take 3 2 (Some Bishop) refl (promoted Bishop bishop) (two lists)))

      pub take_each : (each : ℕ) → IsEach b.game u to each → ListsBelow b first xs → TakenAll each
      take_each each (inl (due, e)) lists = subst TakenAll (sym e) (take_all due b.game refl lists)
      take_each each (inr (not, e)) lists = subst TakenAll (sym e) (take_one not lists)

-- ---- the moves of a unit

module _ (b : PlainBoard) (u : Man) (from : Place) (on : IsOnBoard b.game from) (stands : unit_at b from ≡ Some u) (set : ℕ) (safe : HasSafe b u from set) (each : ℕ) (moves : List Ply) where
  -- the moves to the members below k are listed, up to the square of number n
  abbrev Counted : ℕ → ℕ → Type 0
  Counted k n = (more : List Ply) × ListsBelow b ((square_number b.game from * 36 + n) * 5) more × (length more ≡ length moves + bits_below set k * each)

  -- and the members from k on are left
  abbrev IsCounted : ℕ → Type 0
  IsCounted k = IsWalked b.game (Has set) (λ i. Has set i × (k ≤ i)) (Counted k)

  jump : (k : ℕ) → Jumps b.game (Has set) (Counted k)
  jump k n m le within none (more, lists, count) = (more, skip b u from on set safe more n m le within none lists, count)

  module _ (eachly : (i : ℕ) → Has set i → IsEach b.game u (place_in i) each) where
    with_member : (k : ℕ) → Has set k → IsCounted k → IsCounted (suc k)
    unfolding bits_below
    with_member k h s =
        let n = square_number b.game (place_in k) in
        let least : (i : ℕ) → i < k → Has set i × (k ≤ i) → ⊥ = λ i low w. let high = w.1 in omega (arith, low, high) in
        let (before, lists, count) = next_holds b.game (Has set) (λ i. Has set i × (k ≤ i)) (Counted k) (safe_cell b u from on set safe) (jump k) s k (h, omega arith) least in
        let (more, listed, grown) = take_each b u from (place_in k) on (safe.cells k h).0.on_board stands before (λ m f t named. safe.lawful k m h f t named) each (eachly k h) lists in
        let same : (square_number b.game from * 36 + n + 1) * 5 ≡ (square_number b.game from * 36 + (n + 1)) * 5 = omega arith in
        let product : (bits_below set k + bit_at set k) * each ≡ bits_below set k * each + each = ap (λ x. (bits_below set k + x) * each) h ∙ distributed (bits_below set k) in
        walked_more b.game (Has set) (λ i. Has set i × (k ≤ i)) (Counted k) (safe_cell b u from on set safe) (jump k) s k (h, omega arith) least (λ i. Has set i × (suc k ≤ i)) (Counted (suc k))
        (λ i. (
          λ w. let above = w.1 in ((w.0, omega (arith, above)), λ e. omega (arith, above, e)),
          λ w. let above = w.0.1 in let other = w.1 in (w.0.0, omega (arith, above, other)),
        ))
        (more, subst (λ x. ListsBelow b x more) same listed, omega (arith, grown, count, product))
      where
        distributed : (a : ℕ) → (a + 1) * each ≡ a * each + each
        distributed a = grind arith

    without_member : (k : ℕ) → bit_at set k ≡ 0 → IsCounted k → IsCounted (suc k)
    unfolding bits_below
    without_member k out s =
        let (more, lists, count) = s.holds in
        record {
          upto = s.upto;
          within = s.within;
          left = λ i. (
            λ w. let above = w.1 in (s.left i).0 (w.0, omega (arith, above)),
            λ w. let l = (s.left i).1 w in (l.0, above i l.0 l.1),
          );
          holds = (more, lists, count ∙ ap (λ x. length moves + x * each) (let none = out in omega (arith, none)));
        }
      where
        above : (i : ℕ) → Has set i → k ≤ i → suc k ≤ i
        above i h le = elim (cases_eq i k) [
          | inl e ↦ let here : bit_at set k ≡ 1 = subst (λ x. bit_at set x ≡ 1) e h in absurd (omega (arith, here, out))
          | inr other ↦ omega (arith, le, other)
        ]

    counted : ListsBelow b (square_number b.game from * 36 * 5) moves → (k : ℕ) → IsCounted k
    unfolding bits_below
    counted lists zero =
        let same : square_number b.game from * 36 * 5 ≡ (square_number b.game from * 36 + 0) * 5 = omega arith in
        walked_start b.game (Has set) (λ i. Has set i × (0 ≤ i)) (Counted 0) (λ i. (λ w. w.0, λ h. (h, omega arith))) (moves, subst (λ x. ListsBelow b x moves) same lists, omega arith)
    counted lists (suc k) =
        let two = bit_at-lt set k in
        elim (cases_eq (bit_at set k) 1) [
          | inl here ↦ with_member k here (counted lists k)
          | inr out ↦ without_member k (omega (arith, two, out)) (counted lists k)
        ]

    pub counted_all : set < 2 ^ 64 → ListsBelow b (square_number b.game from * 36 * 5) moves → (more : List Ply) × ListsBelow b ((square_number b.game from + 1) * 36 * 5) more × (length more ≡ length moves + count_ones set * each)
    counted_all fits start =
        let (more, lists, count) = walked_end b.game (Has set) (λ i. Has set i × (64 ≤ i)) (Counted 64) (safe_cell b u from on set safe) (jump 64) (counted start 64) (λ i w. let small = cell_small b.game i (safe.cells i w.0).0 in let high = w.1 in omega (arith, small, high)) in
        (more, skip_rest b u from on set safe more lists, count ∙ ap (λ x. length moves + x * each) (bits_all 64 set fits))
