-- The list of a unit's moves as its safe cells are read from the lowest on.
use Rattle.moves.proofs.Common.{◌≡◌, ◌≢◌, ℕ, ◌+◌, ◌-◌, ◌*◌, ◌<◌, ◌≤◌, zero, suc, refl, ap, subst, arith, ◌↔◌, List, Pawn, Man, squares_of, PlainBoard, Place, Ply, IsOnBoard, square_number, ListsBelow, cell_of, place_in, IsCell, Has, HasSafe, place_in-cell_of, Has-zero, same_number, number_within, ListsBelow-jump, ListsBelow-all_to, IsNumbered-lawful, HasParts-lawful, share, share-more, share-most, share-step, squares_36}
use Rattle.moves.proofs.Walking.{IsWalked, Jumps, walked_start, walked_end, next_holds, walked_more}

-- the moves to the squares numbered below n are listed, so many more than before
abbrev pub IsListed : PlainBoard → Man → Place → List Ply → ℕ → ℕ → ℕ → Type 0
IsListed b u from moves before now n = ListsBelow b ((square_number b.game from * 36 + n) * 5) moves × (now ≤ before + share b.game u from n)

-- the safe cells of the set are left
abbrev pub IsScanned : PlainBoard → Man → Place → ℕ → ℕ → List Ply → ℕ → ℕ → Type 0
IsScanned b u from whole set moves before now = IsWalked b.game (Has whole) (Has set) (IsListed b u from moves before now)

module _ (b : PlainBoard) (u : Man) (from : Place) (on : IsOnBoard b.game from) (whole : ℕ) (safe : HasSafe b u from whole) where
  pub safe_cell : (i : ℕ) → Has whole i → IsCell b.game i
  safe_cell i h = (safe.cells i h).0

  -- where no safe cell is passed, no move of the unit is lawful
  pub skip : (moves : List Ply) → Jumps b.game (Has whole) (λ n. ListsBelow b ((square_number b.game from * 36 + n) * 5) moves)
  skip moves n k le within none lists =
      ListsBelow-jump b _ _ moves (omega (arith, le)) lists (λ m above below l.
      let parts = HasParts-lawful b m l in
      let small = squares_36 b.game in
      let f : square_number b.game m.from ≡ square_number b.game from = omega (arith, parts.to, parts.promotion, above, below, le, within, small) in
      let numbered = IsNumbered-lawful b m l in
      let at : square_number b.game (place_in (cell_of m.to)) ≡ square_number b.game m.to = ap (square_number b.game) (place_in-cell_of b.game m.to numbered.to) in
      none (cell_of m.to) (safe.all m (same_number b.game m.from from numbered.from on f) l) (omega (arith, parts.promotion, above, f, at)) (omega (arith, parts.promotion, below, f, at)))

  -- behind the last safe cell there is none
  pub skip_rest : (moves : List Ply) → ListsBelow b ((square_number b.game from * 36 + squares_of b.game) * 5) moves → ListsBelow b ((square_number b.game from + 1) * 36 * 5) moves
  skip_rest moves lists = ListsBelow-all_to b (square_number b.game from) (squares_of b.game) moves (omega arith) (squares_36 b.game) lists

  share-jump : (n k : ℕ) → share b.game u from n ≤ share b.game u from (n + k)
  share-jump n zero = let same : n ≡ n + 0 = omega arith in subst (λ x. share b.game u from n ≤ share b.game u from x) same (omega arith)
  share-jump n (suc k) =
      let step = share-more b.game u from (n + k) in
      let same : (n + k) + 1 ≡ n + suc k = omega arith in
      subst (λ x. share b.game u from n ≤ share b.game u from x) same (omega (arith, step, share-jump n k))

  jump : (moves : List Ply) (before now : ℕ) → Jumps b.game (Has whole) (IsListed b u from moves before now)
  jump moves before now n k le within none (lists, few) =
      let same : n + (k - n) ≡ k = omega (arith, le) in
      let up = subst (λ x. share b.game u from n ≤ share b.game u from x) same (share-jump n (k - n)) in
      (skip moves n k le within none lists, omega (arith, few, up))

  pub scan_start : (moves : List Ply) (n : ℕ) → ListsBelow b (square_number b.game from * 36 * 5) moves → IsScanned b u from whole whole moves n n
  scan_start moves n lists =
      let same : square_number b.game from * 36 * 5 ≡ (square_number b.game from * 36 + 0) * 5 = omega arith in
      walked_start b.game (Has whole) (Has whole) (IsListed b u from moves n n) (λ i. (λ h. h, λ h. h)) (subst (λ k. ListsBelow b k moves) same lists, omega arith)

  module _ (set : ℕ) (moves : List Ply) (before now : ℕ) (s : IsScanned b u from whole set moves before now) where
    pub scan_end : set ≡ 0 → ListsBelow b ((square_number b.game from + 1) * 36 * 5) moves × (now ≤ before + 36)
    scan_end empty =
        let w = walked_end b.game (Has whole) (Has set) (IsListed b u from moves before now) safe_cell (jump moves before now) s (λ i h. Has-zero i (subst (λ x. Has x i) empty h)) in
        (skip_rest moves w.0, omega (arith, w.1, share-most b.game u from (squares_of b.game) (omega arith)))

    module _ (to : ℕ) (there : Has set to) (least : (i : ℕ) → i < to → Has set i → ⊥) where
      pub scan_lists : IsListed b u from moves before now (square_number b.game (place_in to))
      scan_lists = next_holds b.game (Has whole) (Has set) (IsListed b u from moves before now) safe_cell (jump moves before now) s to there least

      pub scan_room : now ≤ before + 36
      scan_room = omega (arith, scan_lists.1, share-most b.game u from (square_number b.game (place_in to)) (omega (arith, number_within b.game (place_in to) (safe_cell to ((s.left to).0 there).0).on_board)))

      pub scan_more : (rest : ℕ) (more : List Ply) (later : ℕ) → ((i : ℕ) → Has rest i ↔ (Has set i × (i ≢ to))) → later ≤ now + 5 → ((u.kind ≡ Pawn → ⊥) → later ≤ now + 1)
          → ListsBelow b ((square_number b.game from * 36 + square_number b.game (place_in to) + 1) * 5) more → IsScanned b u from whole rest more before later
      scan_more rest more later others five one lists =
          let number = square_number b.game (place_in to) in
          let target = safe.cells to ((s.left to).0 there).0 in
          let step = share-step b u from (place_in to) _ number now later target.1 target.0.on_board refl five one in
          let same : (square_number b.game from * 36 + number + 1) * 5 ≡ (square_number b.game from * 36 + (number + 1)) * 5 = omega arith in
          walked_more b.game (Has whole) (Has set) (IsListed b u from moves before now) safe_cell (jump moves before now) s to there least
          (Has rest) (IsListed b u from more before later) others (subst (λ x. ListsBelow b x more) same lists, omega (arith, scan_lists.1, step))
