-- The mover's units, one after another: their moves as a list, and how many they are.
use Rattle.moves.proofs.Common.{◌≡◌, ◌≢◌, ℕ, ◌+◌, ◌*◌, ◌<◌, ◌≤◌, ◌↔◌, refl, ap, subst, ◌∙◌, arith, true, cond, None, Option, List, [], take, length, count_by, take-take, count_by_more_yes, sum_by-take-le, Game, LosAlamos, Gardner, Man, most_units, squares_of, PlainBoard, is_of_side, IsPosition, Ply, square_number, unit_at, IsLawful, ListsLawful, ListsBelow, ListsFrom, cell_of, place_in, IsCell, Has, CountsFrom, IsCell-cell_of, place_in-cell_of, Has-zero, number_within, IsNumbered-lawful, HasParts-lawful, ListsBelow-nil, ListsBelow-jump, ListsLawful-from, own_from, squares_36}
use Rattle.moves.specs.Counting.{CountsLawful}
use Rattle.moves.proofs.Counts.{few_below}
use Rattle.moves.proofs.Walking.{IsWalked, Jumps, walked_start, walked_end, next_holds, walked_more}

-- a unit of the mover stands in the cell
abbrev pub IsOwn : PlainBoard → ℕ → Type 0
IsOwn b i = IsCell b.game i × (is_of_side b.mover (unit_at b (place_in i)) ≡ true)

-- a lawful move is one of such a unit
pub own_left : (b : PlainBoard) (m : Ply) → IsLawful b m → IsOwn b (cell_of m.from)
own_left b m l =
    let on = (IsNumbered-lawful b m l).from in
    (IsCell-cell_of b.game m.from on, ap (λ s. is_of_side b.mover (unit_at b s)) (place_in-cell_of b.game m.from on) ∙ own_from b m l)

most_12 : (g : Game) → most_units g ≤ 12
most_12 LosAlamos = omega arith
most_12 Gardner = omega arith

module _ (b : PlainBoard) where
  -- where none of the mover's units is passed, no move is lawful
  pass : (moves : List Ply) → Jumps b.game (IsOwn b) (λ n. ListsBelow b (n * 36 * 5) moves)
  pass moves n k le within none lists =
      ListsBelow-jump b _ _ moves (omega (arith, le)) lists (λ m low high l.
      let parts = HasParts-lawful b m l in
      let at : square_number b.game (place_in (cell_of m.from)) ≡ square_number b.game m.from = ap (square_number b.game) (place_in-cell_of b.game m.from (IsNumbered-lawful b m l).from) in
      none (cell_of m.from) (own_left b m l) (omega (arith, low, parts.to, parts.promotion, at)) (omega (arith, high, parts.to, parts.promotion, at)))

  -- ---- their list

  -- how many of the mover's units stand on the squares numbered below n
  abbrev owns : ℕ → ℕ
  owns n = count_by (is_of_side b.mover) (take n b.units)

  owns_up : (n k : ℕ) → n ≤ k → owns n ≤ owns k
  owns_up n k le = rw (take-take n k b.units le) at (sum_by-take-le (λ (x : Option Man). cond (is_of_side b.mover x) 1 0) (take k b.units) n)

  abbrev pub IsGathered : ℕ → List Ply → Type 0
  IsGathered set moves = IsWalked b.game (IsOwn b) (Has set) (λ n. ListsFrom b n moves)

  gather : (moves : List Ply) → Jumps b.game (IsOwn b) (λ n. ListsFrom b n moves)
  gather moves n k le within none from = record { lists = pass moves n k le within none from.lists; few = omega (arith, from.few, owns_up n k le) }

  pub gathered_start : (set : ℕ) → ((i : ℕ) → Has set i ↔ IsOwn b i) → IsGathered set []
  gathered_start set own = walked_start b.game (IsOwn b) (Has set) (λ n. ListsFrom b n []) own (record { lists = ListsBelow-nil b; few = omega arith })

  module _ (set : ℕ) (moves : List Ply) (s : IsGathered set moves) where
    pub gathered_end : set ≡ 0 → ListsLawful b moves
    gathered_end empty =
        ListsLawful-from b (squares_of b.game) moves (omega arith)
        (walked_end b.game (IsOwn b) (Has set) (λ n. ListsFrom b n moves) (λ i o. o.0) (gather moves) s (λ i h. Has-zero i (subst (λ x. Has x i) empty h))).lists

    module _ (to : ℕ) (there : Has set to) (least : (i : ℕ) → i < to → Has set i → ⊥) where
      pub gathered_lists : ListsFrom b (square_number b.game (place_in to)) moves
      gathered_lists = next_holds b.game (IsOwn b) (Has set) (λ n. ListsFrom b n moves) (λ i o. o.0) (gather moves) s to there least

      pub gathered_more : (rest : ℕ) (more : List Ply) → ((i : ℕ) → Has rest i ↔ (Has set i × (i ≢ to))) → ListsFrom b (square_number b.game (place_in to) + 1) more → IsGathered rest more
      gathered_more rest more = walked_more b.game (IsOwn b) (Has set) (λ n. ListsFrom b n moves) (λ i o. o.0) (gather moves) s to there least (Has rest) (λ n. ListsFrom b n more)

  -- one more unit
  module _ (position : IsPosition b) (i : ℕ) (own : IsOwn b i) (moves : List Ply) (from : ListsFrom b (square_number b.game (place_in i)) moves) where
    one_more : owns (square_number b.game (place_in i) + 1) ≡ owns (square_number b.game (place_in i)) + 1
    one_more =
        let within : square_number b.game (place_in i) < 36 = omega (arith, number_within b.game (place_in i) own.0.on_board, squares_36 b.game) in
        count_by_more_yes (is_of_side b.mover) b.units (square_number b.game (place_in i)) None (rw position.places within) own.1

    pub unit_room : length moves + 41 ≤ 512
    unit_room =
        let part : owns (square_number b.game (place_in i) + 1) ≤ count_by (is_of_side b.mover) b.units = sum_by-take-le (λ (x : Option Man). cond (is_of_side b.mover x) 1 0) b.units (square_number b.game (place_in i) + 1) in
        omega (arith, from.few, one_more, part, (position.armies b.mover).room, most_12 b.game)

    pub unit_more : (more : List Ply) → ListsBelow b ((square_number b.game (place_in i) + 1) * 36 * 5) more → length more ≤ length moves + 36 → ListsFrom b (square_number b.game (place_in i) + 1) more
    unit_more more lists few = record { lists = lists; few = omega (arith, few, from.few, one_more) }

  -- ---- their count

  -- so many moves from the squares numbered below k
  abbrev pub Counted : ℕ → ℕ → Type 0
  Counted n k = (moves : List Ply) × ListsBelow b (k * 36 * 5) moves × (n ≡ length moves)

  abbrev pub IsTallied : ℕ → ℕ → Type 0
  IsTallied set n = IsWalked b.game (IsOwn b) (Has set) (Counted n)

  tally : (n : ℕ) → Jumps b.game (IsOwn b) (Counted n)
  tally count n k le within none (moves, lists, same) = (moves, pass moves n k le within none lists, same)

  pub tallied_start : (set : ℕ) → ((i : ℕ) → Has set i ↔ IsOwn b i) → IsTallied set 0
  tallied_start set own = walked_start b.game (IsOwn b) (Has set) (Counted 0) own ([], ListsBelow-nil b, refl)

  module _ (set n : ℕ) (s : IsTallied set n) where
    pub tallied_end : set ≡ 0 → CountsLawful b n
    tallied_end empty =
        let (moves, lists, same) = walked_end b.game (IsOwn b) (Has set) (Counted n) (λ i o. o.0) (tally n) s (λ i h. Has-zero i (subst (λ x. Has x i) empty h)) in
        record { moves = moves; lists = ListsLawful-from b (squares_of b.game) moves (omega arith) lists; count = same }

    module _ (to : ℕ) (there : Has set to) (least : (i : ℕ) → i < to → Has set i → ⊥) where
      module _ (k : ℕ) (counts : CountsFrom b (square_number b.game (place_in to)) k) where
        counted : Counted (n + k) (square_number b.game (place_in to) + 1)
        counted =
            let (moves, lists, same) = next_holds b.game (IsOwn b) (Has set) (Counted n) (λ i o. o.0) (tally n) s to there least in
            let (more, listed, count) = counts moves lists in
            (more, listed, omega (arith, same, count))

        pub tallied_few : n + k ≤ 6480
        tallied_few =
            let (more, listed, same) = counted in
            omega (arith, few_below b _ more listed, number_within b.game (place_in to) ((s.left to).0 there).0.0.on_board, squares_36 b.game, same)

        pub tallied_more : (rest : ℕ) → ((i : ℕ) → Has rest i ↔ (Has set i × (i ≢ to))) → IsTallied rest (n + k)
        tallied_more rest others = walked_more b.game (IsOwn b) (Has set) (Counted n) (λ i o. o.0) (tally n) s to there least (Has rest) (Counted (n + k)) others counted
