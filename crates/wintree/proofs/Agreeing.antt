-- Replies that are, or aren't, the lawful moves in order.
use Rattle.std.proofs.Common.{◌≡◌, ℕ, ◌+◌, ◌<◌, List, length, take, get_or, refl, sym, ap, ◌∙◌, subst, arith, get_or-take, slice_get, Some, Contains, take_all}
use Rattle.std.specs.Option.{option_map}
use Rattle.std.proofs.lemmas.List.{take_more_same}
use Rattle.std.proofs.lemmas.Option.{slice_get-map, slice_get_read}
use Rattle.wintree.proofs.Common.{slice_get_within, get_or_from_slice_get, PlainBoard, Ply, Plan, IsPlyBefore, ListsLawful, moves_in}
use Rattle.wintree.proofs.Listings.{lower_once}

-- what stands at a place
module _ {X : Type 0} where
  pub read_at : (xs : List X) (i : ℕ) (x : X) → i < length xs → x ≡ get_or xs i x → slice_get xs i ≡ Some x
  read_at xs i x in_range is = slice_get_read xs (length xs) i x refl in_range is

  pub stands : (xs : List X) (i : ℕ) (x : X) → slice_get xs i ≡ Some x → Contains xs x
  stands xs i x is = (i, slice_get_within xs i x is, get_or_from_slice_get xs i x x is)

  -- lists that agree so far and have one element there agree one further
  pub agree_more : (xs ys : List X) (i : ℕ) (x : X) → take i xs ≡ take i ys → slice_get xs i ≡ Some x → slice_get ys i ≡ Some x → take (i + 1) xs ≡ take (i + 1) ys
  agree_more xs ys i x same at also =
      take_more_same xs ys i x (slice_get_within xs i x at) (slice_get_within ys i x also) same (get_or_from_slice_get xs i x x at ∙ sym (get_or_from_slice_get ys i x x also))

pub reply_at : (replies : List (Ply × Plan)) (i : ℕ) (reply : Ply × Plan) → i < length replies → reply ≡ get_or replies i reply → slice_get (moves_in replies) i ≡ Some reply.0
reply_at replies i reply in_range is = slice_get-map (λ r. r.0) replies i ∙ ap (option_map (λ r. r.0)) (read_at replies i reply in_range is)

-- where all n replies are the first lawful moves, the next one isn't among them
pub next_left_out : (b : PlainBoard) (moves replies : List Ply) (n : ℕ) (m : Ply) → ListsLawful b moves → n ≡ length replies → take n replies ≡ take n moves → slice_get moves n ≡ Some m → ¬ Contains replies m
next_left_out b moves replies n m lists all same is = λ among.
    let k = among.0 in
    let before : k < n = omega (arith, among.1) in
    let there : get_or moves k m ≡ m = sym (get_or-take n moves k m before) ∙ ap (λ xs. get_or xs k m) (sym same ∙ take_all n replies (omega arith)) ∙ among.2 in
    let ordered : IsPlyBefore b.game (get_or moves k m) (get_or moves n m) = lists.ordered k n m before (slice_get_within moves n m is) in
    let itself : IsPlyBefore b.game m m = subst (λ x. IsPlyBefore b.game x m) there (subst (IsPlyBefore b.game (get_or moves k m)) (get_or_from_slice_get moves n m m is) ordered) in
    lower_once _ _ _ _ _ _ itself itself
