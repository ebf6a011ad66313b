-- The lawful moves of a list, and the one at a place.
use Rattle.std.proofs.Common.{◌≡◌, ◌<◌, ℕ, List, length, get_or, take, refl, sym, ap, ◌∙◌, subst, All, Contains, slice_get}
use Rattle.verifying.proofs.Common.{All-get_or, All-take, get_or_from_slice_get, same_Some, slice_get_read, slice_get_within, PlainBoard, Ply, IsLawful, ListsLawful, all_listed, one_list, IsMoveAt}

pub listed_item : (b : PlainBoard) (moves list : List Ply) (i : ℕ) (m : Ply) → ListsLawful b moves → list ≡ moves → i < length moves → m ≡ get_or list i m → IsLawful b m
listed_item b moves list i m lists same lt is =
    (lists.exact m).0 (subst (λ (l : List Ply). Contains l m) same (i, subst (λ (l : List Ply). i < length l) (sym same) lt, sym is))

pub lawful_item : (b : PlainBoard) (moves : List Ply) (i : ℕ) (m : Ply) → All (IsLawful b) moves → i < length moves → m ≡ get_or moves i m → IsLawful b m
lawful_item b moves i m all lt is = subst (IsLawful b) (sym is) (All-get_or (IsLawful b) moves i m lt all)

pub all_lawful : (b : PlainBoard) (moves list : List Ply) → ListsLawful b moves → list ≡ moves → All (IsLawful b) list
all_lawful b moves list lists same = subst (All (IsLawful b)) (sym same) (all_listed b moves lists.exact)

pub front_lawful : (b : PlainBoard) (moves list : List Ply) (place : ℕ) → ListsLawful b moves → list ≡ moves → All (IsLawful b) (take place list)
front_lawful b moves list place lists same = All-take (IsLawful b) place list (all_lawful b moves list lists same)

-- ---- the move at a place

pub listed_at : (b : PlainBoard) (moves list : List Ply) (i : ℕ) (m : Ply) → ListsLawful b moves → list ≡ moves → i < length moves → m ≡ get_or list i m → IsMoveAt b i m
listed_at b moves list i m lists same lt is =
    (moves, lists, slice_get_read moves (length moves) i m refl lt (is ∙ ap (λ (l : List Ply). get_or l i m) same))

pub lawful_at : (b : PlainBoard) (i : ℕ) (m : Ply) → IsMoveAt b i m → IsLawful b m
lawful_at b i m (moves, lists, at) = (lists.exact m).0 (i, slice_get_within moves i m at, get_or_from_slice_get moves i m m at)

pub one_move_at : (b : PlainBoard) (i : ℕ) (m n : Ply) → IsMoveAt b i m → IsMoveAt b i n → m ≡ n
one_move_at b i m n (moves, lists, at) (others, also, there) =
    same_Some m n (sym at ∙ (ap (λ (l : List Ply). slice_get l i) (one_list b moves others lists also) ∙ there))

pub place_in : (b : PlainBoard) (moves : List Ply) (i : ℕ) (m : Ply) → ListsLawful b moves → IsMoveAt b i m → i < length moves
place_in b moves i m lists (others, also, at) =
    slice_get_within moves i m (ap (λ (l : List Ply). slice_get l i) (one_list b moves others lists also) ∙ at)
