-- A board has one text, and it is the one that is written.
use Rattle.std.proofs.Common.{◌≡◌, ℕ, ◌+◌, ◌-◌, ◌*◌, ◌<◌, zero, suc, refl, sym, ap, subst, ◌∙◌, arith, List, [], ◌∷◌, ◌++◌, length, take, drop, replicate, Option, Some, None, true, cond, append-nil, length-append, length-take, length-drop, take-append-drop}
use Rattle.board.proofs.Common.{IfSome, length-replicate, MayStandOn, unit_on, nat_tests, take_at, drop_at, Side, Man, Game, LosAlamos, Gardner, width_of, squares_of, PlainBoard, IsPosition, letter_of, side_letter, StartsNoRun, IsRankText, IsTextFrom, IsFenText, end, unit, run, first, above}
use Rattle.std.proofs.lemmas.List.{get_or-drop, get_or-replicate, get_or_default, same_lists}
use Rattle.std.specs.Prelude.{nat_lt}
use Rattle.board.specs.Written.{run_text, rank_text, ranks_text}
use Rattle.board.proofs.RankText.{starts_with_letter}
use Rattle.board.proofs.FenParts.{few_squares, long_text}

-- ---- a rank

run_bytes : (d : ℕ) → 0 < d → run_text d ≡ (48 + d) ∷ []
run_bytes d h = let test : nat_lt 0 d ≡ true = grind (arith, nat_tests) in ap (λ b. cond b ((48 + d) ∷ []) []) test

after_run : (k d n : ℕ) (units : List (Option Man)) → n ≡ k + d → rank_text k (replicate d None ++ units) ≡ rank_text n units
after_run k zero n units e = let same : k ≡ n = omega arith in ap (λ m. rank_text m units) same
after_run k (suc d) n units e = after_run (k + 1) d n units (omega arith)

-- a run ends where its rank's text goes on with no digit
run_ends : (d : ℕ) (bytes : List ℕ) (units : List (Option Man)) → IsRankText bytes units → StartsNoRun bytes → rank_text d units ≡ run_text d ++ rank_text 0 units
run_ends d bytes units end s = sym (append-nil (run_text d))
run_ends d bytes units (unit u e r) s = refl
run_ends d bytes units (run k p q e t r) s = absurd (s k q e)

rank_is : (bytes : List ℕ) (units : List (Option Man)) → IsRankText bytes units → bytes ≡ rank_text 0 units
rank_is bytes units end = refl
rank_is bytes units (unit {bytes = rest} {units = more} u e r) = ap (λ c. c ∷ rest) e ∙ ap (λ x. letter_of u.side u.kind ∷ x) (rank_is rest more r)
rank_is bytes units (run {bytes = rest} {units = more} d p q e s r) =
    ap (λ c. c ∷ rest) e ∙ ap (λ x. (48 + d) ∷ x) (rank_is rest more r) ∙ ap (λ x. x ++ rank_text 0 more) (sym (run_bytes d p)) ∙ sym (run_ends d rest more r s) ∙ sym (after_run 0 d d more (omega arith))

-- one empty square more
longer_run : (d : ℕ) (units : List (Option Man)) → replicate (d + 1) None ++ units ≡ replicate d None ++ None ∷ units
longer_run zero units = refl
longer_run (suc d) units = let same : suc d + 1 ≡ suc (d + 1) = omega arith in rw same (ap (λ xs. None ∷ xs) (longer_run d units))

-- a run in front of a text that begins with no digit
run_before : (d : ℕ) (bytes : List ℕ) (units : List (Option Man)) → d < 10 → StartsNoRun bytes → IsRankText bytes units → IsRankText (run_text d ++ bytes) (replicate d None ++ units)
run_before zero bytes units h s r = r
run_before (suc d) bytes units h s r =
    subst (λ x. IsRankText (x ++ bytes) (replicate (suc d) None ++ units)) (sym (run_bytes (suc d) (omega arith))) (run (suc d) (omega arith) h refl s r)

is_rank : (d : ℕ) (units : List (Option Man)) → d + length units < 10 → IsRankText (rank_text d units) (replicate d None ++ units)
is_rank d [] h = subst (λ x. IsRankText x (replicate d None ++ [])) (append-nil (run_text d)) (run_before d [] [] (omega arith) tt end)
is_rank d (None ∷ units) h = subst (IsRankText (rank_text (d + 1) units)) (longer_run d units) (is_rank (d + 1) units (omega (arith, h)))
is_rank d (Some u ∷ units) h =
    let rest = rank_text 0 units in
    run_before d (letter_of u.side u.kind ∷ rest) (Some u ∷ units) (omega (arith, h)) (starts_with_letter _ rest u refl) (unit u refl (is_rank 0 units (omega (arith, h))))

-- ---- the ranks

text_is : (w : ℕ) (s : Side) (n : ℕ) (text : List ℕ) (us : List (Option Man)) → IsTextFrom w s n text us → text ≡ ranks_text w s n us
text_is w s n text us (first {row = row} e r l) = e ∙ ap (λ x. x ++ 32 ∷ side_letter s ∷ []) (rank_is row us r)
text_is w s n text us (above {n = zero} e r l low u) = absurd (elim low [ ])
text_is w s n text us (above {n = suc k} {row = row} {rest = rest} {top = top} {lower = lower} e r l low u) =
    let cut : length lower ≡ length us - w = omega (arith, ap (length {A = Option Man}) u, l, length-append lower top) in
    let tops : top ≡ drop (length us - w) us = sym (ap (drop (length us - w)) u ∙ drop_at lower top (length us - w) cut) in
    let lowers : lower ≡ take (length us - w) us = sym (ap (take (length us - w)) u ∙ take_at lower top (length us - w) cut) in
    e ∙ ap (λ x. x ++ 47 ∷ rest) (rank_is row top r ∙ ap (rank_text 0) tops) ∙ ap (λ x. rank_text 0 (drop (length us - w) us) ++ 47 ∷ x) (text_is w s (suc k) rest lower low ∙ ap (ranks_text w s (suc k)) lowers)

is_text : (w : ℕ) (s : Side) (n : ℕ) (us : List (Option Man)) → w < 10 → length us ≡ suc n * w → IsTextFrom w s (suc n) (ranks_text w s (suc n) us) us
is_text w s zero us h l = first refl (is_rank 0 us (omega (arith, h, l))) (omega (arith, l))
is_text w s (suc n) us h l =
    let cut = length us - w in
    let top : length (drop cut us) ≡ w = omega (arith, l, length-drop cut us) in
    let lower : length (take cut us) ≡ suc n * w = omega (arith, l, length-take cut us) in
    above refl (is_rank 0 (drop cut us) (omega (arith, h, top))) top (is_text w s n (take cut us) h lower) (sym (take-append-drop cut us))

-- ---- the text of a position

no_unit : (x : Option Man) (P : Man → Type 0) → IfSome x P → ((u : Man) → P u → ⊥) → x ≡ None
no_unit None P h none = refl
no_unit (Some u) P h none = absurd (none u h)

-- nothing stands on the places that a position's board doesn't have
places_empty : (b : PlainBoard) → IsPosition b → b.units ≡ take (squares_of b.game) b.units ++ replicate (36 - length (take (squares_of b.game) b.units)) None
places_empty b p =
    let n = squares_of b.game in
    let left = 36 - length (take n b.units) in
    let empty : Option Man = None in
    let long : length (drop n b.units) ≡ left = omega (arith, p.places, length-drop n b.units, length-take n b.units) in
    sym (take-append-drop n b.units) ∙ ap (λ x. take n b.units ++ x) (same_lists (drop n b.units) (replicate left empty) (long ∙ sym (length-replicate left empty)) (λ k d lt.
    get_or_default (drop n b.units) k d empty lt ∙ get_or-drop n b.units k empty
    ∙ no_unit (unit_on b (n + k)) (MayStandOn b.game (n + k)) (p.squares (n + k)) (λ u may. omega (arith, may.on_board))
    ∙ sym (get_or-replicate left k empty d (omega (arith, long)))))

-- the text that is written
abbrev pub fen_of : PlainBoard → List ℕ
fen_of b = ranks_text (width_of b.game) b.mover (width_of b.game) (take (squares_of b.game) b.units)

pub fen_is : (x : List ℕ) (b : PlainBoard) → IsFenText x b → x ≡ fen_of b
fen_is x b fen =
    let squares : fen.squares ≡ take (squares_of b.game) b.units = sym (ap (take (squares_of b.game)) fen.units ∙ take_at fen.squares _ (squares_of b.game) (long_text _ _ _ _ _ fen.ranks)) in
    text_is _ _ _ x fen.squares fen.ranks ∙ ap (ranks_text (width_of b.game) b.mover (width_of b.game)) squares

pub one_fen : (x y : List ℕ) (b : PlainBoard) → IsFenText x b → IsFenText y b → x ≡ y
one_fen x y b s t = fen_is x b s ∙ sym (fen_is y b t)

pub is_fen : (b : PlainBoard) → IsPosition b → IsFenText (fen_of b) b
is_fen b p = record { squares = take (squares_of b.game) b.units; ranks = by b.game (omega (arith, p.places, length-take (squares_of b.game) b.units, few_squares b.game)); units = places_empty b p }
  where
    by : (g : Game) → length (take (squares_of b.game) b.units) ≡ squares_of g → IsTextFrom (width_of g) b.mover (width_of g) (ranks_text (width_of g) b.mover (width_of g) (take (squares_of b.game) b.units)) (take (squares_of b.game) b.units)
    by LosAlamos l = is_text 6 b.mover 5 _ (omega arith) l
    by Gardner l = is_text 5 b.mover 4 _ (omega arith) l
