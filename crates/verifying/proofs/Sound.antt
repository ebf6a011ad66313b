-- A certificate certifies its answer: what its lines tell holds over the claims that they make.
use Rattle.std.proofs.Common.{◌≡◌, ◌<◌, ◌≤◌, ℕ, ◌+◌, ◌∷◌, [], List, length, get_or, take, sym, ◌∙◌, ap, subst, arith, All, Contains, Some, slice_get, ◌⊎◌, inl, inr, ◌-◌, ◌/◌, ◌%◌, ◌++◌}
use Rattle.verifying.proofs.Common.{take_all, take-append-le, get_or_default, All-weaker, All-contains, All-cons, All-get_or, All-nil, Contains-push, get_or_from_slice_get, slice_get_within, Claim, cases_lt, get_or-append_seam, PlainBoard, Goal, Ply, IsPlyBefore, split3, Answer, one_way, FailsBy, HoldsOver, IsWon, WinsBy, AllHold, AllWon, Certifies, HasClaim, IsOdd, Word, IsInRange, AreLinesFrom, IsCertificate, IsLesserLine, IsNoLine, IsSomeYesLine, NoLinesMake, ProveAnswer, YesLinesMake, shorter_claim, with_claim, get_or_append_left, All-more}
use Rattle.verifying.proofs.Grown.{Extends, extends_same, extends_twice, still_fails, still_holds, still_there, still_wins, still_won, Grows, all_failed, no_line, yes_line}
use Rattle.verifying.proofs.Making.{if_less}
use Rattle.problems.specs.declared.answer.Answer.TheVariants as answer

-- ---- the claims whose lines were read

-- one claim more, where what held over the claims holds over more of them
claim_more : (P Q : Claim → Type 0) (old new : List Claim) (n : ℕ) (c : Claim) → Extends old new → slice_get old n ≡ Some c → ((c : Claim) → P c → Q c) → All P (take n old) → Q c → All Q (take (n + 1) new)
claim_more P Q old new n c (more, is) at still before here =
    let lt = slice_get_within old n c at in
    subst (All Q) (sym (ap (take (n + 1)) is ∙ take-append-le (n + 1) old more (omega (arith, lt))))
    (All-more Q old n c lt (All-weaker P Q still (take n old) before) (subst Q (sym (get_or_from_slice_get old n c c at)) here))

-- all of them
pub each_claim : (P : Claim → Type 0) (claims : List Claim) (n : ℕ) → length claims ≤ n → All P (take n claims) → (c : Claim) → Contains claims c → P c
each_claim P claims n whole all c among = All-contains P claims c (subst (All P) (take_all n claims whole) all) among

module _ (goal : Goal) where
  -- the moves in front of the answer's are those before it
  lesser_sound : (b : PlainBoard) (n : ℕ) (first : Ply) (line : List Word) (old new : List Claim) → IsLesserLine goal b n first line old new → (l : Ply) → IsPlyBefore b.game l first → FailsBy goal new b n l
  lesser_sound b n first line old new (lesser, others, lists, show) l before q move =
      let list : List Ply = lesser ++ first ∷ others in
      let (j, lt, is) = (lists.exact l).1 (q, move) in
      let at : get_or list (length lesser) first ≡ first = get_or-append_seam lesser first others first in
      let fails : FailsBy goal new b n l = elim (split3 j (length lesser)) as (λ _. FailsBy goal new b n l) [
        | inl front ↦
            subst (FailsBy goal new b n) (sym (get_or_append_left lesser (first ∷ others) l j front) ∙ is) (All-get_or (FailsBy goal new b n) lesser j l front (all_failed goal b n lesser line old new show).1)
        | inr (inl same) ↦
            let one : l ≡ first = sym is ∙ ap (λ (k : ℕ). get_or list k l) same ∙ get_or_default list (length lesser) l first (omega (arith, same, lt)) ∙ at in
            absurd (one_way _ _ _ _ _ _ before (subst (λ (x : Ply). IsPlyBefore b.game first x) (sym one) (subst (λ (x : Ply). IsPlyBefore b.game x first) one before)))
        | inr (inr behind) ↦
            let there : get_or list (length lesser) l ≡ first = get_or_default list (length lesser) l first (omega (arith, behind, lt)) ∙ at in
            absurd (one_way _ _ _ _ _ _ before (subst (λ (x : Ply). IsPlyBefore b.game x l) there (subst (λ (x : Ply). IsPlyBefore b.game (get_or list (length lesser) l) x) is (lists.ordered (length lesser) j l behind lt))))
      ] in
      fails q move

  -- ---- lines

  -- what each line shows of its claim is so over the claims at the end
  lines_sound : (IsLine : Claim → List Word → List Claim → List Claim → Type 0) (Good : List Claim → Claim → Type 0) → ((c : Claim) (line : List Word) (old new : List Claim) → IsLine c line old new → Grows old new × Good new c) → ((old new : List Claim) → Extends old new → (c : Claim) → Good old c → Good new c)
      → (place : ℕ) (lines : List (List Word)) (old new : List Claim) → AreLinesFrom IsLine place lines old new → All (Good old) (take place old) → Extends old new × All (Good new) (take (place + length lines) new)
  lines_sound IsLine Good sound still place [] old new are front =
      let same : place ≡ place + 0 = omega arith in
      (extends_same old new are, subst (λ (l : List Claim). All (Good l) (take (place + 0) l)) (sym are) (subst (λ (k : ℕ). All (Good old) (take k old)) same front))
  lines_sound IsLine Good sound still place (line ∷ lines) old new (c, next, at, first, rest) front =
      let here = sound c line old next first in
      let more = claim_more (Good old) (Good next) old next place c here.0.0 at (still old next here.0.0) front here.1 in
      let later = lines_sound IsLine Good sound still (place + 1) lines next new rest more in
      let same : place + 1 + length lines ≡ place + length (line ∷ lines) = omega arith in
      (extends_twice old next new here.0.0 later.0, subst (λ (k : ℕ). All (Good new) (take k new)) same later.1)

  no_lines_sound : (lines : List (List Word)) (old held : List Claim) → AreLinesFrom (IsNoLine goal) 0 lines old held → length held ≤ length lines → Extends old held × AllHold goal held
  no_lines_sound lines old held are whole =
      let so = lines_sound (IsNoLine goal) (HoldsOver goal) (no_line goal) (λ xs ys grown. still_holds xs ys grown goal) 0 lines old held are (All-nil (HoldsOver goal old)) in
      (so.0, each_claim (HoldsOver goal held) held (0 + length lines) (omega (arith, whole)) so.1)

  yes_lines_sound : (b : PlainBoard) (n : ℕ) (first : Ply) (lines : List (List Word)) (won : List Claim) → YesLinesMake goal b n first lines won → length won ≤ length lines → AllWon goal won × WinsBy goal won b n first
  yes_lines_sound b n first [] won make whole = absurd make
  yes_lines_sound b n first (line ∷ lines) won (next, begins, rest) whole =
      let c : Claim = record { position = b; plies = n } in
      let (grown, wins) = yes_line goal c first line (with_claim [] b n) next begins in
      let front : All (IsWon goal next) (take 1 next) = subst (λ (l : List Claim). All (IsWon goal next) (take 1 l)) (sym grown.0.1) (All-cons (IsWon goal next) c [] (first, wins) (All-nil (IsWon goal next))) in
      let so = lines_sound (IsSomeYesLine goal) (IsWon goal) (λ d l xs ys is. let won = yes_line goal d is.0 l xs ys is.1 in (won.0, (is.0, won.1))) (λ xs ys more. still_won xs ys more goal) 1 lines next won rest front in
      (each_claim (IsWon goal won) won (1 + length lines) (omega (arith, whole)) so.1, still_wins next won so.0 goal b n first wins)

  -- ---- answers

  no_shorter : (b : PlainBoard) (n : ℕ) (held : List Claim) → IsOdd n → Extends (shorter_claim b n) held → (n ≡ 1) ⊎ HasClaim held b (n - 2)
  no_shorter b n held odd grown = elim (cases_lt 2 n) as (λ _. (n ≡ 1) ⊎ HasClaim held b (n - 2)) [
    | inl more ↦ inr (still_there (shorter_claim b n) held grown (record { position = b; plies = n - 2 }) (subst (λ (l : List Claim). HasClaim l b (n - 2)) (sym (if_less 2 n (with_claim [] b (n - 2)) [] more)) (Contains-push [] _)))
    | inr few ↦ inl (omega (arith, few, odd.1))
  ]

  no_part : (b : PlainBoard) (n : ℕ) (first : Ply) (lines : List (List Word)) (held : List Claim) → IsOdd n → NoLinesMake goal b n first lines held → length held < length lines → AllHold goal held × ((n ≡ 1) ⊎ HasClaim held b (n - 2)) × ((l : Ply) → IsPlyBefore b.game l first → FailsBy goal held b n l)
  no_part b n first [] held odd make fewer = absurd make
  no_part b n first (line ∷ lines) held odd (next, begins, rest) fewer =
      let so = no_lines_sound lines next held rest (omega (arith, fewer)) in
      let grown = (all_failed goal b n begins.0 line (shorter_claim b n) next begins.3).0.0 in
      (so.1, no_shorter b n held odd (extends_twice (shorter_claim b n) next held grown so.0), λ l before. still_fails next held so.0 goal b n l (lesser_sound b n first line (shorter_claim b n) next begins l before))

  proved : (b : PlainBoard) (told : Answer) (lines : List (List Word)) → IsInRange told → ProveAnswer goal b told lines → Certifies goal b told
  proved b (answer.Mate n first) lines range (yeas, noes, is, (won, make, few), (held, made, fewer)) =
      let so = yes_lines_sound b n first yeas won make few in
      let also = no_part b n first noes held range.0 made fewer in
      record {
        yes_claims = won;
        no_claims = held;
        won = so.0;
        held = also.0;
        shown = record { odd = range.0; wins = so.1; no_fewer = also.1; no_lesser = also.2 };
      }
  proved b (answer.NoneWithin limit) lines range (held, are, few) =
      let so = no_lines_sound lines (with_claim [] b (limit - 1 + limit % 2)) held are few in
      record {
        yes_claims = [];
        no_claims = held;
        won = λ c among. absurd (omega (arith, among.1));
        held = so.1;
        shown = record {
          plies = limit - 1 + limit % 2;
          odd = ((limit - 1) / 2, omega (arith, range.0));
          enough = omega arith;
          claimed = still_there (with_claim [] b (limit - 1 + limit % 2)) held so.0 (record { position = b; plies = limit - 1 + limit % 2 }) (Contains-push [] _);
        };
      }

pub certificate_certifies : (goal : Goal) (b : PlainBoard) (told : Answer) (text : List ℕ) → IsCertificate goal b told text → Certifies goal b told
certificate_certifies goal b told text certificate = proved goal b told certificate.lines certificate.range certificate.prove
