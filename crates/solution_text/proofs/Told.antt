-- Replies with their sequels, one after another, and the threats before them.
use Rattle.std.proofs.Common.{Vec, Bool, true, false, Option, None, Some, IfSome, ◌≡◌, ℕ, ◌+◌, ◌<◌, ◌≤◌, List, [], ◌∷◌, ◌++◌, zero, suc, length, take, drop, get_or, append_assoc, refl, sym, ◌∙◌, ap, subst, arith}
use Rattle.solution_text.proofs.Common.{PlainBoard, Goal, Ply, IsLawful, ListsLawful, IsFewest, Notation, ListsMoves, ListsContinuations, IsMet, passed, AreThreats, Sequel, sequel, Play, play, Threat, over, check, zugzwang, short, long, Sequels, done, more, replies_in, IsThreat, IsPlay, IsVirtualPlay, AreSequels, AreThreatsText, AreSequelsText, AreThreatened, IsThreatText, IsLongText, TellsLong, TellsReply, TellsReplies, PicksMoves, pick_one, pick_skip, pick_all}
use Rattle.solution_text.specs.WholeText.{held_against}
use Rattle.solution_text.specs.declared.posed.Posed.{Posed}
use Rattle.problems.proofs.Winning.{none_forced, nothing_at_once}
use Rattle.solutions.specs.declared.threats.Threats.{Threats}
use Rattle.solutions.specs.declared.threats.Threats.TheVariants.{End, Check, Zugzwang, Moves}

-- ---- one reply more

abbrev pub snoc : Sequels → Ply → Sequel → Sequels
snoc done r s = more r s done
snoc (more l t others) r s = more l t (snoc others r s)

replies_in-snoc : (list : Sequels) (r : Ply) (s : Sequel) → replies_in (snoc list r s) ≡ replies_in list ++ r ∷ []
replies_in-snoc done r s = refl
replies_in-snoc (more l t others) r s = ap (λ ms. l ∷ ms) (replies_in-snoc others r s)

AreSequels-snoc : (goal : Goal) (q : PlainBoard) (list : Sequels) (r : Ply) (s : Sequel) → AreSequels goal q list → AreSequels goal q (more r s done) → AreSequels goal q (snoc list r s)
AreSequels-snoc goal q done r s each here = here
AreSequels-snoc goal q (more l t others) r s each here = (each.0, AreSequels-snoc goal q others r s each.1 here)

AreSequelsText-snoc : (notation : Notation) (number : ℕ) (set : Option Posed) (q : PlainBoard) (list : Sequels) (r : Ply) (s : Sequel) (text one : List ℕ)
    → AreSequelsText notation number set q list text → AreSequelsText notation number set q (more r s done) one → AreSequelsText notation number set q (snoc list r s) (text ++ one)
AreSequelsText-snoc notation number set q done r s text one all here = subst (λ t. AreSequelsText notation number set q (more r s done) (t ++ one)) (sym all) here
AreSequelsText-snoc notation number set q (more l t others) r s text one all here =
    let (first, rest, line, below, is) = all in
    (first, rest ++ one, line, AreSequelsText-snoc notation number set q others r s rest one below here, ap (λ x. x ++ one) is ∙ append_assoc first rest one)

-- of these replies exactly those that are met within n plies, with their sequels and their text
pub record TellsOver (notation : Notation) (number : ℕ) (set : Option Posed) (q : PlainBoard) (n : ℕ) (xs : List Ply) (text : List ℕ) : Type 0 where
  pub replies : Sequels
  pub picks : PicksMoves q.game (IsMet notation.goal q n) xs (replies_in replies)
  pub each : AreSequels notation.goal q replies
  pub lines : AreSequelsText notation number set q replies text

module _ (notation : Notation) (number : ℕ) (set : Option Posed) (q : PlainBoard) (n : ℕ) (xs : List Ply) where
  pub tell_none : (text : List ℕ) → text ≡ [] → TellsOver notation number set q n (take 0 xs) text
  tell_none text none = record {
    replies = done;
    picks = record {
      ordered = λ i j d before within. absurd (omega (arith, within));
      exact = λ r. (λ c. absurd (omega (arith, c.1)), λ c. absurd (omega (arith, c.0.1)));
    };
    each = tt;
    lines = none;
  }

  module _ (lists : ListsLawful q xs) (text : List ℕ) (i : ℕ) (r : Ply) (within : i < length xs) (is : r ≡ get_or xs i r) (so_far : TellsOver notation number set q n (take i xs) text) where
    -- the reply is met
    pub tell_one : (one new : List ℕ) → TellsReply notation number set q n r one → new ≡ text ++ one → TellsOver notation number set q n (take (i + 1) xs) new
    tell_one one new (met, (s, here, line)) added = subst (TellsOver notation number set q n (take (i + 1) xs)) (sym added) (record {
      replies = snoc so_far.replies r s;
      picks = subst (PicksMoves q.game (IsMet notation.goal q n) (take (i + 1) xs)) (sym (replies_in-snoc so_far.replies r s))
          (pick_one q (IsMet notation.goal q n) xs lists (replies_in so_far.replies) i r within is so_far.picks met);
      each = AreSequels-snoc notation.goal q so_far.replies r s so_far.each here;
      lines = AreSequelsText-snoc notation number set q so_far.replies r s text one so_far.lines line;
    })

    -- it isn't
    pub tell_skip : (IsMet notation.goal q n r → ⊥) → TellsOver notation number set q n (take (i + 1) xs) text
    tell_skip not = record {
      replies = so_far.replies;
      picks = pick_skip q (IsMet notation.goal q n) xs lists (replies_in so_far.replies) i r within is so_far.picks not;
      each = so_far.each;
      lines = so_far.lines;
    }

  pub tell_all : ListsLawful q xs → (text : List ℕ) (i : ℕ) → length xs ≤ i → TellsOver notation number set q n (take i xs) text → TellsReplies notation number set q n text
  tell_all lists text i all so_far =
      (so_far.replies, pick_all q (IsMet notation.goal q n) xs lists (replies_in so_far.replies) i all so_far.picks (λ m w. (w.0, w.1)), so_far.each, so_far.lines)

-- where each lawful reply is met, those that are met are the lawful ones
all_lawful : (goal : Goal) (q : PlainBoard) (n : ℕ) (moves : List Ply) → ((r : Ply) → IsLawful q r → IsMet goal q n r) → ListsMoves q.game (IsMet goal q n) moves → ListsLawful q moves
all_lawful goal q n moves met lists = record {
  ordered = lists.ordered;
  exact = λ r. (
    λ c. let w = (lists.exact r).0 c in (w.0, w.1),
    λ lawful. (lists.exact r).1 (met r lawful),
  );
}

-- and virtual play is the play
pub all_played : (goal : Goal) (q : PlainBoard) (n : ℕ) (then : Play) → ((r : Ply) → IsLawful q r → IsMet goal q n r) → IsVirtualPlay goal q n then → IsPlay goal q n then
all_played goal q n (play threat replies) met (is, lists, each) = (is, all_lawful goal q n (replies_in replies) met lists, each)

-- ---- what is compared

-- nothing
pub no_set : (set : Option Posed) → set ≡ None → IfSome set (λ posed. posed.plies ≤ 63)
no_set None none = tt
no_set (Some posed) none = cc

-- the set play, if it is asked for
pub few_held : (b : PlainBoard) (n : ℕ) (asked : Bool) → n ≤ 63 → IfSome (held_against b n asked) (λ posed. posed.plies ≤ 63)
few_held b n true few = few
few_held b n false few = tt

-- ---- continuations

-- there is one
pub some_move : (goal : Goal) (b : PlainBoard) (n : ℕ) (moves : List Ply) → IsFewest goal b n → ListsContinuations goal b n moves → 0 < length moves
some_move goal b n [] fewest lists = absurd (none_forced goal b n (some_ply n fewest) (λ m wins. let w = (lists.exact m).1 wins in absurd (omega (arith, w.1))) fewest.forced)
  where
    some_ply : (n : ℕ) → IsFewest goal b n → 0 < n
    some_ply zero fewest = absurd (nothing_at_once goal b 0 (omega arith) fewest.forced)
    some_ply (suc n) fewest = omega arith
some_move goal b n (m ∷ moves) fewest lists = omega arith

-- a list by its first element
pub first_is : {X : Type 0} (xs : List X) (x : X) → 0 < length xs → x ≡ get_or xs 0 x → xs ≡ x ∷ drop 1 xs
first_is [] x some first = absurd (omega arith)
first_is (a ∷ xs) x some first = ap (λ y. y ∷ xs) (sym first)

-- ---- threats

plies_of : {A : Type 0} → Threats A → ℕ
plies_of (Moves k moves) = k
plies_of _ = 0

-- a threat takes one number of plies
pub same_plies : {A : Type 0} (threats : Threats A) (k j : ℕ) (moves others : Vec Ply A) → threats ≡ Moves k moves → threats ≡ Moves j others → k ≡ j
unfolding plies_of
same_plies threats k j moves others is same = ap plies_of (sym is ∙ same)

-- a threat, its text and the lines behind it
pub record TellsThreat (notation : Notation) (number : ℕ) (q : PlainBoard) (n : ℕ) (head lines : List ℕ) : Type 0 where
  pub threat : Threat
  pub is : IsThreat notation.goal q n threat
  pub head_is : IsThreatText notation (number + 1) q threat head
  pub lines_are : IsLongText notation number q threat lines

module _ {A : Type 0} (notation : Notation) (number : ℕ) (q : PlainBoard) (n : ℕ) where
  -- no longer threat
  pub no_long : (threats : Threats A) (head lines : List ℕ) → AreThreats notation.goal q n threats → AreThreatsText notation (number + 1) q threats head
      → ((k : ℕ) (moves : Vec Ply A) → threats ≡ Moves k moves → k ≤ 1) → lines ≡ [] → TellsThreat notation number q n head lines
  no_long End head lines are is few none = record { threat = over; is = are; head_is = is; lines_are = none }
  no_long Check head lines are is few none = record { threat = check; is = are; head_is = is; lines_are = none }
  no_long Zugzwang head lines are is few none = record { threat = zugzwang; is = are; head_is = is; lines_are = none }
  no_long (Moves k moves) head lines are is few none = record {
    threat = short moves.items;
    is = (are.0, are.1, (let most = are.2 in omega (arith, one, most)), subst (IsFewest notation.goal (passed q)) one are.3, subst (λ j. ListsContinuations notation.goal (passed q) j moves.items) one are.4);
    head_is = is;
    lines_are = none;
  }
    where
      some : (k : ℕ) → IsFewest notation.goal (passed q) k → 0 < k
      some zero fewest = absurd (nothing_at_once notation.goal (passed q) 0 (omega arith) fewest.forced)
      some (suc j) fewest = omega arith

      one : k ≡ 1
      one = let most = few k moves refl in let least = some k are.3 in omega (arith, most, least)

  -- a longer one
  pub a_long : (threats : Threats A) (k : ℕ) (moves : Vec Ply A) (head lines : List ℕ) → threats ≡ Moves k moves → AreThreats notation.goal q n threats → AreThreatsText notation (number + 1) q threats head
      → 1 < k → TellsLong notation number q k moves.items lines → TellsThreat notation number q n head lines
  a_long threats k moves head lines is are text longer (m, duals, first, then, sequel_is, line) = record {
    threat = long (sequel m duals then);
    is = let h = subst (AreThreats notation.goal q n) is are in (h.0, h.1, (k, omega (arith, longer), h.2, sequel_is));
    head_is = let h = subst (λ t. AreThreatsText notation (number + 1) q t head) is text in
        subst (λ ms. AreThreatened notation (number + 1) q ms head) first h;
    lines_are = line;
  }
