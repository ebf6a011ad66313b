-- Variations, reply by reply.
use Rattle.std.proofs.Common.{◌≡◌, ℕ, ◌+◌, ◌<◌, ◌≤◌, sym, ap, subst, ◌∙◌, arith, List, [], ◌∷◌, ◌++◌, length, take, get_or, All}
use Rattle.solutions.proofs.Common.{map-append, All-push, PlainBoard, Goal, Ply, IsMove, IsLawful, ListsLawful, ForcesNothing, forced_within, IsMet, TellsVariation, IsVariation, variation_replies, ListsVariations}
use Rattle.solutions.specs.declared.variation.Variation.{Variation}
use Rattle.solutions.proofs.Lists.{PicksMoves, pick_one, pick_skip, pick_all}
use Rattle.solutions.proofs.Forcing.{met_here}

-- of these replies exactly those that are met within n plies, each with its variation
pub record VariesOver {A : Type 0} (goal : Goal) (q : PlainBoard) (n : ℕ) (xs : List Ply) (variations : List (Variation A)) : Type 0 where
  pub picks : PicksMoves q.game (IsMet goal q n) xs (variation_replies variations)
  pub each : All (IsVariation goal q) variations

module _ {A : Type 0} (goal : Goal) (q : PlainBoard) (n : ℕ) (xs : List Ply) where
  module _ (lists : ListsLawful q xs) (variations : List (Variation A)) (i : ℕ) (r : Ply) (within : i < length xs) (is : r ≡ get_or xs i r) (p : PlainBoard) (move : IsMove q r p) (so_far : VariesOver goal q n (take i xs) variations) where
    -- the reply is met
    pub vary_one : (v : Variation A) (more : List (Variation A)) → more ≡ variations ++ v ∷ [] → v.reply ≡ r → v.plies ≤ n → TellsVariation goal p v → VariesOver goal q n (take (i + 1) xs) more
    vary_one v more pushed reply few tells = subst (VariesOver goal q n (take (i + 1) xs)) (sym pushed) (record {
      picks = subst (PicksMoves q.game (IsMet goal q n) (take (i + 1) xs)) (sym (map-append (λ (w : Variation A). w.reply) variations (v ∷ []) ∙ ap (λ s. variation_replies variations ++ s ∷ []) reply))
          (pick_one q (IsMet goal q n) xs lists (variation_replies variations) i r within is so_far.picks (p, move, forced_within goal p.mover p v.plies n few tells.plies.forced));
      each = All-push (IsVariation goal q) variations v so_far.each (p, subst (λ s. IsMove q s p) (sym reply) move, tells);
    })

    -- it isn't
    pub vary_skip : ForcesNothing goal p n → VariesOver goal q n (take (i + 1) xs) variations
    vary_skip nothing = record {
      picks = pick_skip q (IsMet goal q n) xs lists (variation_replies variations) i r within is so_far.picks (λ met. nothing n (omega arith) (met_here goal q r p move n met));
      each = so_far.each;
    }

  pub vary_all : ListsLawful q xs → (variations : List (Variation A)) (i : ℕ) → length xs ≤ i → VariesOver goal q n (take i xs) variations → ListsVariations goal q n variations
  vary_all lists variations i all so_far = record {
    replies = pick_all q (IsMet goal q n) xs lists (variation_replies variations) i all so_far.picks (λ m w. (w.0, w.1));
    each = so_far.each;
  }

-- where each lawful reply is met, the variations are of exactly the lawful replies
pub all_replies : {A : Type 0} (goal : Goal) (q : PlainBoard) (n : ℕ) (variations : List (Variation A)) → ((r : Ply) → IsLawful q r → IsMet goal q n r) → ListsVariations goal q n variations → ListsLawful q (variation_replies variations)
all_replies goal q n variations met lists = record {
  ordered = lists.replies.ordered;
  exact = λ r. (
    λ c. let w = (lists.replies.exact r).0 c in (w.0, w.1),
    λ lawful. (lists.replies.exact r).1 (met r lawful),
  );
}
