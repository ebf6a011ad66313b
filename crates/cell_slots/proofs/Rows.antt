-- The tokens of a seat, one for each slot.
use Rattle.std.proofs.Common.{◌≡◌, ◌≢◌, ℕ, zero, suc, ◌+◌, ◌<◌, ◌≤◌, List, [], ◌∷◌, ◌++◌, map, All, length, get_or, set, take, refl, sym, ap, ◌∙◌, subst, arith, length-set, get_or-set_same, get_or-set_other}
use Rattle.std.proofs.lemmas.List.{map-append, take_more}
use Rattle.std.proofs.lemmas.List.Elements.{All-append, All-get_or, All-from_get_or}
use mathlib.Core.Logic.{dite}
use native.Mathlib.Decide.{ℕ_discrete}
use Rattle.atomic_table.specs.Seated.{TableId}
use Rattle.std.proofs.Math.Seq.{map-set_same}
use Rattle.std.proofs.lemmas.List.{length-map}
use lib.Seq.{map-set}
use Rattle.slots.specs.declared.calls.Act.{Act}
use Rattle.cell_slots.specs.declared.views.View.{View}
use Rattle.crossbeam_utils.specs.Seq.{cell_view}
use Rattle.cell_slots.specs.Cell.{part_by, told, Token, token_table, token_part, tokens_part, IsSeated, IsFresh, Fresh}
use Rattle.cell_slots.specs.Table.{Part, AddsCall, Name, Seated, nobody_yet, told_part, Calls}

module _ {A B C : Type 0} (f : A → C) (g : B → C) where
  pub same_at : (xs : List A) (ys : List B) (i : ℕ) (a : A) (b : B) → map f xs ≡ map g ys → i < length xs → a ≡ get_or xs i a → b ≡ get_or ys i b → f a ≡ g b
  same_at [] ys i a b e h p q = absurd (omega arith)
  same_at (x ∷ xs) [] i a b e h p q = absurd (cc)
  same_at (x ∷ xs) (y ∷ ys) zero a b e h p q = let p' : a ≡ x = p in let q' : b ≡ y = q in let e' : f x ∷ map f xs ≡ g y ∷ map g ys = e in cc
  same_at (x ∷ xs) (y ∷ ys) (suc i) a b e h p q = let e' : f x ∷ map f xs ≡ g y ∷ map g ys = e in let t : map f xs ≡ map g ys = cc in same_at xs ys i a b t (omega arith) p q

  pub same_length : (xs : List A) (ys : List B) → map f xs ≡ map g ys → length xs ≡ length ys
  same_length [] [] e = refl
  same_length [] (y ∷ ys) e = absurd (cc)
  same_length (x ∷ xs) [] e = absurd (cc)
  same_length (x ∷ xs) (y ∷ ys) e = let e' : f x ∷ map f xs ≡ g y ∷ map g ys = e in let t : map f xs ≡ map g ys = cc in ap suc (same_length xs ys t)

  pub map_at : (xs : List A) (i : ℕ) (a : A) (d : C) → i < length xs → a ≡ get_or xs i a → get_or (map f xs) i d ≡ f a
  map_at [] i a d h p = absurd (omega arith)
  map_at (x ∷ xs) zero a d h p = ap f (sym p)
  map_at (x ∷ xs) (suc i) a d h p = map_at xs i a d (omega arith) p

set_part : (ts : List Token) (i : ℕ) (u : Token) → i < length ts → tokens_part (set ts i u) i ≡ token_part u
set_part ts i u inside = let long = length-map ts token_part in
    ap (λ ps. get_or ps i nobody_yet) (map-set token_part ts i u) ∙ get_or-set_same (map token_part ts) i (token_part u) nobody_yet (omega arith)

set_part_else : (ts : List Token) (i k : ℕ) (u : Token) → k ≢ i → tokens_part (set ts i u) k ≡ tokens_part ts k
set_part_else ts i k u apart = ap (λ ps. get_or ps k nobody_yet) (map-set token_part ts i u) ∙ get_or-set_other (map token_part ts) i k (token_part u) nobody_yet apart

-- the seat of these tokens
abbrev pub seat_of : Name → List Token → Seated
seat_of name tokens = record { table = name; parts = map token_part tokens }

pub calls_of : (key : List ℕ → List ℕ) (tokens : List Token) (slot : ℕ) (t u : Token) (act : Act) (a b : Name) → slot < length tokens → t ≡ get_or tokens slot t → u.id ≡ t.id
    → AddsCall key slot act (part_by t.id (cell_view t)) (part_by t.id (cell_view u)) → Calls key slot act (seat_of a tokens) (seat_of b (set tokens slot u))
calls_of key tokens slot t u act a b inside is same made =
    let adds : AddsCall key slot act (token_part t) (token_part u) = subst (λ (n : ℕ). AddsCall key slot act (token_part t) (part_by n (cell_view u))) (sym same) made in
    let was : tokens_part tokens slot ≡ token_part t = map_at token_part token_part tokens slot t nobody_yet inside is in
    let now : tokens_part (set tokens slot u) slot ≡ token_part u = set_part tokens slot u inside in
    record {
      here = subst (λ (v : Part). AddsCall key slot act v (tokens_part (set tokens slot u) slot)) (sym was) (subst (AddsCall key slot act (token_part t)) (sym now) adds);
      others = λ i apart. set_part_else tokens slot i u apart;
    }

pub tables_of : (tokens : List Token) (slot : ℕ) (t u : Token) → slot < length tokens → t ≡ get_or tokens slot t → u.table_id ≡ t.table_id → map token_table (set tokens slot u) ≡ map token_table tokens
tables_of tokens slot t u inside is same = map-set_same token_table tokens slot u t (same ∙ ap token_table is)

-- ---- A new seat's tokens, one by one

pub past : {A : Type 0} (xs : List A) (k : ℕ) (d : A) → length xs ≤ k → get_or xs k d ≡ d
past [] k d h = refl
past (x ∷ xs) zero d h = absurd (omega arith)
past (x ∷ xs) (suc k) d h = past xs k d (omega arith)

pub All-push : {A : Type 0} (P : A → Type 0) (xs : List A) (x : A) → All P xs → P x → All P (xs ++ x ∷ [])
All-push {A} P xs x all is = All-append P xs (x ∷ []) all (alone P x is)
  where
    alone : (Q : A → Type 0) (y : A) → Q y → (k : ℕ) (d : A) → k < length (y ∷ []) → Q (get_or (y ∷ []) k d)
    alone Q y here zero d less = here
    alone Q y here (suc k) d less = absurd (omega arith)

tables_more : {A : Type 0} (cell : A → TableId) (cells : List A) (i : ℕ) (a : A) (tokens : List Token) (t : Token) → i < length cells → a ≡ get_or cells i a
    → map token_table tokens ≡ take i (map cell cells) → t.table_id ≡ cell a → map token_table (tokens ++ t ∷ []) ≡ take (i + 1) (map cell cells)
tables_more cell cells i a tokens t inside is so_far here =
    let long = length-map cells cell in
    let at = map_at cell cell cells i a (cell a) inside is in
    map-append token_table tokens (t ∷ []) ∙ (ap (λ l. l ++ t.table_id ∷ []) so_far ∙ (ap (λ (z : TableId). take i (map cell cells) ++ z ∷ []) (here ∙ sym at) ∙ sym (take_more (map cell cells) i (cell a) (omega arith))))

-- one token more, `now` being the tokens with it
pub fresh_more : {A : Type 0} (cell : A → TableId) (cells : List A) (i : ℕ) (a : A) (tokens now : List Token) (t : Token) → i < length cells → a ≡ get_or cells i a → now ≡ tokens ++ t ∷ []
    → Fresh (take i (map cell cells)) tokens → t.table_id ≡ cell a → IsSeated t → IsFresh (token_part t) → Fresh (take (i + 1) (map cell cells)) now
fresh_more cell cells i a tokens now t inside is now_is old here sits new = subst (Fresh (take (i + 1) (map cell cells))) (sym now_is) record {
  line = tables_more cell cells i a tokens t inside is old.line here;
  seated = All-push IsSeated tokens t old.seated sits;
  new = subst (All IsFresh) (sym (map-append token_part tokens (t ∷ []))) (All-push IsFresh (map token_part tokens) (token_part t) old.new new);
}

-- ---- The tokens of one seat that are told those of another, one by one

-- of the slots below i it is done
pub record Telling (i : ℕ) (old others now others_now : List Token) : Type 0 where
  pub line : map token_table now ≡ map token_table old
  pub others_line : map token_table others_now ≡ map token_table others
  pub seated : All IsSeated now
  pub others_seated : (k : ℕ) (d : Token) → i ≤ k → k < length others_now → IsSeated (get_or others_now k d)
  pub done : (k : ℕ) → k < i → tokens_part now k ≡ told_part (tokens_part old k) (tokens_part others k)
  pub same : (k : ℕ) → i ≤ k → tokens_part now k ≡ tokens_part old k
  pub others_same : (k : ℕ) → i ≤ k → tokens_part others_now k ≡ tokens_part others k

pub telling_on : (i : ℕ) (old others now others_now : List Token) (t o t' o' : Token) → Telling i old others now others_now → i < length now → i < length others_now
    → t ≡ get_or now i t → o ≡ get_or others_now i o → (t'.table_id ≡ t.table_id) × (t'.id ≡ t.id) → (o'.table_id ≡ o.table_id) × (o'.id ≡ o.id)
    → cell_view t' ≡ told (cell_view t) (cell_view o) → Telling (i + 1) old others (set now i t') (set others_now i o')
telling_on i old others now others_now t o t' o' so_far inside others_inside t_is o_is t_same o_same heard =
    let t_part : tokens_part now i ≡ token_part t = map_at token_part token_part now i t nobody_yet inside t_is in
    let o_part : tokens_part others_now i ≡ token_part o = map_at token_part token_part others_now i o nobody_yet others_inside o_is in
    let sits : IsSeated t = subst IsSeated (sym t_is) (All-get_or IsSeated now i t inside so_far.seated) in
    let new : token_part t' ≡ told_part (token_part t) (token_part o) = λ j. part_by (t_same.1 j) (heard j) in
    record {
      line = map-set_same token_table now i t' t (t_same.0 ∙ ap token_table t_is) ∙ so_far.line;
      others_line = map-set_same token_table others_now i o' o (o_same.0 ∙ ap token_table o_is) ∙ so_far.others_line;
      seated = All-from_get_or IsSeated (set now i t') t (λ k less. let long = length-set now i t' in dite (ℕ_discrete k i)
          (λ here. subst (λ (n : ℕ). IsSeated (get_or (set now i t') n t)) (sym here) (subst IsSeated (sym (get_or-set_same now i t' t inside)) (ap (λ (v : View). v.seated) heard ∙ sits)))
          (λ apart. subst IsSeated (sym (get_or-set_other now i k t' t apart)) (All-get_or IsSeated now k t (omega arith) so_far.seated)));
      others_seated = λ k d from less. let long = length-set others_now i o' in
          subst IsSeated (sym (get_or-set_other others_now i k o' d (λ e. omega arith))) (so_far.others_seated k d (omega arith) (omega arith));
      done = λ k less. dite (ℕ_discrete k i)
          (λ here. subst (λ (n : ℕ). tokens_part (set now i t') n ≡ told_part (tokens_part old n) (tokens_part others n)) (sym here)
          (set_part now i t' inside ∙ (new ∙ (λ j. told_part ((sym t_part ∙ so_far.same i (omega arith)) j) ((sym o_part ∙ so_far.others_same i (omega arith)) j)))))
          (λ apart. set_part_else now i k t' apart ∙ so_far.done k (omega arith));
      same = λ k from. set_part_else now i k t' (λ e. omega arith) ∙ so_far.same k (omega arith);
      others_same = λ k from. set_part_else others_now i k o' (λ e. omega arith) ∙ so_far.others_same k (omega arith);
    }
