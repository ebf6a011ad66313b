-- The keys, one after another, each with its play.
use Rattle.std.proofs.Common.{◌≡◌, ℕ, ◌+◌, ◌<◌, ◌≤◌, refl, sym, ap, subst, ◌∙◌, List, [], ◌∷◌, ◌++◌, length, take, get_or, All, map}
use Rattle.solutions.proofs.Common.{map-append, take_all, All-push, All-nil, PlainBoard, Goal, Ply, ListsContinuations, IsKeyPlay, ListsKeyPlays}
use Rattle.solutions.specs.declared.key_play.KeyPlay.{KeyPlay}
use Rattle.solutions.proofs.Lists.{take_more}

abbrev pub keys_of : {A : Type 0} → List (KeyPlay A) → List Ply
keys_of plays = map (λ k. k.first) plays

-- the plays are of exactly these keys
pub record PlaysOver {A : Type 0} (goal : Goal) (b : PlainBoard) (n : ℕ) (keys : List Ply) (plays : List (KeyPlay A)) : Type 0 where
  pub firsts : keys_of plays ≡ keys
  pub each : All (IsKeyPlay goal b n) plays

module _ {A : Type 0} (goal : Goal) (b : PlainBoard) (n : ℕ) (xs : List Ply) where
  pub play_none : (plays : List (KeyPlay A)) → plays ≡ [] → PlaysOver goal b n (take 0 xs) plays
  play_none plays none = subst (PlaysOver goal b n (take 0 xs)) (sym none) (record { firsts = refl; each = All-nil (IsKeyPlay goal b n) })

  pub play_one : (plays more : List (KeyPlay A)) (i : ℕ) (m : Ply) → i < length xs → m ≡ get_or xs i m → PlaysOver goal b n (take i xs) plays
      → (k : KeyPlay A) → more ≡ plays ++ k ∷ [] → k.first ≡ m → IsKeyPlay goal b n k → PlaysOver goal b n (take (i + 1) xs) more
  play_one plays more i m within is so_far k pushed first play = subst (PlaysOver goal b n (take (i + 1) xs)) (sym pushed) (record {
    firsts = map-append (λ (l : KeyPlay A). l.first) plays (k ∷ []) ∙ ap (λ l. l ++ k.first ∷ []) so_far.firsts ∙ ap (λ l. take i xs ++ l ∷ []) first ∙ sym (take_more xs i m within is);
    each = All-push (IsKeyPlay goal b n) plays k so_far.each play;
  })

  pub play_all : (plays : List (KeyPlay A)) (i : ℕ) → length xs ≤ i → ListsContinuations goal b n xs → PlaysOver goal b n (take i xs) plays → ListsKeyPlays goal b n plays
  play_all plays i all lists so_far = record {
    firsts = subst (ListsContinuations goal b n) (sym (so_far.firsts ∙ take_all i xs all)) lists;
    each = so_far.each;
  }
