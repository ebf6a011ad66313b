-- Texts one behind the other.
use Rattle.std.proofs.Common.{false, ◌==◌, codes, ◌≡◌, ℕ, ◌+◌, ◌<◌, List, [], ◌∷◌, ◌++◌, length, take, get_or, append_assoc, add-one, refl, sym, ◌∙◌, ap, subst}
use Rattle.std.proofs.Math.Seq.{take-suc}
use Rattle.solution_text.proofs.Common.{append-nil, PlainBoard, Notation, Variation, passed, AreTexts, IsVariationText, IsSetPlayText}

-- one more text behind the others
pub AreTexts-push : {X : Type 0} (P : X → List ℕ → Type 0) (xs : List X) (x : X) (text one : List ℕ) → AreTexts P xs text → P x one → AreTexts P (xs ++ x ∷ []) (text ++ one)
AreTexts-push P [] x text one all here = (one, [], here, refl, ap (λ t. t ++ one) all ∙ sym (append-nil one))
AreTexts-push P (y ∷ xs) x text one all here =
    let (first, rest, there, behind, is) = all in
    (first, rest ++ one, there, AreTexts-push P xs x rest one behind here, ap (λ t. t ++ one) is ∙ append_assoc first rest one)

-- a loop's step: the text of one more
pub AreTexts-more : {X : Type 0} (P : X → List ℕ → Type 0) (xs : List X) (i : ℕ) (x : X) (text one new : List ℕ) → i < length xs → x ≡ get_or xs i x → AreTexts P (take i xs) text → P x one → new ≡ text ++ one → AreTexts P (take (i + 1) xs) new
AreTexts-more P xs i x text one new below is all here added =
    let more : take (i + 1) xs ≡ take i xs ++ x ∷ [] = ap (λ k. take k xs) (add-one i) ∙ take-suc xs i x below ∙ ap (λ y. take i xs ++ y ∷ []) (sym is) in
    subst (AreTexts P (take (i + 1) xs)) (sym added) (subst (λ ys. AreTexts P ys (text ++ one)) (sym more) (AreTexts-push P (take i xs) x text one all here))

-- the text of set play with variations in it
pub set_play_is : {A : Type 0} (notation : Notation) (b : PlainBoard) (list : List (Variation A)) (lines text : List ℕ) → (length list == 0) ≡ false → AreTexts (IsVariationText notation (passed b)) list lines → text ≡ codes "set play\n" ++ lines → IsSetPlayText notation b list text
set_play_is notation b [] lines text some all is = cc
set_play_is notation b (v ∷ others) lines text some all is = (lines, all, is)
