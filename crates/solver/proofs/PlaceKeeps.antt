-- Each step keeps the rule of the word that tells a place.
use Rattle.std.proofs.Common.{◌≡◌, ℕ, [], ◌∷◌, get_or, set, sym, refl, ap, subst, arith}
use Rattle.atomic_table.specs.Table.{State, Me, keeps, Allows, Enters, opening}
use Rattle.solver.specs.declared.place_word.PlaceView.{PlaceView}
use Rattle.solver.specs.Placing.{IsPlace, word_place}
use Rattle.solver.specs.PlaceRule.{place_view, PlaceHolds, place_seen, place_written}

-- at the start nothing is searched
pub begins : PlaceHolds (opening (0 ∷ []) [] (place_view (word_place 0) (word_place 0)))
begins = record { word = 0; alone = refl; right = record { plies = omega arith; moves = omega arith; tried = omega arith } }

-- the word that a step finds
found : (s : State (Unit {0}) PlaceView) (r : PlaceHolds s) → r.word ≡ get_or s.words 0 0
found s r = sym (ap (λ ws. get_or ws 0 0) r.alone)

pub looks_allowed : (slots : ℕ) → Enters PlaceHolds slots 0 (λ n w. place_seen (place_view (word_place 0) (word_place 0), []) n (w, []))
looks_allowed slots s r _ _ =
    let n : ℕ = get_or s.words 0 0 in
    (place_view (word_place n) (word_place n), record { word = r.word; alone = r.alone; right = r.right }, ((refl, subst (λ (m : ℕ). IsPlace (word_place m)) (found s r) r.right), refl))

pub tells_allowed : (slots id : ℕ) (me : Me (Unit {0}) PlaceView) (n : ℕ) → IsPlace (word_place n) → Allows PlaceHolds slots id me 0 (λ _. n) (λ _. place_written n me)
tells_allowed slots id me n right s r _ _ _ =
    (place_view me.0.found (word_place n), keeps, tt, record { word = n; alone = ap (λ ws. set ws 0 n) r.alone; right = right }, (refl, refl))
