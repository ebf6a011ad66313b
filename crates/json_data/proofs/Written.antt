-- What is written behind what stands there.
use Rattle.std.proofs.Common.{◌≡◌, List, [], ◌∷◌, ◌++◌, append_assoc, ◌∙◌, ap, Result, Ok, Err}
use Rattle.std.specs.Prelude.{OnOk}
use Rattle.json.specs.Token.{Token}
use Rattle.json.specs.Written.{Written, Writes}
use Rattle.json_data.specs.Data.{Appends}

-- some tokens, and others behind them
pub followed : {a b c : Written} {xs ys : List Token} → Appends a b xs → Appends b c ys → Appends a c (xs ++ ys)
followed {a} {b} {c} {xs} {ys} x y = record {
  before = y.before ∙ x.before;
  tokens = y.tokens ∙ ap (λ ts. ts ++ ys) x.tokens ∙ append_assoc a.tokens xs ys;
}

-- a token
pub wrote : {E : Type 0} {u : Unit {0}} {a b : Written} {t : Token} → Writes {E = E} (Ok u) a b t → Appends a b (t ∷ [])
wrote w = record { before = w.room.0; tokens = w.ok }

-- a token at the end, where there was room for it
pub ended : {E : Type 0} (r : Result (Unit {0}) E) {a b : Written} {t : Token} → Writes r a b t → OnOk r (Appends a b (t ∷ []))
ended (Ok u) w = wrote w
ended (Err e) w = tt

-- and what goes before it
pub begun : {E : Type 0} (r : Result (Unit {0}) E) {a b : Written} {xs : List Token} (c : Written) (ys : List Token) → Appends a b xs → OnOk r (Appends b c ys)
    → OnOk r (Appends a c (xs ++ ys))
begun (Ok u) c ys x y = followed x y
begun (Err e) c ys x y = tt

-- what is written where nothing stood
pub from_nothing : {a b : Written} {ts : List Token} → a.tokens ≡ [] → Appends a b ts → b.tokens ≡ ts
from_nothing {a} {b} {ts} none so = so.tokens ∙ ap (λ l. l ++ ts) none
