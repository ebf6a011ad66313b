-- What a test or a search yields: whether there is such a thing, and that this is the only one.
use Rattle.std.specs.Prelude.{◌≡◌, ◌↔◌, Bool, IsTrue, List, Option, Some}
use Rattle.certificates.specs.declared.claim.Claim.{Claim}

-- if yes, these claims and no others are such; and if no, none are
abbrev pub YieldsOnly : (List Claim → Type 0) → Bool → List Claim → Type 0
YieldsOnly Makes answer claims = (other : List Claim) → Makes other ↔ (IsTrue answer × (other ≡ claims))

-- what is found is such with these claims, and nothing else is with any
abbrev pub FindsOnly : {X : Type 0} → (X → List Claim → Type 0) → Option X → List Claim → Type 0
FindsOnly {X} Makes found claims = (x : X) (other : List Claim) → Makes x other ↔ ((found ≡ Some x) × (other ≡ claims))
