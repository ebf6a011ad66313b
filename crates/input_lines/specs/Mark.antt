-- The byte order mark at the beginning of an input: the bytes EF BB BF.
use Rattle.std.specs.Prelude.{◌≡◌, ◌==◌, ◌&&◌, ℕ, Bool, true, false, List, [], ◌∷◌, Option, Some, IfSome, drop, if◌then◌else◌}

-- the bytes begin with a mark
abbrev pub has_mark : List ℕ → Bool
has_mark (x ∷ (y ∷ (z ∷ rest))) = x == 239 && (y == 187 && z == 191)
has_mark bytes = false

-- the bytes behind the mark; all of them where they begin with none
abbrev pub without_mark : List ℕ → List ℕ
without_mark bytes = if has_mark bytes then drop 3 bytes else bytes

-- the bytes are the first of a mark, or none, but no whole mark
abbrev pub begins_mark : List ℕ → Bool
begins_mark [] = true
begins_mark (x ∷ []) = x == 239
begins_mark (x ∷ (y ∷ [])) = x == 239 && y == 187
begins_mark bytes = false

-- of what was left, the mark alone is gone, if there was one
abbrev pub SkipsMark : Option (List ℕ) → Option (List ℕ) → Type 0
SkipsMark before after = IfSome before (λ bytes. after ≡ Some (without_mark bytes))
