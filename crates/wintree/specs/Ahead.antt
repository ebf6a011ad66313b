-- What the reader has read, and what may stand ahead. Only the reader's own contracts cite this.
use Rattle.std.specs.Prelude.{◌≡◌, ◌≢◌, ◌⊎◌, ◌↔◌, ℕ, zero, suc, ◌+◌, ◌<◌, ◌≤◌, List, [], ◌∷◌, ◌++◌, length, take, count_by, ◌==◌, slice_get, Option, Some, None, if◌then◌else◌, All}
use Rattle.board.specs.declared.game.Kind.{Kind}
use Rattle.board.specs.declared.game.Kind.TheVariants.{Queen, Rook, Bishop, Knight}
use Rattle.rules.specs.Squares.{Ply}
use Rattle.rules.specs.Moves.{IsPly}
use Rattle.rules.specs.MoveText.{move_text, promotion_text}
use Rattle.wintree.specs.Plan.{Plan, Replies, depth, IsPlan, ArePlans, ArePlansIn}
use Rattle.wintree.specs.Text.{text, replies_text}
use Rattle.wintree.specs.Offset.{IsText}
use Rattle.wintree.specs.declared.fault.TreeFault.{TreeFault}
use Rattle.wintree.specs.declared.fault.TreeFault.TheVariants.{Grammar, Deep, NoMemory}

-- what may follow a tree inside so many open braces
abbrev pub AfterTree : ℕ → List ℕ → Type 0
AfterTree zero x = x ≡ []
AfterTree (suc inside) x =
    ((y : List ℕ) × (x ≡ 125 ∷ y) × AfterTree inside y)
    ⊎ ((replies : Replies) × (y : List ℕ) × (x ≡ 44 ∷ (replies_text replies ++ 125 ∷ y)) × AfterTree inside y × ArePlans replies)

-- a tree inside so many open braces, and what may follow it
abbrev pub IsTreeAhead : ℕ → List ℕ → Type 0
IsTreeAhead inside x = (plan : Plan) × (y : List ℕ) × (x ≡ text plan ++ y) × AfterTree inside y × IsPlan plan

-- replies, the innermost of so many open braces closed, and what may follow
abbrev pub AreRepliesAhead : ℕ → List ℕ → Type 0
AreRepliesAhead zero x = ⊥
AreRepliesAhead (suc inside) x = (replies : Replies) × (y : List ℕ) × (x ≡ replies_text replies ++ 125 ∷ y) × AfterTree inside y × ArePlans replies

-- The reader stands at an offset: what was read goes on to a text exactly by what is ahead, leaves so many braces
-- open, and never left 32 open.
pub record Stands (bytes : List ℕ) (at inside : ℕ) (IsAhead : List ℕ → Type 0) : Type 0 where
  pub within : at ≤ length bytes
  pub ahead : (x : List ℕ) → IsText (take at bytes ++ x) ↔ IsAhead x
  pub braces : count_by (λ b. b == 123) (take at bytes) ≡ count_by (λ b. b == 125) (take at bytes) + inside
  pub shallow : (k : ℕ) → k ≤ at → count_by (λ b. b == 123) (take k bytes) ≤ count_by (λ b. b == 125) (take k bytes) + 31

-- no braces
abbrev pub IsPlain : List ℕ → Type 0
IsPlain xs = (count_by (λ b. b == 123) xs ≡ 0) × (count_by (λ b. b == 125) xs ≡ 0)

-- from one offset to another stands this text
abbrev pub Spans : List ℕ → ℕ → ℕ → List ℕ → Type 0
Spans bytes at next xs = take next bytes ≡ take at bytes ++ xs

-- from one offset to another stands the plan's text, and the reader stands after it
pub record ReadsTree (bytes : List ℕ) (at inside : ℕ) (plan : Plan) (next : ℕ) : Type 0 where
  pub later : at < next
  pub spans : Spans bytes at next (text plan)
  pub stands : Stands bytes next inside (AfterTree inside)
  pub room : depth plan + inside ≤ 32
  pub is_plan : IsPlan plan

-- each reply, a colon, its tree and a comma
abbrev pub listed_text : List (Ply × Plan) → List ℕ
listed_text [] = []
listed_text (first ∷ others) = move_text first.0 ++ 58 ∷ (text first.1 ++ 44 ∷ listed_text others)

-- a mark, each reply with a colon and its tree, with commas between, and a closing brace
abbrev pub closed_text : ℕ → List (Ply × Plan) → List ℕ
closed_text mark [] = 125 ∷ []
closed_text mark (first ∷ others) = mark ∷ (move_text first.0 ++ 58 ∷ (text first.1 ++ closed_text 44 others))

-- from one offset to another stand the list's replies and a closing brace
pub record ReadsReplies (bytes : List ℕ) (at inside : ℕ) (list : List (Ply × Plan)) (next : ℕ) : Type 0 where
  pub later : at < next
  pub some : 0 < length list
  pub spans : (xs : List ℕ) × Spans bytes at next xs × (closed_text 123 list ≡ 123 ∷ xs)
  pub stands : (outer : ℕ) × (inside ≡ suc outer) × Stands bytes next outer (AfterTree outer)
  pub room : All (λ reply. depth reply.1 + inside ≤ 32) list
  pub plans : ArePlansIn list

-- the kind whose letter it is
abbrev pub promotion_of : Option ℕ → Option Kind
promotion_of None = None
promotion_of (Some b) =
    if b == 113 then Some Queen else (if b == 114 then Some Rook else (if b == 98 then Some Bishop else (if b == 110 then Some Knight else None)))

-- a move and no letter of a promotion after it that isn't its own
pub record ReadsMove (bytes : List ℕ) (at : ℕ) (m : Ply) (next : ℕ) : Type 0 where
  pub later : at < next
  pub within : next ≤ length bytes
  pub spans : Spans bytes at next (move_text m)
  pub ply : IsPly m
  pub whole : promotion_text m.promotion ≡ [] → promotion_of (slice_get bytes next) ≡ None

-- one of six letters or digits from the first
abbrev pub ReadsCell : List ℕ → ℕ → ℕ → ℕ → Type 0
ReadsCell bytes at first n = (n ≤ 5) × (slice_get bytes at ≡ Some (first + n))

-- no such letter or digit stands there, and that is the fault
abbrev pub NoCell : List ℕ → ℕ → ℕ → TreeFault → Type 0
NoCell bytes at first fault = (fault ≡ Grammar at) × ((n : ℕ) → n ≤ 5 → slice_get bytes at ≢ Some (first + n))

-- the first byte, if there is one
abbrev pub next_byte : List ℕ → Option ℕ
next_byte [] = None
next_byte (b ∷ xs) = Some b

-- the bytes go along a move's text from one offset to another, and what stands there goes on no move's text
pub record LeavesMove (bytes : List ℕ) (at g : ℕ) : Type 0 where
  pub later : at ≤ g
  pub within : g ≤ length bytes
  pub part : List ℕ
  pub plain : IsPlain part
  pub spans : Spans bytes at g part
  pub begins : (rest : List ℕ) × (m : Ply) × (part ++ rest ≡ move_text m) × IsPly m
  pub ends : (m : Ply) (x y : List ℕ) → IsPly m → next_byte x ≡ slice_get bytes g → part ++ x ≡ move_text m ++ y → ⊥

-- the fault is where the bytes leave all moves' texts
abbrev pub NoMove : List ℕ → ℕ → TreeFault → Type 0
NoMove bytes at (Grammar g) = LeavesMove bytes at g
NoMove bytes at Deep = ⊥
NoMove bytes at NoMemory = ⊥
