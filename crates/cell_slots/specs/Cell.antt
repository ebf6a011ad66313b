-- A slot as a cell of three words: its rule, and what a step of it tells.
use Rattle.std.specs.Prelude.{◌≡◌, ℕ, List, [], ◌∷◌, map, All, slice_index_or, nat_eq, if◌then◌else◌, true, false}
use lib.Pointwise.{pointwise}
use Rattle.atomic_table.specs.Seated.{TableId}
use Rattle.atomic_table.specs.declared.shared.Seat.{Seat}
use Rattle.crossbeam_utils.specs.declared.atomic.seq_cell.Doing.{Doing}
use Rattle.crossbeam_utils.specs.Seq.{cell_view}
use Rattle.slots.specs.declared.calls.Probe.{Probe}
use Rattle.slots.specs.declared.calls.Probe.TheVariants.{Hit, Vacant, Other}
use Rattle.slots.specs.declared.calls.Store.TheVariants.{Stored}
use Rattle.slots.specs.declared.calls.Act.{Act}
use Rattle.slots.specs.declared.calls.Act.TheVariants.{Asked, Offered}
use Rattle.slots.specs.declared.calls.Call.{Call}
use Rattle.slots.specs.Machine.{standing}
use Rattle.slots.specs.Rule.{words_of, longer}
use Rattle.slots.specs.Steps.{HitFits}
use Rattle.cell_slots.specs.declared.views.View.{View}
use Rattle.cell_slots.specs.OneHistory.{OneHistory}
use Rattle.cell_slots.specs.Table.{Part, AddsCall, nobody_yet}

-- a caller that has seen nothing yet
abbrev pub newcomer : View
newcomer = record { seated = true; seen = []; mine = [] }

-- what is left of a seat that was told to another
abbrev pub spent : View
spent = record { seated = false; seen = []; mine = [] }

-- a caller that has seen as much, and has made no call
abbrev pub hearer : View → View
hearer v = record { seated = v.seated; seen = v.seen; mine = [] }

-- a caller that was told what another had seen
abbrev pub told : View → View → View
told v w = record { seated = v.seated; seen = longer v.seen w.seen; mine = v.mine }

-- a view with its number
abbrev pub part_by : ℕ → View → Part
part_by by v = record { by = by; seen = v.seen; mine = v.mine }

-- a token stands for a caller at one slot
abbrev pub Token : Type 0
Token = Seat (List ℕ) (Doing (List ℕ) View)

-- the table that is the token's cell
abbrev pub token_table : Token → TableId
token_table t = t.table_id

-- what the token's caller knows
abbrev pub token_part : Token → Part
token_part t = part_by t.id (cell_view t)

-- the part of the i-th token
abbrev pub tokens_part : List Token → ℕ → Part
tokens_part tokens i = slice_index_or (map token_part tokens) i nobody_yet

-- the token wasn't spent
abbrev pub IsSeated : Token → Type 0
IsSeated t = (cell_view t).seated ≡ true

-- nothing was seen and no call made
abbrev pub IsFresh : Part → Type 0
IsFresh p = (p.seen ≡ []) × (p.mine ≡ [])

-- these tokens are of the tables named, and of a caller that has made no call
pub record Fresh (tables : List TableId) (tokens : List Token) : Type 0 where
  pub line : map token_table tokens ≡ tables
  pub seated : All IsSeated tokens
  pub new : All IsFresh (map token_part tokens)

-- the rule of a cell: there is one history, and the cell has what it leaves
pub record CellHolds (key : List ℕ → List ℕ) (meets : List ℕ → Type 0) (words : List ℕ) (views : List View) : Type 0 where
  pub calls : List Call
  pub history : OneHistory key meets calls views
  pub left : words ≡ words_of (standing calls)

-- the reply to a probe that finds these words
abbrev pub reply : (List ℕ → List ℕ) → List ℕ → List ℕ → Probe
reply key k x = if pointwise nat_eq x (0 ∷ 0 ∷ 0 ∷ []) then Vacant else (if pointwise nat_eq (key x) k then Hit x else Other)

-- the caller made this one call more
abbrev pub Makes : (List ℕ → List ℕ) → ℕ → ℕ → Act → View → View → Type 0
Makes key slot by act v w = (w.seated ≡ true) × AddsCall key slot act (part_by by v) (part_by by w)

-- the words are read, and the probe is answered by them
abbrev pub Probes : (List ℕ → List ℕ) → (List ℕ → Type 0) → ℕ → ℕ → List ℕ → View → List ℕ → List ℕ → View → Type 0
Probes key meets slot by k v x y w = Makes key slot by (Asked k (reply key k x)) v w × HitFits key meets (Asked k (reply key k x))

-- the words are exchanged, and the store is done
abbrev pub Stores : (List ℕ → List ℕ) → ℕ → ℕ → View → List ℕ → List ℕ → View → Type 0
Stores key slot by v x y w = Makes key slot by (Offered y Stored) v w
