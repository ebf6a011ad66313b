use Rattle.std.proofs.Common.{◌≡◌, ℕ, List, Option, Some, None, IfNone, IsSome, refl, sym, ◌∙◌}
use Rattle.verifying.proofs.Common.{Game, Side, PlainBoard, IsPosition, Spells, unpacked, units_in-at, within_36, one_spelled}
use Rattle.verifying.proofs.kept.board_of.Goals as goal

-- words spell their board
spelled : (words : List ℕ) → Spells (unpacked words) words
spelled words = λ n h. units_in-at _ words n (within_36 _ n h)

some_read : (o : Option PlainBoard) (b : PlainBoard) (g : Game) (mover : Side) (words : List ℕ) → IfNone o ((x : PlainBoard) → IsPosition x → x.game ≡ g → x.mover ≡ mover → Spells x words → ⊥) → IsPosition b → b.game ≡ g → b.mover ≡ mover → Spells b words → IsSome o
some_read None b g mover words none is game side s = absurd (none b is game side s)
some_read (Some p) b g mover words none is game side s = refl

pub unwrap-position-requires : goal.unwrap-position-requires
unwrap-position-requires c =
    some_read c.read_words.result (unpacked c.args.words.now) c.game_of.result c.mover_of.result c.args.words.now c.read_words.ensures.refused c.requires.position (sym c.game_of.ensures) (sym c.mover_of.ensures) (spelled c.args.words.now)

pub returns : goal.returns
returns c =
    let read = rw c.unwrap-position.ensures at c.read_words.ensures.made in
    let same = one_spelled c.unwrap-position.result (unpacked c.args.words.now) c.args.words.now (rw c.unwrap-position.ensures at c.read_words.ensures.position) c.requires.position read.2 (spelled c.args.words.now) (read.0 ∙ c.game_of.ensures) (read.1 ∙ c.mover_of.ensures) in
    c.of.ensures ∙ same
