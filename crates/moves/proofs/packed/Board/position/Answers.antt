use Rattle.moves.proofs.Common.{◌≡◌, ℕ, List, Option, Some, None, IfNone, IsSome, refl, sym, subst, ◌∙◌, Game, Side, PlainBoard, IsPosition, Spells, unpacked}
use Rattle.moves.proofs.Packing.{units_in-at, within_36, one_spelled}
use Rattle.moves.proofs.packed.Board.position.Goals as goal

-- a board's own words spell it
spelled : (words : List ℕ) (b : PlainBoard) → unpacked words ≡ b → Spells b words
spelled words b view = subst (λ (x : PlainBoard). Spells x words) view (λ n h. units_in-at _ words n (within_36 _ n h))

some_read : (o : Option PlainBoard) (b : PlainBoard) (g : Game) (mover : Side) (words : List ℕ) → IfNone o ((x : PlainBoard) → IsPosition x → x.game ≡ g → x.mover ≡ mover → Spells x words → ⊥) → IsPosition b → b.game ≡ g → b.mover ≡ mover → Spells b words → IsSome o
some_read None b g mover words none is game side s = absurd (none b is game side s)
some_read (Some p) b g mover words none is game side s = refl

pub unwrap-requires : goal.unwrap-requires
unwrap-requires c = some_read c.read_words.result c.args.self.now c.game.result c.mover.result c.self.inside.words c.read_words.ensures.refused c.game.ensures.position (sym c.game.ensures.value) (sym c.mover.ensures.value) (spelled c.self.inside.words c.args.self.now c.self.view_is)

pub returns : goal.returns
returns c =
    let read = rw c.unwrap.ensures at c.read_words.ensures.made in
    one_spelled c.unwrap.result c.args.self.now c.self.inside.words (rw c.unwrap.ensures at c.read_words.ensures.position) c.game.ensures.position read.2 (spelled c.self.inside.words c.args.self.now c.self.view_is) (read.0 ∙ c.game.ensures.value) (read.1 ∙ c.mover.ensures.value)
