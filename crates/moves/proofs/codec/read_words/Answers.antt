use Rattle.moves.proofs.Common.{◌≡◌, ◌<◌, ◌∙◌, ℕ, List, Option, Some, None, sym, ap, subst, arith, IfSome, IfNone, Game, Side, Man, squares_of, PlainBoard, board_of, IsPosition, man_of, code_on, Spells}
use Rattle.moves.proofs.Packing.{IsRead, IsRead-start, IsRead-more, IsRead-whole, within_36}
use Rattle.moves.proofs.codec.read_words.Goals as goal

pub loop-number-init : goal.loop-number-init
loop-number-init c = IsRead-start c.args.game c.args.words.now

pub loop-number-preserved : goal.loop-number-preserved
loop-number-preserved c =
    let within : c.loop-number.number < squares_of c.args.game = subst (λ n. c.loop-number.number < n) c.squares-number-end.ensures c.loop-number-test.true in
    let stands = c.unit_of.ensures ∙ ap man_of (c.code_on-code.ensures.value ∙ ap (code_on c.args.game c.args.words.now) c.of_number.ensures.number) in
    IsRead-more c.args.game c.args.words.now c.loop-number.units c.loop-number.number c.unit_of.result (within_36 c.args.game c.loop-number.number within) stands c.loop-number.invariant

all_read : (c : goal.After-of) → IsRead c.args.game c.args.words.now c.loop-number.units (squares_of c.args.game)
all_read c =
    let at_end : c.loop-number.number ≡ squares_of c.args.game = let end = c.squares-number-end.ensures in omega arith in
    subst (IsRead c.args.game c.args.words.now c.loop-number.units) at_end c.loop-number.invariant

refused : (o : Option PlainBoard) (g : Game) (mover : Side) (words : List ℕ) (units : List (Option Man)) → IsRead g words units (squares_of g) → IfNone o (IsPosition (board_of g mover units) → ⊥) → IfNone o ((b : PlainBoard) → IsPosition b → b.game ≡ g → b.mover ≡ mover → Spells b words → ⊥)
refused None g mover words units read no_position = λ b is game side s.
    let at = IsRead-whole b words units is s (subst (λ x. IsRead x words units (squares_of x)) (sym game) read) in
    let whole : b ≡ board_of g mover units = λ i. record { game = game i; mover = side i; units = sym at i } in
    no_position (subst IsPosition whole is)
refused (Some p) g mover words units read none = tt

made : (o : Option PlainBoard) (g : Game) (mover : Side) (words : List ℕ) (units : List (Option Man)) → IsRead g words units (squares_of g) → IfSome o (λ p. p ≡ board_of g mover units) → IfSome o (λ b. (b.game ≡ g) × (b.mover ≡ mover) × Spells b words)
made None g mover words units read e = tt
made (Some p) g mover words units read e = (ap (λ (b : PlainBoard). b.game) e, ap (λ (b : PlainBoard). b.mover) e, subst (λ (b : PlainBoard). Spells b words) (sym e) read.below)

pub returns-clause-refused : goal.returns-clause-refused
returns-clause-refused c = refused c.of.result c.args.game c.args.mover c.args.words.now c.loop-number.units (all_read c) c.of.ensures.refused

pub returns-clause-made : goal.returns-clause-made
returns-clause-made c = made c.of.result c.args.game c.args.mover c.args.words.now c.loop-number.units (all_read c) c.of.ensures.made
