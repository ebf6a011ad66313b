-- The keys so far take so many plies.
use Rattle.std.proofs.Common.{◌≡◌, All, take}
use Rattle.batch_texts.proofs.asking.all_take.Given as goal

abbrev pub invariant-loop-key : goal.invariant-loop-key
invariant-loop-key l = All (λ key. key.plies ≡ l.plies) (take l.key-index l.keys)
