-- The keys so far are listed.
use Rattle.std.proofs.Common.{◌≡◌, ◌++◌, codes, string_bytes, take}
use Rattle.std.specs.List.{flat_map}
use Rattle.batch_texts.specs.Forms.{key_item}
use Rattle.batch_texts.proofs.forms.keys_listed.Given as goal

abbrev pub invariant-loop-key : goal.invariant-loop-key
invariant-loop-key l = string_bytes l.text ≡ string_bytes l.initial.text ++ flat_map (λ key. codes "," ++ key_item key) (take l.key-index l.rest)
