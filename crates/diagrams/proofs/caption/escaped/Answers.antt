use Rattle.std.proofs.Common.{◌∙◌, ◌++◌, ap, sym, append_assoc, append-nil, string_bytes, encode_utf8}
use Rattle.std.proofs.lemmas.Grind.{flat_map-append}
use Rattle.std.specs.Str.Iter.{chars_rest}
use Rattle.diagrams.specs.Pictures.{escaped_byte, escaped}
use Rattle.diagrams.proofs.EscapeLemmas.{escaped_none}
use Rattle.diagrams.proofs.caption.escaped.Goals as goal

pub loop-character-preserved : goal.loop-character-preserved
loop-character-preserved c =
    let written = string_bytes c.loop-character.text in
    let bytes = encode_utf8 c.in-Some.character in
    let rest = chars_rest c.next.new.self in
    ap (λ l. l ++ escaped rest) c.in_ok-push_escaped.ensures ∙ append_assoc written (escaped bytes) (escaped rest)
    ∙ ap (λ l. written ++ l) (sym (flat_map-append escaped_byte bytes rest) ∙ ap escaped (sym c.in-Some.ensures.steps.0)) ∙ c.loop-character.invariant

pub returns : goal.returns
returns c =
    let written = string_bytes c.loop-character.text in
    let none = escaped_none (chars_rest c.loop-character.character-iterator) c.in-None.ensures.steps.0.0 in
    sym (append-nil written) ∙ ap (λ l. written ++ l) (sym none) ∙ c.loop-character.invariant
