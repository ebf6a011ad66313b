-- Texts that are appended one behind the other.
use Rattle.std.proofs.Common.{◌≡◌, ℕ, List, [], ◌∷◌, ◌++◌, Option, None, Some, Result, OnOk, IfSome, ap, sym, subst, ◌∙◌, append_assoc, append-nil}
use Rattle.std.proofs.lemmas.Result.{on_ok_weaker}
use Rattle.std.specs.Io.KnownBytes.{Appends}
use Rattle.refusals.specs.Sentences.{AppendsLine, AppendsText, AppendsSentence, AppendsSentenceLine, beginning_of, line_behind, sentence_of}
use Rattle.refusals.specs.declared.advice.Asking.{Asking}
use Rattle.refusals.specs.declared.refusal.Refusal.{Refusal}

-- two texts, one behind the other, are one
pub text_then : (u v w : Option (List ℕ)) → AppendsText u v → AppendsText v w → AppendsText u w
text_then None v w h k = record { text = []; appended = tt }
text_then (Some xs) None w h k = absurd h.appended
text_then (Some xs) (Some ys) None h k = absurd k.appended
text_then (Some xs) (Some ys) (Some zs) h k = record {
  text = h.text ++ k.text;
  appended = k.appended ∙ ap (λ (t : List ℕ). t ++ k.text) h.appended ∙ append_assoc xs h.text k.text;
}

-- known bytes that grow by a text
pub text_of : (u v : Option (List ℕ)) (a : List ℕ) → Appends u v a → AppendsText u v
text_of u v a h = record { text = a; appended = h }

-- the same where a result is `Ok`
pub ok_text : {T E : Type 0} (r : Result T E) (u v : Option (List ℕ)) (a : List ℕ) → OnOk r (Appends u v a) → OnOk r (AppendsText u v)
ok_text r u v a h = on_ok_weaker r (λ (t : Appends u v a). text_of u v a t) h

-- a text, and then one where a result is `Ok`
pub ok_then : {T E : Type 0} (r : Result T E) (u v w : Option (List ℕ)) → AppendsText u v → OnOk r (AppendsText v w) → OnOk r (AppendsText u w)
ok_then r u v w h k = on_ok_weaker r (λ (t : AppendsText v w). text_then u v w h t) k

-- known bytes that stay as they are
pub text_none : (u : Option (List ℕ)) → AppendsText u u
text_none None = record { text = []; appended = tt }
text_none (Some xs) = record { text = []; appended = sym (append-nil xs) }

-- what a line begins with, a sentence and a line feed
line_of : (u v w x : Option (List ℕ)) (a b : List ℕ) → Appends u v a → Appends v w b → Appends w x (10 ∷ []) → Appends u x (line_behind a b)
line_of None v w x a b h k l = tt
line_of (Some p) None w x a b h k l = absurd h
line_of (Some p) (Some q) None x a b h k l = absurd k
line_of (Some p) (Some q) (Some r) None a b h k l = absurd l
line_of (Some p) (Some q) (Some r) (Some s) a b h k l = rw (l, k, h) (simp append_assoc)

pub line_then : {T E : Type 0} (r : Result T E) (a : List ℕ) (u v w x : Option (List ℕ)) → Appends u v a → AppendsText v w → OnOk r (Appends w x (10 ∷ [])) → OnOk r (AppendsLine a u x)
line_then r a u v w x h k l =
    on_ok_weaker r (λ (m : Appends w x (10 ∷ [])). record { sentence = k.text; appended = line_of u v w x a k.text h k.appended m }) l

some_line : (o : Option (List ℕ)) (u v w x : Option (List ℕ)) (a : List ℕ) → Appends u v a → IfSome o (Appends v w) → Appends w x (10 ∷ []) → IfSome o (λ b. Appends u x (line_behind a b))
some_line None u v w x a h k l = tt
some_line (Some b) u v w x a h k l = line_of u v w x a b h k l

pub sentence_line_then : {T E : Type 0} (r : Result T E) (refusal : Refusal) (asking : Asking) (u v w x : Option (List ℕ)) → Appends u v (beginning_of asking) → AppendsSentence refusal asking v w → OnOk r (Appends w x (10 ∷ [])) → OnOk r (AppendsSentenceLine refusal asking u x)
sentence_line_then r refusal asking u v w x h k l =
    on_ok_weaker r (λ (m : Appends w x (10 ∷ [])). some_line (sentence_of refusal asking) u v w x (beginning_of asking) h k m) l

some_sentence : (o : Option (List ℕ)) (u v : Option (List ℕ)) (a : List ℕ) → IfSome o (λ b. a ≡ b) → Appends u v a → IfSome o (Appends u v)
some_sentence None u v a h k = tt
some_sentence (Some b) u v a h k = subst (Appends u v) h k

-- the sentence that is said is the one that is appended
pub sentence_is : {T E : Type 0} (r : Result T E) (refusal : Refusal) (asking : Asking) (u v : Option (List ℕ)) (a : List ℕ) → IfSome (sentence_of refusal asking) (λ b. a ≡ b) → OnOk r (Appends u v a) → OnOk r (AppendsSentence refusal asking u v)
sentence_is r refusal asking u v a h k = on_ok_weaker r (λ (m : Appends u v a). some_sentence (sentence_of refusal asking) u v a h m) k

pub ruleset telling = (text_then, text_of, text_none, ok_text, ok_then, line_then, sentence_line_then, sentence_is)
