-- An input that is read, and what its end or its first fault tells.
use Rattle.std.proofs.Common.{◌≡◌, ℕ, List, [], ◌∷◌, ◌++◌, Option, None, Some, IfSome, true, Result, Ok, Err, IfOk, IfErr, IsErr, IsErrAnd, refl, sym, ap, ◌∙◌, subst, append_assoc, ◌<◌, length}
use Rattle.std.specs.Prelude.{⊤}
use Rattle.verifying.proofs.Common.{append-nil, Consumes, PlainBoard, Goal, Answer, IsAnswer, IsUpTo, OfInput, HasNoFeed, left_of, BeginsLong, ReadsText, Checker, Fault, NoMemory, ReadFailed, TellsOf, fault_of_input, IsCertificate, IsRefusedWith, HasTakenText, TakesMore, RefusesMore, IsProvedBy, then_so, any_input, AnswerFault, NumberedFault, TooLong}
use Rattle.std.proofs.KnownBytes.{Consumes-trans}
use Rattle.certificates.proofs.Certified.{certified}
use Rattle.input_lines.specs.declared.lines.Unread.{Unread}
use Rattle.devices.specs.declared.transfer.InputFault.{InputFault}
use Rattle.devices.specs.declared.transfer.InputFault.TheVariants as input
use Rattle.verifying.proofs.Refused.{line_long, certificate_begins}
use Rattle.verifying.proofs.Sound.{certificate_certifies}

-- a text is gone from the front of the input, and the checker has taken it
abbrev pub HasReadOf : {A : Type 0} → Goal → PlainBoard → Option (List ℕ) → Option (List ℕ) → Checker A → Type 0
HasReadOf goal b first now checker = (text : List ℕ) × Consumes first now text × HasTakenText goal b checker text

pub none_gone : (u : Unread) (known : Option (List ℕ)) → u.from ≡ 0 → u.to ≡ 0 → Consumes known (left_of u known) []
none_gone u None from to = tt
none_gone u (Some xs) from to = rw to (rw from refl)

pub more_gone : {A : Type 0} (goal : Goal) (b : PlainBoard) (first now after : Option (List ℕ)) (old new : Checker A) (more : List ℕ) → TakesMore old new more → Consumes now after more → HasReadOf goal b first now old → HasReadOf goal b first after new
more_gone goal b first now after old new more takes next (text, gone, taken) = (text ++ more, Consumes-trans first now after text more gone next, takes goal b text taken)

-- behind bytes that are gone the rest of the input is so
of_gone : (first now : Option (List ℕ)) (bytes : List ℕ) (Q P : List ℕ → Type 0) → Consumes first now bytes → OfInput now Q → ((rest : List ℕ) → Q rest → P (bytes ++ rest)) → OfInput first P
of_gone None now bytes Q P gone (rest, known, holds) so = (bytes ++ rest, tt, so rest holds)
of_gone (Some xs) None bytes Q P gone left so = absurd gone
of_gone (Some xs) (Some ys) bytes Q P gone (rest, known, holds) so = (xs, refl, subst P (sym (gone ∙ ap (λ (l : List ℕ). bytes ++ l) known)) (so rest holds))

-- the rest is all that is left
end_of : (first now : Option (List ℕ)) (bytes rest : List ℕ) (P : List ℕ → Type 0) → Consumes first now bytes → IfSome now (λ told. told ≡ rest) → P (bytes ++ rest) → OfInput first P
end_of first now bytes rest P gone left so = of_gone first now bytes (λ told. told ≡ rest) P gone (known now left) (λ told is. subst (λ (l : List ℕ). P (bytes ++ l)) (sym is) so)
  where
    known : (o : Option (List ℕ)) → IfSome o (λ told. told ≡ rest) → OfInput o (λ told. told ≡ rest)
    known None left = (rest, tt, refl)
    known (Some ys) left = (ys, refl, left)

-- ---- the end

pub ended_certified : {A : Type 0} (goal : Goal) (b : PlainBoard) (first now : Option (List ℕ)) (checker : Checker A) (rest : List ℕ) (r : Result Answer Fault) → IfOk r (IsProvedBy checker) → IfOk r (λ answer. rest ≡ []) → IfSome now (λ told. told ≡ rest) → HasReadOf goal b first now checker
    → IfOk r (λ answer. OfInput first (IsCertificate goal b answer))
ended_certified goal b first now checker rest (Err fault) proves nothing left read = tt
ended_certified goal b first now checker rest (Ok answer) proves nothing left (text, gone, taken) =
    end_of first now text rest (IsCertificate goal b answer) gone left
    (subst (λ (l : List ℕ). IsCertificate goal b answer l) (sym (ap (λ (l : List ℕ). text ++ l) nothing ∙ append-nil text)) (proves goal b text taken).0)

pub ended_answered : (goal : Goal) (b : PlainBoard) (first : Option (List ℕ)) (r : Result Answer Fault) → IfOk r (λ answer. OfInput first (IsCertificate goal b answer)) → IfOk r (λ answer. (limit : ℕ) → IsUpTo limit answer → IsAnswer goal b limit answer)
ended_answered goal b first (Err fault) certificate = tt
ended_answered goal b first (Ok answer) (text, is, certificate) = λ limit within. certified goal b limit answer (certificate_certifies goal b answer text certificate) within

-- what is so where the reading ends: a fault of the text is told of it, and it is no certificate
abbrev pub IsRefusal : Goal → PlainBoard → Option (List ℕ) → Result Answer Fault → Type 0
IsRefusal goal b first r = IfErr r (λ fault. (fault ≡ NoMemory → ⊥) → (fault ≡ ReadFailed → ⊥) → OfInput first (IsRefusedWith goal b fault))

pub ended_refused : {A : Type 0} (goal : Goal) (b : PlainBoard) (first now : Option (List ℕ)) (checker : Checker A) (rest : List ℕ) (r : Result Answer Fault) → IfErr r (λ fault. (fault ≡ NoMemory → ⊥) → HasNoFeed rest → RefusesMore checker rest fault) → HasNoFeed rest → IfSome now (λ told. told ≡ rest) → HasReadOf goal b first now checker → IsRefusal goal b first r
ended_refused goal b first now checker rest (Ok answer) refuses none left read = tt
ended_refused goal b first now checker rest (Err fault) refuses none left (text, gone, taken) = λ memory device.
    end_of first now text rest (IsRefusedWith goal b fault) gone left (refuses memory none goal b text taken)

-- ---- a line

pub line_refused : {A : Type 0} (goal : Goal) (b : PlainBoard) (first now after : Option (List ℕ)) (checker : Checker A) (line : List ℕ) (fault : Fault) (r : Result Answer Fault) → ((fault ≡ NoMemory → ⊥) → HasNoFeed line → (rest : List ℕ) → RefusesMore checker (line ++ 10 ∷ rest) fault)
    → ReadsText now after line true → HasReadOf goal b first now checker → IsErr r × IsErrAnd r (λ f. f ≡ fault) → IsRefusal goal b first r
line_refused goal b first now after checker line fault (Ok answer) refuses next read err = tt
line_refused goal b first now after checker line fault (Err f) refuses (none, next) (text, gone, taken) err = λ memory device.
    let more = line ++ 10 ∷ [] in
    subst (λ (x : Fault). OfInput first (IsRefusedWith goal b x)) (sym err.1)
    (of_gone first after (text ++ more) (λ rest. ⊤) (IsRefusedWith goal b fault) (Consumes-trans first now after text more gone next) (any_input after (λ rest. ⊤) (λ rest. tt)) (λ rest all.
    let same : (text ++ (line ++ 10 ∷ [])) ++ rest ≡ text ++ (line ++ 10 ∷ rest) = append_assoc text (line ++ 10 ∷ []) rest ∙ ap (λ (l : List ℕ). text ++ l) (append_assoc line (10 ∷ []) rest) in
    subst (λ (l : List ℕ). IsRefusedWith goal b fault l) (sym same) (refuses (λ e. memory (err.1 ∙ e)) none rest goal b text taken)))

pub unread_refused : {A : Type 0} (goal : Goal) (b : PlainBoard) (first now : Option (List ℕ)) (checker : Checker A) (e : InputFault) (r : Result Answer Fault) → (e ≡ input.TooLong → BeginsLong 8192 now) → HasReadOf goal b first now checker → IsErr r × IsErrAnd r (λ f. f ≡ fault_of_input e) → IsRefusal goal b first r
unread_refused goal b first now checker e (Ok answer) long read err = tt
unread_refused goal b first now checker input.ReadFailed (Err f) long read err = λ memory device. absurd (device err.1)
unread_refused goal b first now checker input.TooLong (Err f) long (text, gone, taken) err = λ memory device.
    of_gone first now text (λ input. (line : List ℕ) × (rest : List ℕ) × HasNoFeed line × (8192 < length line) × (input ≡ line ++ rest)) (IsRefusedWith goal b f) gone (long refl) (λ input (line, rest, none, more, same).
    subst (λ (l : List ℕ). IsRefusedWith goal b f (text ++ l)) (sym same) (line_long checker line rest f err.1 more none goal b text taken))
unread_refused goal b first now checker input.NoMemory (Err f) long read err = λ memory device. absurd (memory err.1)

-- ---- what is told

-- a fault that isn't of the text tells nothing of it
fault_of_text : (goal : Goal) (first : Option (List ℕ)) (fault : Fault) → ((fault ≡ NoMemory → ⊥) → (fault ≡ ReadFailed → ⊥) → OfInput first (λ input. TellsOf goal input (Err fault))) → OfInput first (λ input. TellsOf goal input (Err fault))
fault_of_text goal first AnswerFault told = told (λ e. cc) (λ e. cc)
fault_of_text goal first (NumberedFault number) told = told (λ e. cc) (λ e. cc)
fault_of_text goal first TooLong told = told (λ e. cc) (λ e. cc)
fault_of_text goal first NoMemory told = any_input first (λ input. TellsOf goal input (Err NoMemory)) (λ input. tt)
fault_of_text goal first ReadFailed told = any_input first (λ input. TellsOf goal input (Err ReadFailed)) (λ input. tt)

pub ended_told : (goal : Goal) (b : PlainBoard) (first : Option (List ℕ)) (r : Result Answer Fault) → IfOk r (λ answer. OfInput first (IsCertificate goal b answer)) → IsRefusal goal b first r → OfInput first (λ input. TellsOf goal input r)
ended_told goal b first (Ok answer) certificate refused = then_so first (IsCertificate goal b answer) (λ input. TellsOf goal input (Ok answer)) certificate (λ text is. certificate_begins goal b answer text is)
ended_told goal b first (Err fault) certificate refused =
    fault_of_text goal first fault (λ memory device. then_so first (IsRefusedWith goal b fault) (λ input. TellsOf goal input (Err fault)) (refused memory device) (λ input told. told.0))

-- of an input that is known
pub err_of_known : {E : Type 0} (xs : List ℕ) (P Q : E → Type 0) (R : E → List ℕ → Type 0) (known : Option (List ℕ)) (r : Result Answer E) → known ≡ Some xs → IfErr r (λ e. P e → Q e → OfInput known (R e)) → IfErr r (λ e. P e → Q e → R e xs)
err_of_known xs P Q R known (Ok told) is none = tt
err_of_known xs P Q R known (Err e) is none = λ p q.
    let (input, same, holds) = subst (λ (o : Option (List ℕ)). OfInput o (R e)) is (none p q) in
    subst (R e) (sym same) holds
