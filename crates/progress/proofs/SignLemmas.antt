-- What a sign of life tells.
use Rattle.std.proofs.Common.{◌≡◌, ℕ, Result, Ok, Err, IfOk, IfSome, String, string_bytes}
use Rattle.std.specs.Result.{result_ok}
use Rattle.std.specs.declared.alloc.Global.{Global}
use Rattle.progress.specs.Text.{drawn_text, sign_text}
use Rattle.progress.specs.declared.sign.Sign.{Sign}
use Rattle.progress.specs.Signs.{IsSignOf}
use Rattle.progress.specs.declared.watch.Watch.{Watch}

-- a text that was drawn is that of the sign
pub sign_drawn : {E : Type 0} (watch : Watch) (time job known none : ℕ) (sign : Sign) (r : Result (String Global) E) → IsSignOf watch time job known none sign
    → IfOk r (λ text. string_bytes text ≡ drawn_text (sign_text sign))
    → IfSome (result_ok r) (λ text. (s : Sign) × IsSignOf watch time job known none s × (string_bytes text ≡ drawn_text (sign_text s)))
sign_drawn watch time job known none sign (Ok text) is drawn = (sign, is, drawn)
sign_drawn watch time job known none sign (Err why) is drawn = tt
