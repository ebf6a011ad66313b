-- A seat that is taken and comes back.
use Rattle.std.proofs.Common.{◌≡◌, ℕ, ◌<◌, ◌≤◌, List, [], ◌∷◌, ◌++◌, length, Some, sym, ap, ◌∙◌, subst}
use Rattle.std.proofs.lemmas.List.{length_push}
use Rattle.std.proofs.lemmas.List.Elements.{All-pop, All-push, All-same}
use Rattle.atomic_table.specs.Seated.{TableId}
use Rattle.atomic_table.specs.declared.shared.Seat.{Seat}
use Rattle.slots.specs.declared.views.View.{View}
use Rattle.slots.specs.Promise.{IsSeatOf}
use Rattle.searcher.specs.Tables.{AreCallers}

-- the last seat is taken, and one of the same table comes back
pub callers_back : (t : TableId) (before during after : List (Seat ℕ View)) (own back : Seat ℕ View) → before ≡ during ++ own ∷ [] → after ≡ during ++ back ∷ []
    → AreCallers t before → IsSeatOf t back → AreCallers t after
callers_back t before during after own back taken given callers seat =
    let same : length after ≡ length before = ap length given ∙ length_push during back ∙ sym (ap length taken ∙ length_push during own) in (
      subst (λ n. 0 < n) (sym same) callers.0,
      subst (λ n. n ≤ 17) (sym same) callers.1,
      All-same (IsSeatOf t) after (during ++ back ∷ []) given (All-push (IsSeatOf t) during back (All-pop (IsSeatOf t) before during (Some own) taken callers.2).0 seat),
    )
