-- The reader's turns: what it has read, and where it stops.
use Rattle.std.proofs.Common.{◌≡◌, ◌≢◌, ◌↔◌, ℕ, zero, suc, ◌+◌, ◌<◌, ◌≤◌, List, [], ◌∷◌, ◌++◌, length, take, refl, sym, ap, ◌∙◌, subst, inl, inr, arith, append_assoc, Some, None, slice_get, count_by, ◌==◌}
use Rattle.wintree.proofs.Common.{slice_get_within, slice_get-get_or, recursion_from_All, AllByRecursion, Ply, IsPly, End, Mate, TreeFault, Grammar, Deep, NoMemory, Plan, ends, depth, deepest_in, plan_of, move_text, text, end_text, IsFaultOf, Stands, Spans, AfterTree, IsTreeAhead, AreRepliesAhead, ReadsTree, ReadsReplies, ReadsMove, NoMove, listed_text, closed_text, next_byte, promotion_of}
use Rattle.wintree.proofs.Lists.{depth-plan_of, plan-plan_of}
use Rattle.wintree.proofs.Tails.{text-plan_of, closed_last, listed_more}
use Rattle.wintree.proofs.Places.{spans_none, spans_more, spans_join}
use Rattle.wintree.proofs.MoveTexts.{plain_move}
use Rattle.wintree.proofs.Texts.{attack_ahead, tree_ahead, reply_ahead, replies_ahead}
use Rattle.wintree.proofs.Standing.{stands_on, stands_along, stops, too_deep, some_after}
use Rattle.wintree.proofs.Turns.{CanFollow, after_attack, after_reply, at_end, at_brace, at_colon, at_comma, at_close, attack_first, after_first}

deepest_room : (list : List (Ply × Plan)) (n : ℕ) → n ≤ 32 → AllByRecursion (λ reply. depth reply.1 + n ≤ 32) list → deepest_in list + n ≤ 32
deepest_room [] n low room = omega arith
deepest_room (first ∷ others) n low room = omega (arith, room.0, deepest_room others n low room.1)

module _ (bytes : List ℕ) where
  is_there : (i : ℕ) → i < length bytes → slice_get bytes i ≢ None
  is_there i before none = let there = slice_get-get_or bytes i 0 before in cc

  -- one byte on
  on_byte : (next inside then opened closed b : ℕ) (A B : List ℕ → Type 0) → Stands bytes next inside A → slice_get bytes next ≡ Some b
      → count_by (λ c. c == 123) (b ∷ []) ≡ opened → count_by (λ c. c == 125) (b ∷ []) ≡ closed → inside + opened ≡ then + closed → inside + opened ≤ 31
      → ((x : List ℕ) → A (b ∷ x) ↔ B x) → Stands bytes (next + 1) then B
  on_byte next inside then opened closed b A B s is o c e low same =
      stands_on bytes next (next + 1) inside then opened closed (b ∷ []) A B s (spans_more bytes next next (next + 1) b [] (spans_none bytes next) is refl) (omega arith) (omega (arith, slice_get_within bytes next b is)) o c e low same

  moved : (at next inside : ℕ) (m : Ply) (A : List ℕ → Type 0) → Stands bytes at inside A → inside < 32 → ReadsMove bytes at m next → Stands bytes next inside (λ x. A (move_text m ++ x))
  moved at next inside m A s low r = stands_along bytes at next inside (move_text m) A s r.spans (omega (arith, r.later)) r.within (plain_move m r.ply) (omega arith)

  follows : (at next : ℕ) (m : Ply) (x : List ℕ) → ReadsMove bytes at m next → next_byte x ≡ slice_get bytes next → CanFollow m x
  follows at next m x r head none = ap promotion_of head ∙ r.whole none

  -- ---- where a move goes wrong

  no_move : (at inside : ℕ) (A : List ℕ → Type 0) (fault : TreeFault) → Stands bytes at inside A → inside < 32
      → ((m : Ply) → IsPly m → (z : List ℕ) × A (move_text m ++ z)) → ((x : List ℕ) → A x → (m : Ply) × (z : List ℕ) × (x ≡ move_text m ++ z) × IsPly m) → NoMove bytes at fault → IsFaultOf bytes fault
  no_move at inside A (Grammar g) s low some each l =
      let here = stands_along bytes at g inside l.part A s l.spans l.later l.within l.plain (omega arith) in
      let m = l.begins.1 in
      let more = some m l.begins.3 in
      let joined : move_text m ++ more.0 ≡ l.part ++ (l.begins.0 ++ more.0) = ap (λ xs. xs ++ more.0) (sym l.begins.2) ∙ append_assoc l.part l.begins.0 more.0 in
      stops bytes g inside (λ x. A (l.part ++ x)) here (l.begins.0 ++ more.0) (subst A joined more.1) (λ x head ahead.
      let parts = each (l.part ++ x) ahead in l.ends parts.0 x parts.1 parts.3 head parts.2)
  no_move at inside A Deep s low some each l = absurd l
  no_move at inside A NoMemory s low some each l = absurd l

  some_tree : (inside : ℕ) (m : Ply) → IsPly m → (z : List ℕ) × IsTreeAhead inside (move_text m ++ z)
  some_tree inside m ply = let after = some_after inside in (end_text Mate ++ after.0, tree_ahead inside m (end_text Mate ++ after.0) ply (inl (Mate, after.0, refl, after.1)))

  some_replies : (outer : ℕ) (r : Ply) → IsPly r → (z : List ℕ) × AreRepliesAhead (suc outer) (move_text r ++ z)
  some_replies outer r ply = let tree = some_tree (suc outer) r ply in (58 ∷ (move_text r ++ tree.0), replies_ahead outer r (58 ∷ (move_text r ++ tree.0)) ply (move_text r ++ tree.0, refl, tree.1))

  pub no_attack : (at inside : ℕ) (fault : TreeFault) → Stands bytes at inside (IsTreeAhead inside) → inside < 32 → NoMove bytes at fault → IsFaultOf bytes fault
  no_attack at inside fault s low none =
      no_move at inside (IsTreeAhead inside) fault s low (some_tree inside) (λ x ahead. let p = attack_ahead inside x ahead in (p.0, p.1, p.2, p.4)) none

  pub no_reply : (at inside : ℕ) (fault : TreeFault) → 0 < inside → Stands bytes at inside (AreRepliesAhead inside) → inside < 32 → NoMove bytes at fault → IsFaultOf bytes fault
  no_reply at zero fault some s low none = absurd (omega arith)
  no_reply at (suc outer) fault some s low none =
      no_move at (suc outer) (AreRepliesAhead (suc outer)) fault s low (some_replies outer) (λ x ahead. let p = reply_ahead outer x ahead in (p.0, p.1, p.2, p.4)) none

  -- ---- after the attacker's move

  pub no_end : (at next inside : ℕ) (m : Ply) → Stands bytes at inside (IsTreeAhead inside) → inside < 32 → ReadsMove bytes at m next → slice_get bytes next ≢ Some 35 → slice_get bytes next ≢ Some 61 → slice_get bytes next ≢ Some 123 → IsFaultOf bytes (Grammar next)
  no_end at next inside m s low r mate stale brace =
      let more = some_tree inside m r.ply in
      stops bytes next inside (λ x. IsTreeAhead inside (move_text m ++ x)) (moved at next inside m (IsTreeAhead inside) s low r) more.0 more.1 (λ x head ahead.
      elim (attack_first inside x (after_attack inside m x (follows at next m x r head) ahead)) [
        | inl e ↦ mate (sym head ∙ e)
        | inr (inl e) ↦ stale (sym head ∙ e)
        | inr (inr e) ↦ brace (sym head ∙ e)
      ])

  pub read_end : (at next inside b : ℕ) (m : Ply) (end : End) (plan : Plan) → Stands bytes at inside (IsTreeAhead inside) → inside < 32 → ReadsMove bytes at m next → slice_get bytes next ≡ Some b → end_text end ≡ b ∷ []
      → count_by (λ c. c == 123) (b ∷ []) ≡ 0 → count_by (λ c. c == 125) (b ∷ []) ≡ 0 → plan ≡ ends m end → ReadsTree bytes at inside plan (next + 1)
  read_end at next inside b m end plan s low r is letter opens closes plan_is =
      subst (λ p. ReadsTree bytes at inside p (next + 1)) (sym plan_is)
      (record {
        later = omega (arith, r.later);
        spans = subst (λ xs. Spans bytes at (next + 1) (move_text m ++ xs)) (sym letter) (spans_more bytes at next (next + 1) b (move_text m) r.spans is refl);
        stands = on_byte next inside inside 0 0 b (λ x. IsTreeAhead inside (move_text m ++ x)) (AfterTree inside) (moved at next inside m (IsTreeAhead inside) s low r) is opens closes (omega arith) (omega arith)
            (λ x. subst (λ xs. IsTreeAhead inside (move_text m ++ (xs ++ x)) ↔ AfterTree inside x) letter (at_end inside m end x r.ply));
        room = omega arith;
        is_plan = r.ply;
      })

  pub read_brace : (at next inside : ℕ) (m : Ply) → Stands bytes at inside (IsTreeAhead inside) → inside < 31 → ReadsMove bytes at m next → slice_get bytes next ≡ Some 123 → Stands bytes (next + 1) (suc inside) (AreRepliesAhead (suc inside))
  read_brace at next inside m s low r is =
      on_byte next inside (suc inside) 1 0 123 (λ x. IsTreeAhead inside (move_text m ++ x)) (AreRepliesAhead (suc inside)) (moved at next inside m (IsTreeAhead inside) s (omega arith) r) is refl refl (omega arith) (omega arith) (at_brace inside m r.ply)

  pub brace_too_deep : (at next inside : ℕ) (m : Ply) → Stands bytes at inside (IsTreeAhead inside) → inside ≡ 31 → ReadsMove bytes at m next → slice_get bytes next ≡ Some 123 → IsFaultOf bytes Deep
  brace_too_deep at next inside m s full r is =
      let more = some_replies inside m r.ply in
      too_deep bytes next (next + 1) inside (123 ∷ []) (move_text m ++ more.0) (λ x. IsTreeAhead inside (move_text m ++ x)) (moved at next inside m (IsTreeAhead inside) s (omega arith) r)
      (spans_more bytes next next (next + 1) 123 [] (spans_none bytes next) is refl) (omega (arith, slice_get_within bytes next 123 is))
      ((at_brace inside m r.ply (move_text m ++ more.0)).1 more.1) refl refl full

  pub read_node : (at next last inside : ℕ) (m : Ply) (list : List (Ply × Plan)) (plan : Plan) → ReadsMove bytes at m next → slice_get bytes next ≡ Some 123 → inside < 31 → ReadsReplies bytes (next + 1) (suc inside) list last → plan ≡ plan_of m list → ReadsTree bytes at inside plan last
  read_node at next last inside m list plan r is low replies plan_is =
      let brace = spans_more bytes at next (next + 1) 123 (move_text m) r.spans is refl in
      let whole = spans_join bytes at (next + 1) last (move_text m ++ 123 ∷ []) replies.spans.0 brace replies.spans.1 in
      let text_is = text-plan_of m list replies.some ∙ ap (λ xs. move_text m ++ xs) replies.spans.2 in
      let outer : replies.stands.0 ≡ inside = omega (arith, replies.stands.1) in
      subst (λ p. ReadsTree bytes at inside p last) (sym plan_is)
      (record {
        later = omega (arith, r.later, replies.later);
        spans = whole ∙ ap (λ xs. take at bytes ++ xs) (append_assoc (move_text m) (123 ∷ []) replies.spans.0 ∙ sym text_is);
        stands = subst (λ n. Stands bytes last n (AfterTree n)) outer replies.stands.2;
        room = omega (arith, depth-plan_of m list replies.some, deepest_room list (suc inside) (omega arith) (recursion_from_All _ list replies.room));
        is_plan = plan-plan_of m list r.ply replies.plans;
      })

  -- ---- after a reply

  pub no_colon : (at next inside : ℕ) (r : Ply) → 0 < inside → Stands bytes at inside (AreRepliesAhead inside) → inside < 32 → ReadsMove bytes at r next → slice_get bytes next ≢ Some 58 → IsFaultOf bytes (Grammar next)
  no_colon at next zero m some s low r none = absurd (omega arith)
  no_colon at next (suc outer) m some s low r none =
      let more = some_replies outer m r.ply in
      stops bytes next (suc outer) (λ x. AreRepliesAhead (suc outer) (move_text m ++ x)) (moved at next (suc outer) m (AreRepliesAhead (suc outer)) s low r) more.0 more.1 (λ x head ahead.
      let colon = after_reply outer m x (follows at next m x r head) ahead in none (sym head ∙ ap next_byte colon.1))

  pub read_colon : (at next inside : ℕ) (r : Ply) → 0 < inside → Stands bytes at inside (AreRepliesAhead inside) → inside < 32 → ReadsMove bytes at r next → slice_get bytes next ≡ Some 58 → Stands bytes (next + 1) inside (IsTreeAhead inside)
  read_colon at next zero m some s low r is = absurd (omega arith)
  read_colon at next (suc outer) m some s low r is =
      on_byte next (suc outer) (suc outer) 0 0 58 (λ x. AreRepliesAhead (suc outer) (move_text m ++ x)) (IsTreeAhead (suc outer)) (moved at next (suc outer) m (AreRepliesAhead (suc outer)) s low r) is refl refl (omega arith) (omega arith) (at_colon outer m r.ply)

  -- ---- after a reply's tree

  pub no_comma : (end inside : ℕ) → 0 < inside → Stands bytes end inside (AfterTree inside) → slice_get bytes end ≢ Some 44 → slice_get bytes end ≢ Some 125 → IsFaultOf bytes (Grammar end)
  no_comma end zero some s comma close = absurd (omega arith)
  no_comma end (suc outer) some s comma close =
      let more = some_after (suc outer) in
      stops bytes end (suc outer) (AfterTree (suc outer)) s more.0 more.1 (λ x head ahead.
      elim (after_first outer x ahead) [ inl e ↦ close (sym head ∙ e) | inr e ↦ comma (sym head ∙ e) ])

  pub read_comma : (end inside : ℕ) → 0 < inside → inside < 32 → Stands bytes end inside (AfterTree inside) → slice_get bytes end ≡ Some 44 → Stands bytes (end + 1) inside (AreRepliesAhead inside)
  read_comma end zero some low s is = absurd (omega arith)
  read_comma end (suc outer) some low s is =
      on_byte end (suc outer) (suc outer) 0 0 44 (AfterTree (suc outer)) (AreRepliesAhead (suc outer)) s is refl refl (omega arith) (omega arith) (at_comma outer)

  pub read_close : (end inside : ℕ) → 0 < inside → inside < 32 → Stands bytes end inside (AfterTree inside) → slice_get bytes end ≡ Some 125 → (outer : ℕ) × (inside ≡ suc outer) × Stands bytes (end + 1) outer (AfterTree outer)
  read_close end zero some low s is = absurd (omega arith)
  read_close end (suc outer) some low s is =
      (outer, refl, on_byte end (suc outer) outer 0 1 125 (AfterTree (suc outer)) (AfterTree outer) s is refl refl (omega arith) (omega arith) (at_close outer))

  -- a reply, a colon and its tree
  reply_spans : (at start next end inside : ℕ) (xs : List ℕ) (r : Ply) (plan : Plan) → Spans bytes at start xs → ReadsMove bytes start r next → slice_get bytes next ≡ Some 58 → ReadsTree bytes (next + 1) inside plan end → Spans bytes at end (xs ++ (move_text r ++ 58 ∷ text plan))
  reply_spans at start next end inside xs r plan so_far m is below =
      let colon = spans_more bytes start next (next + 1) 58 (move_text r) m.spans is refl in
      let one = spans_join bytes start (next + 1) end (move_text r ++ 58 ∷ []) (text plan) colon below.spans in
      spans_join bytes at start end xs (move_text r ++ 58 ∷ text plan) so_far (one ∙ ap (λ ys. take start bytes ++ ys) (append_assoc (move_text r) (58 ∷ []) (text plan)))

  pub more_spans : (at start next end inside : ℕ) (list all : List (Ply × Plan)) (r : Ply) (plan : Plan) → all ≡ list ++ (r, plan) ∷ [] → Spans bytes at start (listed_text list) → ReadsMove bytes start r next → slice_get bytes next ≡ Some 58 → ReadsTree bytes (next + 1) inside plan end → slice_get bytes end ≡ Some 44
      → Spans bytes at (end + 1) (listed_text all)
  more_spans at start next end inside list all r plan all_is so_far m is below comma =
      let reply = reply_spans at start next end inside (listed_text list) r plan so_far m is below in
      let spans = spans_more bytes at end (end + 1) 44 _ reply comma refl in
      let regroup : (listed_text list ++ (move_text r ++ 58 ∷ text plan)) ++ 44 ∷ [] ≡ listed_text list ++ (move_text r ++ 58 ∷ (text plan ++ 44 ∷ [])) = simp append_assoc in
      spans ∙ ap (λ xs. take at bytes ++ xs) (regroup ∙ sym (ap listed_text all_is ∙ listed_more list r plan))

  pub last_spans : (at start next end inside : ℕ) (list all : List (Ply × Plan)) (r : Ply) (plan : Plan) → all ≡ list ++ (r, plan) ∷ [] → Spans bytes at start (listed_text list) → ReadsMove bytes start r next → slice_get bytes next ≡ Some 58 → ReadsTree bytes (next + 1) inside plan end → slice_get bytes end ≡ Some 125
      → (xs : List ℕ) × Spans bytes at (end + 1) xs × (closed_text 123 all ≡ 123 ∷ xs)
  last_spans at start next end inside list all r plan all_is so_far m is below close =
      let reply = reply_spans at start next end inside (listed_text list) r plan so_far m is below in
      let spans = spans_more bytes at end (end + 1) 125 _ reply close refl in
      (listed_text list ++ (move_text r ++ 58 ∷ (text plan ++ 125 ∷ [])), spans ∙ ap (λ xs. take at bytes ++ xs) (simp append_assoc), ap (closed_text 123) all_is ∙ closed_last list 123 r plan)

  -- ---- the end of the bytes

  pub no_more : (end : ℕ) → Stands bytes end 0 (AfterTree 0) → end < length bytes → IsFaultOf bytes (Grammar end)
  no_more end s before =
      stops bytes end 0 (AfterTree 0) s [] refl (λ x head ahead. absurd (is_there end before (sym head ∙ ap next_byte ahead)))
