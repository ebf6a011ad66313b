-- The two cases of what `take` gave, and all of the memory as room for a type. Assumes `Logic`.
use Rattle.std.proofs.Common.{◌≡◌, ℕ, ◌^◌, ◌<◌, ◌≤◌, List, [], ◌∷◌, ◌++◌, IfSome, None, Some, refl, sym, ap, subst, ◌∙◌, arith}
use seplogic.Ra.Ura.{Ura}
use mir.Syntax.{Ty, Width, w8, w16, w32, w64, w128}
use mir.Val.{Val, vcons, vnil, of_list, bytes}
use base.Logic.{ent, sep, never, id⊢}
use base.Fml.{fwand, froom}
use prog.Memory.{size, capped}
use prog.Align.{Dv, align_w, align-bytes}
use prog.Capped.{capped_is, capped_small}
use types.Logic.{Logic, sem}
use types.Kit.{Item, Goal, Seq, ‵, ◌⊛◌, ◌$◌, ◌∵◌, !, qed, move, drop, use1, split, frame, rewrite, fsplit, fpick, fpack, feq_l, done}
use types.Match.{live}
use denote.RattleType.{RattleType}
use denote.RawPtr.{Ptr, block_ptr, in_a_block}
use denote.Shadow.{pure_l}
use denote.Steps.{only}
use Rattle.core.specs.contracts.option.Option as option
use Rattle.lent_memory.specs.Ownership.{IsMemorySize, bytes_at, block_token}
use Rattle.lent_memory.specs.contracts.memory.Region as memory
use Rattle.linked_list_allocator.proofs.Values.{sized_val, sized_own, sized_told}
use Rattle.linked_list_allocator.proofs.Nodes.{retypes}

abbrev pub Taken : RattleType
Taken = option.the_row memory.the_row

-- n bytes were taken for m at an alignment of a
abbrev pub Told : ℕ → ℕ → ℕ → Taken.Denot → Type 0
Told n m a x = IfSome x (λ t. (t.size ≡ n) × (m ≤ t.size) × (a ≤ 16))

divides_16 : (w : Width) → Dv (bytes w) 16
divides_16 w8 = tt
divides_16 w16 = tt
divides_16 w32 = tt
divides_16 w64 = tt
divides_16 w128 = tt

pub hands_out : {M : Type 1} {𝓤 : Ura M} (𝓛 : Logic 𝓤) (τ : Ty) (b o n m : ℕ) → capped (size τ) ≡ m → IsMemorySize n → m ≤ n
    → ent 𝓤 (sem 𝓛 (bytes_at (block_ptr b o) n)) (sep 𝓤 (𝓛.H.room τ b o) (sem 𝓛 (block_token n τ (block_ptr b o))))
hands_out {𝓤 = 𝓤} 𝓛 τ b o n m sized is less =
    let p : Ptr = block_ptr b o in
    let small = is.1 in
    let short : size τ < 2 ^ 63 = capped_small (size τ) (omega arith) in
    let same : m ≡ size τ = sym sized ∙ capped_is (size τ) (omega arith) in
    qed 𝓛 (‵ (bytes_at p n) ∷ []) ∵
    use1 𝓛 (‵ (froom τ b o) ⊛ ‵ (fwand (froom τ b o) (bytes_at p n)))
    (retypes 𝓛 b τ o n is.0 (omega arith) (subst (λ (k : ℕ). Dv k 16) (sym (align-bytes τ)) (divides_16 (align_w τ)))) $ split ! $ frame ! $
    fpack ! (IsMemorySize n) (λ _. fwand (froom τ b o) (bytes_at p n)) is $ done !

module _ {M : Type 1} {𝓤 : Ura M} {𝓛 : Logic 𝓤} {K : Type 0} {Γ : List (Item 𝓤)} {G : Goal 𝓤 𝓛.H} where
  pub taken : K → (n m a : ℕ) (x : Taken.Denot) (v : Val) → Told n m a x
      → ((b o : ℕ) → IsMemorySize n → n < 2 ^ 64 → m ≤ n → v ≡ live 1 (vcons (sized_val (block_ptr b o) n) vnil) → Seq K 𝓛 (‵ (bytes_at (block_ptr b o) n) ∷ Γ) G)
      → (v ≡ live 0 vnil → Seq K 𝓛 Γ G) → Seq K 𝓛 (‵ (Taken.own_val x (v ∷ [])) ∷ Γ) G
  taken t n m a None v told some none =
      fpick t (λ us. fsplit t $ feq_l t (λ is. fpick t (λ vss. fsplit t $ feq_l t (λ is'. drop t $ none (ap only is ∙ ap (λ (ws : List Val). live 0 (of_list ws)) is')))))
  taken t n m a (Some w) v told some none =
      fpick t (λ us. fsplit t $ feq_l t (λ is. fpick t (λ vss. fsplit t $ feq_l t (λ is'. fsplit t $ move t (1 ∷ []) $ drop t $ fsplit t $ pure_l t (sized_own w.ptr w.size vss.0) (λ s.
      let parts = sized_told w.ptr w.size vss.0 s in
      in_a_block t w.ptr (λ (u : Ptr). bytes_at u w.size) (id⊢ 𝓤 (never 𝓤)) (λ b o lies.
      rewrite t 0 (λ (k : ℕ). ‵ (bytes_at (block_ptr b o) k)) told.0 refl $
      some b o (subst IsMemorySize told.0 w.fits) (subst (λ (k : ℕ). k < 2 ^ 64) told.0 parts.1) (subst (λ (k : ℕ). m ≤ k) told.0 told.1)
      (ap only is ∙ ap (λ (xs : List Val). live 1 (of_list xs)) (is' ∙ ap (λ (xs : List Val). xs ++ []) parts.0) ∙ (λ i. live 1 (vcons (sized_val (lies i) (told.0 i)) vnil)))))))))
