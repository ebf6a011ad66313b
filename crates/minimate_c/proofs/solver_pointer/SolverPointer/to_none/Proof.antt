-- `to_none` puts the two fields together, and owns nothing.
use Rattle.std.proofs.Common.{List, [], ◌∷◌, ◌++◌, refl, sym, subst}
use mir.Syntax.{ty_ptr}
use lib.Dec.{T}
use mir.Val.{Val, has_ty, vstruct, vcons, vnil, WT}
use base.Logic.{SProp, ent, emp, id⊢}
use base.Fml.{ftrue, fsep}
use prog.Wp.{WpFn}
use types.Kit.{‵, raw, ◌⊛◌, ◌$◌, ◌∵◌, !, qed, move, drop, use1, split, join, fsplit3, fjoin, feq_i, fpack, suffices, rewrite, done}
use types.Run.{of_opd, no_more, and_then, returns, enter}
use types.ByLocal.{alloc_all, pass_all, free_all, look_at, get, sets}
use types.Part.{agg}
use contract.Running.{tables}
use denote.Exit.{yes}
use denote.RattleType.{RattleType, Valss}
use denote.Signature.{type_at, plain}
use denote.Param.{layout}
use denote.RawPtr.{RawPtr, rawptr_Lawful}
use denote.Struct.Struct.{within}
use denote.Struct.Owning.{shape}
use denote.Steps.{nothing}
use denote.Triple.Walked.{says, Stays, stay_dropped, walk_of, ends_at, Goes-dropped}
use Rattle.std.specs.Prelude.{None}
use Rattle.core.proofs.cell.Inside.{one}
use mathlib.Core.Bool.{Bool, true, false, ◌&&◌}
use Rattle.std_alloc.proofs.BoxSteps.Form.{P, owning}
use Rattle.std_heap.proofs.Global.TheLaws as heap_laws
use Rattle.minimate_c.proofs.AsBox.{solver_box as E}
use Rattle.minimate_c.specs.contracts.solver_pointer.SolverPointer.to_none as f
use Rattle.std_heap.specs.contracts.Global as heap
use Rattle.std.proofs.raw_atomic.Walks.{proved_at}
use Rattle.minimate_c.specs.contracts.solver_pointer.SolverPointer.to_none.{ended, clauses}
use Rattle.minimate_c.specs.contracts.solver_pointer.SolverPointer.to_none.Key.{name as #self}
use Rattle.minimate_c.proofs.solver_pointer.SolverPointer.to_none.Statement.{statement}
use Rattle.minimate_c.proofs.solver_pointer.SolverPointer.to_none.Code as code

both_tt : (x y : Bool) → T x → T y → T (x && (y && true))
both_tt true true s t = tt
both_tt true false s t = absurd t
both_tt false y s t = absurd s

pub to_none_spec : {M : Type 1} → statement M
to_none_spec 𝓤 𝓛 𝓜 𝓡 wired =
    let H = 𝓛.H in let 𝓣 = tables 𝓤 H 𝓜 𝓡 𝓡.env in let c = clauses 𝓛 𝓜.mem 𝓡.returns in
    let hs : Stays (ended).signature.params (ended).kept = (stay_dropped (plain (λ _. RawPtr)) yes, (stay_dropped (plain (λ _. heap.the_row)) yes, tt)) in
    proved_at 𝓛 ended hs c 𝓜 𝓡 (Goes-dropped 𝓛 0 (plain (λ _. RawPtr)) yes (λ κs x f. refl), (Goes-dropped 𝓛 0 (plain (λ _. heap.the_row)) yes (λ κs x f. refl), tt)) #self code.function (code.unfolded 𝓤 H 𝓜 𝓡 wired) (λ z are.
    let Z : RattleType = heap.the_row in let p = z.0.3.0 in let a = z.0.3.1.0 in let Post : Val → SProp 𝓤 = (walk_of 𝓛 ended hs c).post z in let Run : List Val → SProp 𝓤 = λ ws. WpFn 𝓤 H 𝓣.C 𝓣.Λ code.function ws Post in
    let v = one ty_ptr z.0.4.0 ((rawptr_Lawful 𝓛).typed p z.0.4.0 are.0) in let h = one (layout Z) z.0.4.1.0 ((heap_laws.the_row_laws.lawful 𝓛).typed a z.0.4.1.0 are.1.0) in
    let w : Val = vstruct (vcons v.0 (vcons h.0 vnil)) in let To = type_at (f.signature).result tt in let made : To.Denot = record { ptr = p; alloc = a; value = None } in
    let good : T (has_ty (layout To) w) × WT w = (both_tt (has_ty ty_ptr v.0) (has_ty (layout Z) h.0) v.2.0 h.2.0, (v.2.1, (h.2.1, tt))) in
    qed 𝓛 ((‵ ftrue ⊛ ‵ (fsep (RawPtr.own_val p z.0.4.0) (fsep (Z.own_val a z.0.4.1.0) ftrue))) ∷ raw (emp 𝓤) ∷ []) ∵ split ! $ drop ! $ move ! (1 ∷ []) $ drop ! $ fsplit3 ! $
    rewrite ! 0 (λ (us : List Val). ‵ (RawPtr.own_val p us)) v.1 refl $ rewrite ! 1 (λ (us : List Val). ‵ (Z.own_val a us)) h.1 refl $
    move ! (1 ∷ 2 ∷ []) $ fjoin ! $ move ! (1 ∷ 0 ∷ []) $ fjoin ! $ feq_i ! (List Val) (w ∷ []) (w ∷ []) refl $ fjoin ! $
    fpack ! (Valss (RawPtr ∷ P E ∷ [])) (within (shape (owning E)) (p, (a, tt)) (w ∷ [])) (v.0 ∷ [], (h.0 ∷ [], tt)) $ nothing ! $ move ! (1 ∷ 0 ∷ []) $ fjoin ! $ use1 𝓛 (‵ (To.own_val made (w ∷ []))) (id⊢ 𝓤 _) $
    suffices ! (Run (v.0 ∷ h.0 ∷ [])) (subst (λ (us : List Val). ent 𝓤 (Run (v.0 ∷ h.0 ∷ [])) (Run us)) (sym (λ i. v.1 i ++ (h.1 i ++ []))) (id⊢ 𝓤 (Run (v.0 ∷ h.0 ∷ [])))) $
    enter ! 𝓣.C 𝓣.Λ code.function (v.0 ∷ h.0 ∷ []) Post $ alloc_all ! (λ l. pass_all ! refl (v.2, (h.2, tt)) $
    sets ! (agg ! (and_then ! (get ! refl) (and_then ! (get ! refl) (no_more !)))) refl good $ returns ! (look_at ! 0 refl) $ free_all ! refl $
    suffices ! _ (ends_at 𝓛 ended hs c z w made (tt, (tt, tt)) (tt, (tt, tt))) $ says ! refl $
    nothing ! $ nothing ! $ fjoin ! $ nothing ! $ fjoin ! $ join ! $ nothing ! $ join ! $ done !))
