-- `from_box` takes the box apart.
use mir.Val.{Val, vstruct, of_list}
use prog.Wp.{WpFn}
use base.Logic.{SProp}
use types.Kit.{split3, fpick}
use types.ByLocal.{get_in, lands_as}
use denote.RattleType.{owns}
use denote.Signature.{types_at}
use denote.Struct.Tuple.{Tuple}
use denote.Triple.Call.{calls_at}
use denote.Triple.Clauses.{Lasts, lasts}
use denote.Triple.Spec.{triple_of}
use denote.Triple.Table.{framed}
use denote.Triple.Walked.{stay_dropped}
use denote.Exit.{yes}
use Rattle.std.proofs.alloc.Calls.{Goes-blank}
use Rattle.std.proofs.raw_atomic.Walks.{proved_at}
use Rattle.flatterm.proofs.Steps.{fact, raw, ◌≡◌, ◌∙◌, List, [], ◌∷◌, ◌++◌, refl, sym, ap, subst, id⊢, ent, full_share, ftrue, flft, tables, ‵, ◌⊛◌, some, later, ◌$◌, ◌∵◌, !, qed}
use Rattle.flatterm.proofs.Steps.{done, move, keep, drop, use1, split, join, fsplit, fjoin, feq_l, pick, await, suffices, enter, of_opd, stop, fld, no_more, and_then, agg, Is}
use Rattle.flatterm.proofs.Steps.{shows, peeks, returns, alloc_all, pass_all, free_all, look_at, get, sets, whole, sub, Ptr, RawPtr, block_ptr, ptr_val, only, plain, nothing}
use Rattle.flatterm.proofs.Steps.{Stays, walk_of, says, ends_at}
use Rattle.std.specs.declared.alloc.Global.{Global}
use Rattle.std.specs.contracts.alloc.Global as Heap
use Rattle.std.proofs.alloc.Global.TheLaws as heap
use Rattle.std.proofs.BoxSteps.Form as box
use Rattle.std.proofs.BoxSteps.Steps.{box_out, box_in}
use Rattle.std.specs.contracts.boxed.Box.into_raw_with_allocator as callee
use Rattle.std.proofs.boxed.Box.into_raw_with_allocator.Met.{met}
use Rattle.std.proofs.impls.GlobalAllocator.TheImpl.Met as Global-met
use Rattle.flatterm.proofs.Destruct++none.drop.Symbol.{symbol as #none}
use Rattle.flatterm.proofs.Destruct++none.drop.Code as no_drop
use denote.Param.NoDrop.{glues}
use contract.Running.{tables_of}
use Rattle.flatterm.specs.Cells.{lone_owns}
use Rattle.flatterm.specs.declared.lone.LoneCell.{LoneCell}
use Rattle.flatterm.proofs.lone.LoneCell.TheLaws as L-laws
use Rattle.flatterm.proofs.Boxed.{X, Z, E, Bo, none, asks, tokens}
use Rattle.flatterm.proofs.Memory.{HeapFits, lone_opens, lone_made}
use Rattle.flatterm.specs.contracts.lone.LoneCell.from_box as f
use Rattle.flatterm.proofs.lone.LoneCell.from_box.Statement.{statement}
use Rattle.flatterm.proofs.lone.LoneCell.from_box.Code as code

abbrev stayed : Stays f.ended.signature.params f.ended.kept
stayed = (stay_dropped (plain (λ _. Bo)) yes, tt)

pub from_box_spec : {M : Type 1} → statement M
unfolding tables_of no_drop.code
from_box_spec {M} 𝓤 𝓛 𝓜 𝓡 wired =
    let c = f.clauses 𝓛 𝓜.mem 𝓡.returns in let W = walk_of 𝓛 f.ended stayed c in let 𝓣 = tables 𝓤 𝓛.H 𝓜 𝓡 𝓡.env in
    let En = callee.ended X Z E.al.g E.al.d E.al.drops (none X) in
    let k = triple_of 𝓛 (callee.signature X Z E.al.g E.al.d E.al.drops (none X)) (callee.spec X Z E.al.g E.al.d E.al.drops (none X) 𝓛 𝓜.mem 𝓡.returns) in
    let Pair = Tuple (RawPtr ∷ Heap.the_row ∷ []) in
    let allocator = Global-met.passed 𝓡.env (code.calls-std_heap::GlobalAllocator::allocate 𝓡.env wired) (code.calls-std_heap::GlobalAllocator::deallocate 𝓡.env wired)
    (code.calls-std_heap::GlobalAllocator::grow 𝓡.env wired) (code.calls-std_heap::GlobalAllocator::shrink 𝓡.env wired) M 𝓤 𝓛 𝓜 𝓡 in
    let freed = glues #none 𝓡.env (code.calls-flatterm::Destruct++none::drop 𝓡.env wired) Z E.al.laws M 𝓤 𝓛 𝓜 𝓡 in
    let let_go = glues #none 𝓡.env (code.calls-flatterm::Destruct++none::drop 𝓡.env wired) X E.laws M 𝓤 𝓛 𝓜 𝓡 in
    proved_at 𝓛 f.ended stayed c 𝓜 𝓡 (Goes-blank 𝓛 0 (plain (λ _. Bo)) yes (λ κs x f. tt), tt)
    f.Key.name code.function (code.unfolded 𝓤 𝓛.H 𝓜 𝓡 wired) (λ y are.
    let v : box.D E = y.0.3.0 in let Run : List Val → SProp 𝓤 = λ ws. WpFn 𝓤 𝓛.H 𝓣.C 𝓣.Λ code.function ws (W.post y) in
    qed 𝓛 ((‵ ftrue ⊛ ‵ (owns (types_at f.signature.params y.0.0) y.0.3 y.0.4)) ∷ ‵ ftrue ∷ []) ∵
    split ! $ move ! (1 ∷ []) $ fsplit ! $ keep ! (0 ∷ []) $ use1 𝓛 (‵ ((box.B E).own_val v y.0.4.0)) (id⊢ 𝓤 _) $
    box_out E ! v y.0.4.0 (λ b o h e ws fits. box_in E ! v b o v.value e refl $
    let w : Val = box.word E h b o in let typed = box.box_typed E h b o fits in
    let z : k.Ghost = ((([], ([], tt)), (full_share, (full_share, tt)), tt, (v, tt), (w ∷ [], tt)), tt) in
    suffices ! (Run (w ∷ [])) (subst (λ (us : List Val). ent 𝓤 (Run (w ∷ [])) (Run us)) (sym (λ i. ws i ++ [])) (id⊢ 𝓤 (Run (w ∷ [])))) $
    enter ! _ _ _ _ _ $ alloc_all ! (λ l. pass_all ! refl (typed, tt) $ sets ! (of_opd ! (get ! refl)) refl typed $
    nothing ! $ move ! (1 ∷ 0 ∷ []) $ fjoin ! $ nothing ! $ asks ! $ move ! (1 ∷ 0 ∷ []) $
    tokens ! $ join ! $ join ! $ use1 𝓛 (raw (k.pre z)) (id⊢ 𝓤 _) $
    calls_at ! (framed 𝓤 𝓛.H 𝓜 𝓣) k (met 𝓤 𝓛 𝓜 𝓡 (code.calls-std_alloc::boxed::Box::into_raw_with_allocator 𝓡.env wired) X Z E.laws E.al.laws E.al.g E.al.d E.al.drops
    (none X) allocator freed let_go) z (and_then ! (get ! refl) (no_more !)) (λ u.
    use1 𝓛 (later (some (λ (r : Ptr × Global). ((‵ (flft [] full_share) ⊛ ‵ (flft [] full_share) ⊛ ‵ ftrue) ⊛ ‵ (Pair.own_val r (u ∷ [])))
    ⊛ some (λ (ls : Lasts En z.0.0 z.0.3). ‵ (lasts En z.0.0 z.0.3 ls) ⊛ (raw (fact 𝓤 (r.1 ≡ v.alloc)) ⊛ ‵ (lone_owns v.alloc r.0 v.value)))))) (id⊢ 𝓤 (k.post z u)) $
    await ! tt $ pick ! (λ r. split ! $ move ! (1 ∷ []) $ pick ! (λ _. split3 ! $ drop ! $ drop ! $ lone_opens ! v.alloc r.0 v.value (λ b' o' e' good.
    move ! (2 ∷ []) $ split ! $ drop ! $ fpick ! (λ vss. fsplit ! $ feq_l ! (λ eu. fsplit ! $ feq_l ! (λ ep. fsplit ! $
    peeks ! Heap.the_row (Is Heap.the_row) (shows 𝓛 Heap.the_row) r.1 vss.1.0 (λ is. drop ! $ drop ! $
    let hv : Val = heap.lowered r.1 in let told = heap.lowers.val_is r.1 vss.1.0 is in
    let held : HeapFits r.1 = subst (λ (us : List Val). Is Heap.the_row r.1 us) told is in
    let fine = ((heap.the_row_laws.lawful 𝓛).typed r.1 (hv ∷ []) held).0 in
    let out : LoneCell = record { at = block_ptr b' o'; alloc = r.1; value = v.value } in
    lands_as ! (ap only (eu ∙ (λ j. vstruct (of_list ((ep ∙ ap (λ (p : Ptr). ptr_val p ∷ []) e') j ++ (told j ++ []))) ∷ []))) refl (tt, (tt, (fine.1, tt))) $
    sets ! (of_opd ! (get_in ! (fld ! refl (stop !)) (sub ! 0 refl (whole !)))) refl (tt, tt) $
    sets ! (of_opd ! (get_in ! (fld ! refl (stop !)) (sub ! 1 refl (whole !)))) refl fine $
    sets ! (agg ! (and_then ! (get ! refl) (and_then ! (get ! refl) (no_more !)))) refl (tt, (tt, (fine.1, tt))) $
    lone_made ! r.1 r.0 v.value b' o' e' good held $
    returns ! (look_at ! 0 refl) $ free_all ! refl $ keep ! (0 ∷ []) $
    suffices ! _ (ends_at 𝓛 f.ended stayed c y (L-laws.lowered out) out (tt, tt) (tt, tt)) $ says ! refl $
    nothing ! $ nothing ! $ join ! $ nothing ! $ done !)))))))))))
