-- `into_box` makes the box again.
use lib.Dec.{T}
use mir.Val.{Val, WT, has_ty}
use types.Kit.{split3}
use types.ByLocal.{get_in, lands_last}
use denote.Steps.{owned}
use denote.Struct.Laws.{makes}
use denote.Triple.Call.{calls_at_last}
use denote.Triple.Clauses.{Lasts, lasts}
use denote.Triple.Spec.{triple_of}
use denote.Triple.Table.{framed}
use denote.Triple.Walked.{stay_dropped, Goes-dropped}
use denote.Exit.{yes}
use Rattle.flatterm.proofs.Steps.{fact, raw, heard, ◌≡◌, List, [], ◌∷◌, refl, sym, ap, subst, proved, after, id⊢, full_share, ftrue, flft, tables, ‵, ◌⊛◌, some, later, at_ret, ◌$◌}
use Rattle.flatterm.proofs.Steps.{◌∵◌, !, qed, done, move, keep, drop, use1, split, join, fsplit, fjoin, feq_i, pick, await, rewrite, suffices, enter, of_opd, stop, fld, no_more}
use Rattle.flatterm.proofs.Steps.{and_then, is, vptr, Is, first, blocks, exec, returns, alloc_all, pass_all, free_all, look_at, get, sets, env, whole, sub, block_ptr, ptr_val}
use Rattle.flatterm.proofs.Steps.{only, plain, nothing, Stays, walk_of, says, ends_at}
use Rattle.std.specs.contracts.alloc.Global as Heap
use Rattle.std.proofs.alloc.Global.TheLaws as heap
use Rattle.std.proofs.BoxSteps.Form as box
use Rattle.std.proofs.BoxSteps.Steps.{box_out, box_in}
use Rattle.std.specs.contracts.boxed.Box.from_raw as callee
use Rattle.std.proofs.boxed.Box.from_raw.Met.{met}
use Rattle.std.proofs.impls.GlobalAllocator.TheImpl.Met as Global-met
use Rattle.flatterm.proofs.Destruct++none.drop.Symbol.{symbol as #none}
use Rattle.flatterm.proofs.Destruct++none.drop.Code as no_drop
use denote.Param.NoDrop.{glues}
use contract.Running.{tables_of}
use Rattle.flatterm.proofs.lone.LoneCell.TheLaws as L-laws
use Rattle.flatterm.proofs.Boxed.{X, Z, E, Bo, asks, tokens}
use Rattle.flatterm.proofs.Memory.{Lo, Deed, HeapFits, node_in, lone_opens, lone_words, lone_heap}
use Rattle.flatterm.specs.contracts.lone.LoneCell.into_box as f
use Rattle.flatterm.proofs.lone.LoneCell.into_box.Statement.{statement}
use Rattle.flatterm.proofs.lone.LoneCell.into_box.Code as code

abbrev stayed : Stays f.ended.signature.params f.ended.kept
stayed = (stay_dropped (plain (λ _. Lo)) yes, tt)

pub into_box_spec : {M : Type 1} → statement M
unfolding tables_of no_drop.code
into_box_spec {M} 𝓤 𝓛 𝓜 𝓡 wired =
    let c = f.clauses 𝓛 𝓜.mem 𝓡.returns in let W = walk_of 𝓛 f.ended stayed c in let 𝓣 = tables 𝓤 𝓛.H 𝓜 𝓡 𝓡.env in
    let En = callee.ended X Z E.al.g E.al.d E.al.drops in
    let k = triple_of 𝓛 (callee.signature X Z E.al.g E.al.d E.al.drops) (callee.spec X Z E.al.g E.al.d E.al.drops 𝓛 𝓜.mem 𝓡.returns) in
    let allocator = Global-met.passed 𝓡.env (code.calls-std_heap::GlobalAllocator::allocate 𝓡.env wired) (code.calls-std_heap::GlobalAllocator::deallocate 𝓡.env wired)
    (code.calls-std_heap::GlobalAllocator::grow 𝓡.env wired) (code.calls-std_heap::GlobalAllocator::shrink 𝓡.env wired) M 𝓤 𝓛 𝓜 𝓡 in
    let freed = glues #none 𝓡.env (code.calls-flatterm::Destruct++none::drop 𝓡.env wired) Z E.al.laws M 𝓤 𝓛 𝓜 𝓡 in
    proved 𝓛 f.ended stayed c 𝓜 𝓡 (Goes-dropped 𝓛 0 (plain (λ _. Lo)) yes (λ κs x w. refl), tt)
    f.Key.name code.function (code.unfolded 𝓤 𝓛.H 𝓜 𝓡 wired)
    (λ κs. (lone_words, tt)) (λ κs. (L-laws.lowers.val_is, tt)) (λ κs qs bounds args _ are.
    let l = args.0 in let a = l.alloc in let hv : Val = heap.lowered a in
    let y : W.Ghost = ((κs, qs, bounds, args, (lone_words l, tt)), tt) in
    let fits : HeapFits a = lone_heap l (lone_words l) are.0 in
    let fine = ((heap.the_row_laws.lawful 𝓛).typed a (hv ∷ []) fits).0 in
    qed 𝓛 ((‵ ftrue ⊛ ‵ (Lo.own_val l (lone_words l)) ⊛ ‵ ftrue) ∷ ‵ ftrue ∷ []) ∵
    split ! $ move ! (1 ∷ []) $ split ! $ keep ! (0 ∷ []) $
    enter ! _ _ _ _ _ $ alloc_all ! (λ ls. pass_all ! refl (((L-laws.the_row_laws.lawful 𝓛).typed l (lone_words l) are.0).0, tt) $
    fsplit ! $ drop ! $ lone_opens ! a l.at l.value (λ b o e good.
    let z : k.Ghost = ((([], ([], tt)), (full_share, (full_share, tt)), tt, (a, (block_ptr b o, tt)), (hv ∷ [], (vptr b o ∷ [], tt))), l.value) in
    sets ! (is ! (of_opd ! (get_in ! (fld ! refl (stop !)) (sub ! 0 refl (whole !)))) (ap ptr_val e)) refl (tt, tt) $
    sets ! (of_opd ! (get_in ! (fld ! refl (stop !)) (sub ! 1 refl (whole !)))) refl fine $
    first ! $ blocks ! $
    -- what the call asks: the value with the right to free its block, the pointer and the handle, the tokens
    node_in ! l.value b o good $ rewrite ! 1 (λ p. ‵ (Deed a p)) e refl $ fjoin ! $ asks ! $
    nothing ! $ feq_i ! (List Val) (vptr b o ∷ []) (vptr b o ∷ []) refl $ fjoin ! $
    owned ! Heap.the_row (Is Heap.the_row) (makes Heap.the_type heap.the_plain 𝓛) a (hv ∷ []) fits $ fjoin ! $
    tokens ! $ join ! $ join ! $ use1 𝓛 (raw (k.pre z)) (id⊢ 𝓤 _) $
    calls_at_last ! (framed 𝓤 𝓛.H 𝓜 𝓣) k (met 𝓤 𝓛 𝓜 𝓡 (code.calls-std_alloc::boxed::Box::from_raw 𝓡.env wired) X Z E.laws E.al.laws E.al.g E.al.d E.al.drops allocator freed) z
    (and_then ! (get ! refl) (and_then ! (get ! refl) (no_more !))) (λ u.
    use1 𝓛 (later (some (λ (r : box.D E). ((‵ (flft [] full_share) ⊛ ‵ (flft [] full_share) ⊛ ‵ ftrue) ⊛ ‵ ((box.B E).own_val r (u ∷ [])))
    ⊛ some (λ (ls : Lasts En z.0.0 z.0.3). ‵ (lasts En z.0.0 z.0.3 ls) ⊛ (raw (fact 𝓤 (r.value ≡ l.value)) ⊛ raw (fact 𝓤 (r.alloc ≡ a))))))) (id⊢ 𝓤 (k.post z u)) $
    await ! tt $ pick ! (λ r. split ! $ move ! (1 ∷ []) $ pick ! (λ _. split3 ! $ drop ! $ heard ! (r.value ≡ l.value) (λ same. drop ! $ split ! $ drop ! $
    box_out E ! r (u ∷ []) (λ b' o' h' e' us fits'. box_in E ! r b' o' r.value e' refl $ rewrite ! 0 (λ (xs : List Val). ‵ ((box.B E).own_val r xs)) (sym us) refl $
    let typed : T (has_ty (box.box_ty E) u) × WT u = subst (λ (s : Val). T (has_ty (box.box_ty E) s) × WT s) (sym (ap only us)) (box.box_typed E h' b' o' fits') in
    lands_last ! refl typed $ exec ! 𝓣.C 𝓣.Λ (env code.Mir.locals ls) (after 3 (code.function).body) (at_ret _ (W.post y)) $ sets ! (of_opd ! (get ! refl)) refl typed $
    returns ! (look_at ! 0 refl) $ free_all ! refl $ keep ! (0 ∷ []) $ use1 𝓛 (‵ (Bo.own_val r (u ∷ []))) (id⊢ 𝓤 _) $
    suffices ! _ (ends_at 𝓛 f.ended stayed c y u r (tt, tt) (tt, tt)) $ says ! same $
    nothing ! $ nothing ! $ join ! $ nothing ! $ done !))))))))
