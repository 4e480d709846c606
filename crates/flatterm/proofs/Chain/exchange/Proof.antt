-- `exchange` joins the new cells to those on both sides of the subterm.
use mathlib.Core.Bool.{true, false}
use mathlib.Core.List.{append_assoc}
use lib.ListN.{length}
use Rattle.flatterm.proofs.Steps.{fact, raw, heard, ◌≡◌, List, [], ◌∷◌, ◌++◌, refl, sym, ap, subst, ◌∙◌, arith, proved, after, full_share, ftrue, flft, vunit, vptr, tables, ‵, ◌⊛◌}
use Rattle.flatterm.proofs.Steps.{at_ret, ◌$◌, ◌∵◌, !, qed, done, move, keep, use1, use2, split, join, fsplit, fsplit3, fjoin, feq_i, rewrite, suffices, frame, enter, of_opd}
use Rattle.flatterm.proofs.Steps.{unit_lit, load, stop, fld, assigns, assigns_last, first, blocks, exec, returns, alloc_all, pass_all, free_all, look_at, get, through, sets, is}
use Rattle.flatterm.proofs.Steps.{env, whole, sub, look_in, store_in, Ptr, null_ptr, ptr_val, MutRef, mut_vals, mut_Tells, named, plain, nothing, Stays, walk_of, says, stay_ref}
use Rattle.flatterm.proofs.Steps.{Goes-ref, ends_at}
use denote.Memory.{cell_at}
use types.Kit.{split3, fjoin3}
use types.Run.{true_lit, false_lit}
use mir.Val.{Val, vstruct, vcons, vnil}
use Rattle.std.specs.declared.alloc.Global.{Global}
use Rattle.std.proofs.alloc.Global.TheLaws as heap
use Rattle.flatterm.specs.declared.Body.{Body}
use Rattle.flatterm.specs.declared.Chain.{Chain}
use Rattle.flatterm.specs.Cells.{Next, follow, node, chain, IsAt, last_from}
use Rattle.flatterm.specs.Laid.{Items, begins, ends, Within, IsInside, IsWhole}
use Rattle.flatterm.proofs.Memory.{Ch, held, refit, chain_cut, chain_glue, words_at, chain_opens, chain_closes, lone_opens, lone_closes, enclosed_opens, enclosed_closes, same_heap}
use Rattle.flatterm.proofs.Subterms.{Enclosed, enclosed_of, is_at, same_at, opened, unsnoc, uncons, last_app, first_kept}
use Rattle.flatterm.specs.contracts.Chain.exchange as f
use Rattle.flatterm.proofs.Chain.exchange.Statement.{statement}
use Rattle.flatterm.proofs.Chain.exchange.Code as code

abbrev stayed : Stays f.ended.signature.params f.ended.kept
stayed = (stay_ref (0 ∷ []) tt (plain (λ _. Ch)), (stay_ref (1 ∷ []) tt (plain (λ _. Ch)), tt))

pub exchange_spec : {M : Type 1} → statement M
exchange_spec 𝓤 𝓛 𝓜 𝓡 wired =
    let c = f.clauses 𝓛 𝓜.mem 𝓡.returns in let W = walk_of 𝓛 f.ended stayed c in let 𝓣 = tables 𝓤 𝓛.H 𝓜 𝓡 𝓡.env in
    proved 𝓛 f.ended stayed c 𝓜 𝓡 (Goes-ref 𝓛 2 0 tt (plain (λ _. Ch)), (Goes-ref 𝓛 2 1 tt (plain (λ _. Ch)), tt))
    f.Key.name code.function (code.unfolded 𝓤 𝓛.H 𝓜 𝓡 wired)
    (λ κs. (mut_vals, (mut_vals, tt))) (λ κs. (mut_Tells (named 0) κs.0 Ch, (mut_Tells (named 1) κs.1.0 Ch, tt))) (λ κs qs bounds args _ are.
    let κ = κs.0 in let q = qs.0 in let μ = κs.1.0 in let s = qs.1.0 in
    let r = args.0 in let rb = r.ref_ptr.0 in let ro = r.ref_ptr.1 in let d = r.now in
    let t = args.1.0 in let sb = t.ref_ptr.0 in let so = t.ref_ptr.1 in let g = t.now in
    let y : W.Ghost = ((κs, qs, bounds, args, (mut_vals r, (mut_vals t, tt))), tt) in
    qed 𝓛 (((‵ (flft κ q) ⊛ ‵ (flft μ s) ⊛ ‵ ftrue) ⊛ ‵ ((MutRef (named 0) κ Ch).own_val r (mut_vals r)) ⊛ ‵ ((MutRef (named 1) μ Ch).own_val t (mut_vals t)) ⊛ ‵ ftrue)
    ∷ raw (fact 𝓤 (IsInside d.items d.place × IsWhole g.items)) ∷ []) ∵
    move ! (1 ∷ []) $ heard ! _ (λ asked.
    let w : Within d.items d.place = asked.0.0 in
    let u = opened d.items d.place d.at d.here w in
    let long = w.long in let deep = asked.0.1 in
    let fr = unsnoc w.front (omega arith) in
    let bk = uncons w.back asked.0.2 in
    let o : Enclosed g.items = enclosed_of asked.1.0 g.items asked.1.1 in
    let a : Global = d.alloc in
    let z : Next = (d.after, true) in
    let xs : Items = fr.front in let B : Ptr × Body = fr.cell in
    let C : Ptr × Body = begins u.from u.q u.cell in let L : Ptr × Body = ends u.q u.e in let inner : Items = u.inner in
    let V : Ptr × Body = bk.cell in let ys : Items = bk.back in
    let F : Ptr × Body = begins o.p o.q o.cell in let D : Ptr × Body = ends o.q o.e in let within : Items = o.inner in
    let rest : Items = inner ++ L ∷ V ∷ ys in
    let P : Ptr = last_from d.before xs in
    let items : d.items ≡ xs ++ B ∷ C ∷ rest =
    u.whole ∙ (λ i. fr.whole i ++ C ∷ (inner ++ L ∷ bk.whole i)) ∙ append_assoc xs (B ∷ []) (C ∷ rest) in
    let headed : g.head ≡ F.0 = sym (same_at [] F (within ++ D ∷ []) g.head (subst (λ cs. IsAt cs 0 g.head) o.whole g.first)) in
    let tailed : g.tail ≡ D.0 = sym g.ending ∙ ap (last_from null_ptr) o.whole ∙ last_app F.0 within D [] in
    let after' : Items = w.front ++ (g.items ++ w.back) in
    let joined : after' ≡ xs ++ B ∷ F ∷ (within ++ D ∷ V ∷ ys) =
    (λ i. fr.whole i ++ (o.whole i ++ bk.whole i)) ∙ append_assoc xs (B ∷ []) (F ∷ ((within ++ D ∷ []) ++ V ∷ ys)) ∙ ap (λ m. xs ++ B ∷ F ∷ m) (append_assoc within (D ∷ []) (V ∷ ys)) in
    let put : after' ≡ w.front ++ F ∷ ((within ++ D ∷ []) ++ w.back) = ap (λ m. w.front ++ (m ++ w.back)) o.whole in
    let here : IsAt after' d.place F.0 = subst (λ j. IsAt after' j F.0) w.long (subst (λ cs. IsAt cs (length w.front) F.0) (sym put) (is_at w.front F ((within ++ D ∷ []) ++ w.back))) in
    let first' : IsAt after' 0 d.head = subst (λ cs. IsAt cs 0 d.head) (sym joined) (first_kept xs B (C ∷ rest) (F ∷ (within ++ D ∷ V ∷ ys)) d.head (subst (λ cs. IsAt cs 0 d.head) items d.first)) in
    let ending : last_from null_ptr after' ≡ d.tail = ap (last_from null_ptr) joined ∙ last_app null_ptr xs B (F ∷ (within ++ D ∷ V ∷ ys)) ∙ last_app F.0 within D (V ∷ ys)
    ∙ sym (last_app C.0 inner L (V ∷ ys)) ∙ sym (last_app null_ptr xs B (C ∷ rest)) ∙ sym (ap (last_from null_ptr) items) ∙ d.ending in
    let new : Chain = record { head = d.head; tail = d.tail; at = F.0; alloc = a; items = after'; place = d.place; before = d.before; after = d.after; here = here; first = first'; ending = ending } in
    let begun : IsAt w.middle 0 C.0 = subst (λ cs. IsAt cs 0 C.0) (sym u.middle) (is_at [] C (inner ++ L ∷ [])) in
    let cut : Chain = record {
      head = C.0;
      tail = L.0;
      at = C.0;
      alloc = a;
      items = w.middle;
      place = 0;
      before = B.0;
      after = V.0;
      here = begun;
      first = begun;
      ending = ap (last_from null_ptr) u.middle ∙ last_app C.0 inner L [];
    } in
    split ! $ split3 ! $ move ! (3 ∷ []) $ split3 ! $ keep ! (0 ∷ 3 ∷ 1 ∷ 4 ∷ []) $
    enter ! _ _ _ _ _ $ alloc_all ! (λ l. pass_all ! refl ((tt, tt), ((tt, tt), tt)) $
    fsplit3 ! $ move ! (1 ∷ 2 ∷ 3 ∷ []) $ chain_opens ! tt d rb ro (λ fits.
    move ! (6 ∷ []) $ fsplit3 ! $ move ! (1 ∷ 2 ∷ 9 ∷ []) $ chain_opens ! tt g sb so (λ fits'.
    rewrite ! 0 (λ cs. ‵ (chain g.alloc g.before cs (g.after, true))) o.whole refl $ rewrite ! 0 (λ h. ‵ (chain h g.before (F ∷ (within ++ D ∷ [])) (g.after, true))) (same_heap g.alloc a) refl $
    enclosed_opens ! a g.before F within D [] (g.after, true) $
    lone_opens ! a F.0 (node (follow within (D.0, false)) g.before F.1) (λ fb fo ef goodF. move ! (2 ∷ []) $
    lone_opens ! a D.0 (node (g.after, true) (last_from F.0 within) D.1) (λ mb mo ed goodD. move ! (11 ∷ []) $
    rewrite ! 0 (λ cs. ‵ (chain a d.before cs z)) items refl $
    use1 𝓛 (‵ (chain a d.before xs (B.0, false)) ⊛ ‵ (chain a P (B ∷ C ∷ rest) z)) (chain_cut 𝓛 a d.before xs (B ∷ C ∷ rest) z) $ split ! $ move ! (1 ∷ []) $ fsplit ! $
    lone_opens ! a B.0 (node (C.0, false) P B.1) (λ bb bo eb goodB. move ! (2 ∷ []) $
    enclosed_opens ! a B.0 C inner L (V ∷ ys) z $
    lone_opens ! a C.0 (node (follow inner (L.0, false)) B.0 C.1) (λ cb co ec goodC. move ! (2 ∷ []) $
    lone_opens ! a L.0 (node (V.0, false) (last_from C.0 inner) L.1) (λ lb lo el goodL. move ! (5 ∷ []) $ fsplit ! $
    lone_opens ! a V.0 (node (follow ys z) L.0 V.1) (λ vb vo ev goodV.
    -- [V, with its right; those behind; L; C; those inside; B; those before; D; F; those inside; nothing; `with`, in five; `self`, in five]
    sets ! (is ! (of_opd ! (load ! (through ! refl (fld ! refl (stop !))) (look_in ! 22 (sub ! 2 refl (whole !))))) (ap ptr_val (sym u.at ∙ ec))) refl (tt, tt) $
    sets ! (is ! (of_opd ! (load ! (through ! refl (fld ! refl (stop !))) (look_in ! 17 (sub ! 0 refl (whole !))))) (ap ptr_val (headed ∙ ef))) refl (tt, tt) $
    sets ! (is ! (of_opd ! (load ! (through ! refl (fld ! refl (stop !))) (look_in ! 17 (sub ! 1 refl (whole !))))) (ap ptr_val (tailed ∙ ed))) refl (tt, tt) $
    first ! $ blocks ! $
    sets ! (is ! (of_opd ! (load ! (through ! refl (fld ! refl (fld ! refl (stop !)))) (look_in ! 5 (sub ! 0 refl (sub ! 3 refl (whole !)))))) (ap ptr_val el)) refl (tt, tt) $
    sets ! (is ! (of_opd ! (load ! (through ! refl (fld ! refl (stop !))) (look_in ! 5 (sub ! 2 refl (whole !))))) (ap ptr_val eb)) refl (tt, tt) $
    sets ! (is ! (of_opd ! (load ! (through ! refl (fld ! refl (stop !))) (look_in ! 3 (sub ! 0 refl (whole !))))) (ap ptr_val ev)) refl (tt, tt) $
    assigns ! (of_opd ! (get ! refl)) (through ! refl (fld ! refl (stop !))) (store_in ! 8 (sub ! 0 refl (whole !)) (tt, tt)) $
    assigns ! (of_opd ! (get ! refl)) (through ! refl (fld ! refl (stop !))) (store_in ! 13 (sub ! 2 refl (whole !)) (tt, tt)) $
    assigns ! (of_opd ! (get ! refl)) (through ! refl (fld ! refl (stop !))) (store_in ! 11 (sub ! 0 refl (whole !)) (tt, tt)) $
    assigns ! (of_opd ! (false_lit !)) (through ! refl (fld ! refl (stop !))) (store_in ! 11 (sub ! 1 refl (whole !)) (tt, tt)) $
    assigns ! (of_opd ! (get ! refl)) (through ! refl (fld ! refl (stop !))) (store_in ! 0 (sub ! 2 refl (whole !)) (tt, tt)) $
    assigns ! (of_opd ! (true_lit !)) (through ! refl (fld ! refl (stop !))) (store_in ! 3 (sub ! 1 refl (whole !)) (tt, tt)) $
    assigns_last ! (of_opd ! (get ! refl)) (through ! refl (fld ! refl (stop !))) (store_in ! 17 (sub ! 1 refl (whole !)) (tt, tt)) $
    exec ! 𝓣.C 𝓣.Λ (env code.Mir.locals l) (after 4 (code.function).body) (at_ret _ (W.post y)) $
    assigns ! (of_opd ! (get ! refl)) (through ! refl (fld ! refl (stop !))) (store_in ! 22 (sub ! 2 refl (whole !)) (tt, tt)) $
    assigns ! (of_opd ! (get ! refl)) (through ! refl (fld ! refl (stop !))) (store_in ! 17 (sub ! 0 refl (whole !)) (tt, tt)) $
    assigns ! (of_opd ! (get ! refl)) (through ! refl (fld ! refl (stop !))) (store_in ! 17 (sub ! 2 refl (whole !)) (tt, tt)) $
    sets ! (of_opd ! (unit_lit !)) refl (tt, tt) $
    rewrite ! 0 (λ p. ‵ (held (node (follow ys z) p V.1) vb vo)) (sym ed) refl $ rewrite ! 8 (λ p. ‵ (held (node (p, false) P B.1) bb bo)) (sym ef) refl $
    rewrite ! 11 (λ p. ‵ (held (node (p, false) (last_from F.0 within) D.1) mb mo)) (sym ev) refl $ rewrite ! 13 (λ p. ‵ (held (node (follow within (D.0, false)) p F.1) fb fo)) (sym eb) refl $
    rewrite ! 17 (λ (p : Ptr × Ptr). ‵ (cell_at full_share Ch.mir (vstruct (vcons (ptr_val p.0) (vcons (ptr_val p.1) (vcons (ptr_val p.0) (vcons (heap.lowered a) vnil)))) ∷ []) sb
    so)) (λ i. (sym ec i, sym el i)) refl $
    rewrite ! 22 (λ p. ‵ (cell_at full_share Ch.mir (words_at d p) rb ro)) (sym ef) refl $
    lone_closes ! a V.0 (node (follow ys z) D.0 V.1) vb vo ev (refit (follow ys z) L.0 (follow ys z) D.0 V.1 goodV) $ fjoin ! $ move ! (1 ∷ 2 ∷ []) $
    lone_closes ! a L.0 (node (V.0, true) (last_from C.0 inner) L.1) lb lo el (refit (V.0, false) (last_from C.0 inner) (V.0, true) (last_from C.0 inner) L.1 goodL) $ move ! (2 ∷ 3 ∷ []) $
    lone_closes ! a C.0 (node (follow inner (L.0, false)) B.0 C.1) cb co ec goodC $ move ! (0 ∷ 1 ∷ 3 ∷ 12 ∷ []) $
    enclosed_closes ! a B.0 C inner L [] (V.0, true) $ move ! (5 ∷ 6 ∷ []) $
    lone_closes ! a D.0 (node (V.0, false) (last_from F.0 within) D.1) mb mo ed (refit (g.after, true) (last_from F.0 within) (V.0, false) (last_from F.0 within) D.1 goodD) $ move ! (6 ∷ 7 ∷ []) $
    lone_closes ! a F.0 (node (follow within (D.0, false)) B.0 F.1) fb fo ef (refit (follow within (D.0, false)) g.before (follow within (D.0, false)) B.0 F.1 goodF) $ move ! (0 ∷ 1 ∷ 7 ∷ 3 ∷ []) $
    enclosed_closes ! a B.0 F within D (V ∷ ys) z $ move ! (2 ∷ 3 ∷ []) $
    lone_closes ! a B.0 (node (F.0, false) P B.1) bb bo eb (refit (C.0, false) P (F.0, false) P B.1 goodB) $ fjoin ! $ move ! (2 ∷ 0 ∷ []) $
    use2 𝓛 (‵ (chain a d.before (xs ++ B ∷ F ∷ (within ++ D ∷ V ∷ ys)) z)) (chain_glue 𝓛 a d.before xs (B ∷ F ∷ (within ++ D ∷ V ∷ ys)) z) $
    rewrite ! 0 (λ cs. ‵ (chain a d.before cs z)) (sym joined) refl $ rewrite ! 1 (λ cs. ‵ (chain a B.0 cs (V.0, true))) (sym u.middle) refl $
    move ! (1 ∷ 2 ∷ 3 ∷ 4 ∷ 5 ∷ []) $ chain_closes ! tt cut sb so fits $ move ! (3 ∷ 5 ∷ 6 ∷ 7 ∷ 8 ∷ []) $ chain_closes ! tt new rb ro fits $
    returns ! (look_at ! 0 refl) $ free_all ! refl $ keep ! (0 ∷ 1 ∷ 2 ∷ 3 ∷ 4 ∷ 5 ∷ []) $
    suffices ! _ (ends_at 𝓛 f.ended stayed c y vunit tt (new, (cut, tt)) (tt, (tt, tt))) $ says ! ((w, refl, refl), refl, refl) $
    nothing ! $ move ! (6 ∷ 0 ∷ []) $ join ! $ move ! (3 ∷ 0 ∷ []) $ join ! $ frame ! $ feq_i ! (List Val) (vptr rb ro ∷ []) (vptr rb ro ∷ []) refl $ fjoin3 ! $
    move ! (1 ∷ 2 ∷ []) $ feq_i ! (List Val) (vptr sb so ∷ []) (vptr sb so ∷ []) refl $ fjoin3 ! $ nothing ! $ move ! (1 ∷ 0 ∷ []) $ fjoin ! $ move ! (1 ∷ 0 ∷ []) $ fjoin ! $
    feq_i ! (List Val) (vunit ∷ []) (vunit ∷ []) refl $ move ! (1 ∷ 0 ∷ []) $ done !)))))))))))
