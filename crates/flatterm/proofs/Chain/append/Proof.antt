-- `append` joins the new cells to the last two.
use mathlib.Core.Bool.{true, false}
use mathlib.Core.List.{append_assoc}
use Rattle.flatterm.proofs.Steps.{fact, raw, heard, ◌≡◌, List, [], ◌∷◌, ◌++◌, refl, sym, ap, subst, ◌∙◌, arith, proved, after, ftrue, flft, vunit, vptr, tables, ‵, ◌⊛◌, at_ret}
use Rattle.flatterm.proofs.Steps.{◌$◌, ◌∵◌, !, qed, done, move, keep, drop, use1, use2, split, join, fsplit, fsplit3, fjoin, feq_i, rewrite, suffices, frame, enter, of_opd}
use Rattle.flatterm.proofs.Steps.{unit_lit, load, stop, fld, assigns, assigns_last, first, blocks, exec, returns, alloc_all, pass_all, free_all, look_at, get, through, sets, is}
use Rattle.flatterm.proofs.Steps.{env, whole, sub, look_in, store_in, Ptr, null_ptr, ptr_val, MutRef, mut_vals, mut_Tells, named, plain, nothing, Stays, walk_of, says, stay_ref}
use Rattle.flatterm.proofs.Steps.{Goes-ref, ends_at}
use types.Kit.{split3, fjoin3}
use types.Run.{false_lit}
use types.ByLocal.{get_in}
use denote.Exit.{yes}
use denote.Triple.Walked.{stay_dropped}
use denote.Triple.Walked.{Goes-dropped}
use Rattle.flatterm.proofs.Chain.TheLaws as C-laws
use mir.Val.{Val}
use Rattle.std.specs.declared.alloc.Global.{Global}
use Rattle.flatterm.specs.declared.Body.{Body}
use Rattle.flatterm.specs.declared.Chain.{Chain}
use Rattle.flatterm.specs.Cells.{Next, follow, node, chain, IsAt, last_from}
use Rattle.flatterm.specs.Laid.{Items, begins, ends, IsOpen, IsWhole}
use Rattle.flatterm.proofs.Memory.{Ch, held, refit, chain_cut, chain_glue, words, chain_opens, chain_closes, lone_opens, lone_closes, enclosed_opens, enclosed_closes, same_heap}
use Rattle.flatterm.proofs.Subterms.{Enclosed, enclosed_of, same_at, unsnoc, last_app, first_kept}
use Rattle.flatterm.specs.contracts.Chain.append as f
use Rattle.flatterm.proofs.Chain.append.Statement.{statement}
use Rattle.flatterm.proofs.Chain.append.Code as code

abbrev stayed : Stays f.ended.signature.params f.ended.kept
stayed = (stay_ref (0 ∷ []) tt (plain (λ _. Ch)), (stay_dropped (plain (λ _. Ch)) yes, tt))

pub append_spec : {M : Type 1} → statement M
append_spec 𝓤 𝓛 𝓜 𝓡 wired =
    let c = f.clauses 𝓛 𝓜.mem 𝓡.returns in let W = walk_of 𝓛 f.ended stayed c in let 𝓣 = tables 𝓤 𝓛.H 𝓜 𝓡 𝓡.env in
    proved 𝓛 f.ended stayed c 𝓜 𝓡 (Goes-ref 𝓛 1 0 tt (plain (λ _. Ch)), (Goes-dropped 𝓛 1 (plain (λ _. Ch)) yes (λ κs x w. refl), tt))
    f.Key.name code.function (code.unfolded 𝓤 𝓛.H 𝓜 𝓡 wired)
    (λ κs. (mut_vals, (words, tt))) (λ κs. (mut_Tells (named 0) κs.0 Ch, (C-laws.lowers.val_is, tt))) (λ κs qs bounds args _ are.
    let κ = κs.0 in let q = qs.0 in
    let r = args.0 in let rb = r.ref_ptr.0 in let ro = r.ref_ptr.1 in let d = r.now in
    let g = args.1.0 in
    let y : W.Ghost = ((κs, qs, bounds, args, (mut_vals r, (words g, tt))), tt) in
    qed 𝓛 (((‵ (flft κ q) ⊛ ‵ ftrue) ⊛ ‵ ((MutRef (named 0) κ Ch).own_val r (mut_vals r)) ⊛ ‵ (Ch.own_val g (words g)) ⊛ ‵ ftrue)
    ∷ raw (fact 𝓤 ((d.place ≡ 0) × IsOpen d.items × IsWhole g.items)) ∷ []) ∵
    move ! (1 ∷ []) $ heard ! _ (λ asked.
    let u = asked.1 in
    let o : Enclosed g.items = enclosed_of asked.2.0 g.items asked.2.1 in
    let a : Global = d.alloc in
    let z : Next = (d.after, true) in
    let C : Ptr × Body = begins u.p u.q u.cell in let L : Ptr × Body = ends u.q u.e in let inner : Items = u.inner in
    let fr = unsnoc (C ∷ inner) (omega arith) in
    let xs : Items = fr.front in let B : Ptr × Body = fr.cell in
    let F : Ptr × Body = begins o.p o.q o.cell in let D : Ptr × Body = ends o.q o.e in let within : Items = o.inner in
    let P : Ptr = last_from d.before xs in
    let items : d.items ≡ xs ++ B ∷ L ∷ [] = u.whole ∙ ap (λ cs. cs ++ L ∷ []) fr.whole ∙ append_assoc xs (B ∷ []) (L ∷ []) in
    let headed : g.head ≡ F.0 = sym (same_at [] F (within ++ D ∷ []) g.head (subst (λ cs. IsAt cs 0 g.head) o.whole g.first)) in
    let tailed : g.tail ≡ D.0 = sym g.ending ∙ ap (last_from null_ptr) o.whole ∙ last_app F.0 within D [] in
    let old : last_from null_ptr d.items ≡ L.0 = ap (last_from null_ptr) items ∙ last_app null_ptr xs B (L ∷ []) in
    let ended : d.tail ≡ L.0 = sym d.ending ∙ old in
    let after' : Items = C ∷ ((inner ++ g.items) ++ L ∷ []) in
    let joined : after' ≡ xs ++ B ∷ F ∷ (within ++ D ∷ L ∷ []) =
    ap (λ m. C ∷ m) (append_assoc inner g.items (L ∷ [])) ∙ (λ i. fr.whole i ++ (o.whole i ++ L ∷ [])) ∙ append_assoc xs (B ∷ []) (F ∷ ((within ++ D ∷ []) ++ L ∷ []))
    ∙ ap (λ m. xs ++ B ∷ F ∷ m) (append_assoc within (D ∷ []) (L ∷ [])) in
    let kept : (p : Ptr) → IsAt d.items 0 p → IsAt after' 0 p = λ p h. subst (λ cs. IsAt cs 0 p) (sym joined)
    (first_kept xs B (L ∷ []) (F ∷ (within ++ D ∷ L ∷ [])) p (subst (λ cs. IsAt cs 0 p) items h)) in
    let ending : last_from null_ptr after' ≡ d.tail = ap (last_from null_ptr) joined ∙ last_app null_ptr xs B (F ∷ (within ++ D ∷ L ∷ [])) ∙ last_app F.0 within D (L ∷ []) ∙ sym ended in
    let new : Chain = record {
      head = d.head;
      tail = d.tail;
      at = d.at;
      alloc = a;
      items = after';
      place = 0;
      before = d.before;
      after = d.after;
      here = kept d.at (subst (λ j. IsAt d.items j d.at) asked.0 d.here);
      first = kept d.head d.first;
      ending = ending;
    } in
    split ! $ split ! $ move ! (2 ∷ []) $ split3 ! $ keep ! (0 ∷ 3 ∷ 1 ∷ []) $
    enter ! _ _ _ _ _ $ alloc_all ! (λ l. pass_all ! refl ((tt, tt), (((C-laws.the_row_laws.lawful 𝓛).typed g (words g) are.1.0).0, tt)) $
    fsplit3 ! $ move ! (1 ∷ 2 ∷ 3 ∷ []) $ chain_opens ! tt d rb ro (λ fits.
    move ! (6 ∷ []) $ fsplit ! $ drop ! $
    rewrite ! 0 (λ cs. ‵ (chain g.alloc g.before cs (g.after, true))) o.whole refl $ rewrite ! 0 (λ h. ‵ (chain h g.before (F ∷ (within ++ D ∷ [])) (g.after, true))) (same_heap g.alloc a) refl $
    enclosed_opens ! a g.before F within D [] (g.after, true) $
    lone_opens ! a F.0 (node (follow within (D.0, false)) g.before F.1) (λ fb fo ef goodF. move ! (2 ∷ []) $
    lone_opens ! a D.0 (node (g.after, true) (last_from F.0 within) D.1) (λ mb mo ed goodD. move ! (6 ∷ []) $
    rewrite ! 0 (λ cs. ‵ (chain a d.before cs z)) items refl $
    use1 𝓛 (‵ (chain a d.before xs (B.0, false)) ⊛ ‵ (chain a P (B ∷ L ∷ []) z)) (chain_cut 𝓛 a d.before xs (B ∷ L ∷ []) z) $ split ! $ move ! (1 ∷ []) $ fsplit ! $
    lone_opens ! a B.0 (node (L.0, false) P B.1) (λ bb bo eb goodB. move ! (2 ∷ []) $ fsplit ! $
    lone_opens ! a L.0 (node z B.0 L.1) (λ lb lo el goodL.
    -- [L, with its right; nothing; B; those before; D; F; those inside; nothing; `self`, in five]
    sets ! (is ! (of_opd ! (get_in ! (fld ! refl (stop !)) (sub ! 0 refl (whole !)))) (ap ptr_val (headed ∙ ef))) refl (tt, tt) $
    sets ! (is ! (of_opd ! (get_in ! (fld ! refl (stop !)) (sub ! 1 refl (whole !)))) (ap ptr_val (tailed ∙ ed))) refl (tt, tt) $
    sets ! (is ! (of_opd ! (load ! (through ! refl (fld ! refl (stop !))) (look_in ! 12 (sub ! 1 refl (whole !))))) (ap ptr_val (ended ∙ el))) refl (tt, tt) $
    first ! $ blocks ! $
    sets ! (is ! (of_opd ! (load ! (through ! refl (fld ! refl (stop !))) (look_in ! 0 (sub ! 2 refl (whole !))))) (ap ptr_val eb)) refl (tt, tt) $
    assigns ! (of_opd ! (get ! refl)) (through ! refl (fld ! refl (stop !))) (store_in ! 3 (sub ! 0 refl (whole !)) (tt, tt)) $
    assigns ! (of_opd ! (get ! refl)) (through ! refl (fld ! refl (stop !))) (store_in ! 8 (sub ! 2 refl (whole !)) (tt, tt)) $
    assigns ! (of_opd ! (get ! refl)) (through ! refl (fld ! refl (stop !))) (store_in ! 6 (sub ! 0 refl (whole !)) (tt, tt)) $
    assigns ! (of_opd ! (false_lit !)) (through ! refl (fld ! refl (stop !))) (store_in ! 6 (sub ! 1 refl (whole !)) (tt, tt)) $
    assigns_last ! (of_opd ! (get ! refl)) (through ! refl (fld ! refl (stop !))) (store_in ! 0 (sub ! 2 refl (whole !)) (tt, tt)) $
    exec ! 𝓣.C 𝓣.Λ (env code.Mir.locals l) (after 4 (code.function).body) (at_ret _ (W.post y)) $
    sets ! (of_opd ! (unit_lit !)) refl (tt, tt) $
    rewrite ! 0 (λ p. ‵ (held (node z p L.1) lb lo)) (sym ed) refl $ rewrite ! 3 (λ p. ‵ (held (node (p, false) P B.1) bb bo)) (sym ef) refl $
    rewrite ! 6 (λ p. ‵ (held (node (p, false) (last_from F.0 within) D.1) mb mo)) (sym el) refl $ rewrite ! 8 (λ p. ‵ (held (node (follow within (D.0, false)) p F.1) fb fo)) (sym eb) refl $
    lone_closes ! a L.0 (node z D.0 L.1) lb lo el (refit z B.0 z D.0 L.1 goodL) $ fjoin ! $ move ! (4 ∷ 5 ∷ []) $
    lone_closes ! a D.0 (node (L.0, false) (last_from F.0 within) D.1) mb mo ed (refit (g.after, true) (last_from F.0 within) (L.0, false) (last_from F.0 within) D.1 goodD) $ move ! (5 ∷ 6 ∷ []) $
    lone_closes ! a F.0 (node (follow within (D.0, false)) B.0 F.1) fb fo ef (refit (follow within (D.0, false)) g.before (follow within (D.0, false)) B.0 F.1 goodF) $ move ! (0 ∷ 1 ∷ 6 ∷ 2 ∷ []) $
    enclosed_closes ! a B.0 F within D (L ∷ []) z $ move ! (1 ∷ 2 ∷ []) $
    lone_closes ! a B.0 (node (F.0, false) P B.1) bb bo eb (refit (L.0, false) P (F.0, false) P B.1 goodB) $ fjoin ! $ move ! (1 ∷ 0 ∷ []) $
    use2 𝓛 (‵ (chain a d.before (xs ++ B ∷ F ∷ (within ++ D ∷ L ∷ [])) z)) (chain_glue 𝓛 a d.before xs (B ∷ F ∷ (within ++ D ∷ L ∷ [])) z) $
    rewrite ! 0 (λ cs. ‵ (chain a d.before cs z)) (sym joined) refl $ move ! (1 ∷ []) $ drop ! $ chain_closes ! tt new rb ro fits $
    returns ! (look_at ! 0 refl) $ free_all ! refl $ keep ! (0 ∷ 1 ∷ 2 ∷ []) $
    suffices ! _ (ends_at 𝓛 f.ended stayed c y vunit tt (new, (tt, tt)) (tt, (tt, tt))) $ says ! ((u, refl), refl) $
    nothing ! $ move ! (3 ∷ 0 ∷ []) $ join ! $ frame ! $ feq_i ! (List Val) (vptr rb ro ∷ []) (vptr rb ro ∷ []) refl $ fjoin3 ! $ nothing ! $ nothing ! $ fjoin ! $ move ! (1 ∷ 0 ∷ []) $ fjoin ! $
    feq_i ! (List Val) (vunit ∷ []) (vunit ∷ []) refl $ move ! (1 ∷ 0 ∷ []) $ done !))))))))
