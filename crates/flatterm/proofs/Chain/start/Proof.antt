-- `start` links two cells.
use mathlib.Core.Bool.{true, false}
use Rattle.flatterm.proofs.Steps.{arith, [], ◌∷◌, refl, sym, ap, proved, after, id⊢, ftrue, tables, ‵, ◌⊛◌, at_ret, ◌$◌, ◌∵◌, !, qed, done, move, keep, drop, use1, split, join}
use Rattle.flatterm.proofs.Steps.{fsplit, fjoin, rewrite, suffices, enter, of_opd, stop, fld, assigns, assigns_last, no_more, and_then, is, agg, vptr, first, blocks, exec, returns}
use Rattle.flatterm.proofs.Steps.{alloc_all, pass_all, free_all, look_at, get, through, sets, env, whole, sub, store_in, Ptr, ptr_val, plain, nothing, Stays, walk_of, says}
use Rattle.flatterm.proofs.Steps.{ends_at}
use mir.Val.{Val}
use Rattle.flatterm.specs.declared.Body.{Body}
use Rattle.flatterm.specs.declared.Chain.{Chain}
use Rattle.flatterm.specs.Cells.{Next, node}
use Rattle.flatterm.proofs.Memory.{Ch, Lo, held, Owned, HeapFits, lone_words, lone_heap}
use types.ByLocal.{get_in}
use types.Kit.{split3}
use types.Run.{true_lit, false_lit}
use mir.Val.{vstruct, vcons, vnil}
use Rattle.std.specs.declared.alloc.Global.{Global}
use Rattle.flatterm.proofs.lone.LoneCell.TheLaws as L-laws
use Rattle.flatterm.proofs.Memory.{body_with, body_fits, node_fits, lone_closes, chain_made}
use denote.Triple.Walked.{stay_dropped, Goes-dropped}
use denote.Exit.{yes}
use Rattle.std.proofs.alloc.Global.TheLaws as heap
use Rattle.flatterm.proofs.Memory.{lone_opens}
use Rattle.flatterm.specs.contracts.Chain.start as f
use Rattle.flatterm.proofs.Chain.start.Statement.{statement}
use Rattle.flatterm.proofs.Chain.start.Code as code

abbrev stayed : Stays f.ended.signature.params f.ended.kept
stayed = (stay_dropped (plain (λ _. Lo)) yes, (stay_dropped (plain (λ _. Lo)) yes, tt))

pub start_spec : {M : Type 1} → statement M
start_spec 𝓤 𝓛 𝓜 𝓡 wired =
    let c = f.clauses 𝓛 𝓜.mem 𝓡.returns in let W = walk_of 𝓛 f.ended stayed c in let 𝓣 = tables 𝓤 𝓛.H 𝓜 𝓡 𝓡.env in
    proved 𝓛 f.ended stayed c 𝓜 𝓡 (Goes-dropped 𝓛 0 (plain (λ _. Lo)) yes (λ κs x w. refl), (Goes-dropped 𝓛 0 (plain (λ _. Lo)) yes (λ κs x w. refl), tt))
    f.Key.name code.function (code.unfolded 𝓤 𝓛.H 𝓜 𝓡 wired)
    (λ κs. (lone_words, (lone_words, tt))) (λ κs. (L-laws.lowers.val_is, (L-laws.lowers.val_is, tt))) (λ κs qs bounds args _ are.
    let p = args.0 in let q = args.1.0 in let a : Global = p.alloc in let hv : Val = heap.lowered a in
    let y : W.Ghost = ((κs, qs, bounds, args, (lone_words p, (lone_words q, tt))), tt) in
    let body : Body = record { end = q.at; cell = p.value.body.cell } in
    let before : Ptr = p.value.prev in let z : Next = (q.value.next, true) in
    let items = (p.at, body) ∷ (q.at, q.value.body) ∷ [] in
    let new : Chain = record {
      head = p.at;
      tail = q.at;
      at = p.at;
      alloc = a;
      items = items;
      place = 0;
      before = before;
      after = q.value.next;
      here = (omega arith, refl);
      first = (omega arith, refl);
      ending = refl;
    } in
    let fits : HeapFits a = lone_heap p (lone_words p) are.0 in
    let fine = ((heap.the_row_laws.lawful 𝓛).typed a (hv ∷ []) fits).0 in
    qed 𝓛 ((‵ ftrue ⊛ ‵ (Lo.own_val p (lone_words p)) ⊛ ‵ (Lo.own_val q (lone_words q)) ⊛ ‵ ftrue) ∷ ‵ ftrue ∷ []) ∵
    split ! $ move ! (1 ∷ []) $ split3 ! $ keep ! (0 ∷ 1 ∷ []) $
    enter ! _ _ _ _ _ $ alloc_all ! (λ l. pass_all ! refl (((L-laws.the_row_laws.lawful 𝓛).typed p (lone_words p) are.0).0, (((L-laws.the_row_laws.lawful 𝓛).typed q (lone_words q) are.1.0).0, tt)) $
    fsplit ! $ drop ! $ lone_opens ! a p.at p.value (λ pb po ep goodp. move ! (2 ∷ []) $ fsplit ! $ drop ! $ lone_opens ! a q.at q.value (λ qb qo eq goodq.
    sets ! (is ! (of_opd ! (get_in ! (fld ! refl (stop !)) (sub ! 0 refl (whole !)))) (ap ptr_val ep)) refl (tt, tt) $
    sets ! (of_opd ! (get_in ! (fld ! refl (stop !)) (sub ! 1 refl (whole !)))) refl fine $
    sets ! (is ! (of_opd ! (get_in ! (fld ! refl (stop !)) (sub ! 0 refl (whole !)))) (ap ptr_val eq)) refl (tt, tt) $
    first ! $ blocks ! $
    assigns ! (of_opd ! (get ! refl)) (through ! refl (fld ! refl (stop !))) (store_in ! 2 (sub ! 0 refl (whole !)) (tt, tt)) $
    assigns ! (of_opd ! (false_lit !)) (through ! refl (fld ! refl (stop !))) (store_in ! 2 (sub ! 1 refl (whole !)) (tt, tt)) $
    assigns ! (of_opd ! (get ! refl)) (through ! refl (fld ! refl (fld ! refl (stop !)))) (store_in ! 2 (sub ! 0 refl (sub ! 3 refl (whole !))) (tt, tt)) $
    assigns ! (of_opd ! (get ! refl)) (through ! refl (fld ! refl (stop !))) (store_in ! 0 (sub ! 2 refl (whole !)) (tt, tt)) $
    assigns_last ! (of_opd ! (true_lit !)) (through ! refl (fld ! refl (stop !))) (store_in ! 0 (sub ! 1 refl (whole !)) (tt, tt)) $
    exec ! 𝓣.C 𝓣.Λ (env code.Mir.locals l) (after 4 (code.function).body) (at_ret _ (W.post y)) $
    sets ! (agg ! (and_then ! (get ! refl) (and_then ! (get ! refl) (and_then ! (get ! refl) (and_then ! (get ! refl) (no_more !)))))) refl (tt, (tt, (tt, (tt, (fine.1, tt))))) $
    rewrite ! 0 (λ r. ‵ (held (node z r q.value.body) qb qo)) (sym ep) refl $ rewrite ! 2 (λ r. ‵ (held (node (r, false) before (record { end = r; cell = p.value.body.cell })) pb po)) (sym eq) refl $
    lone_closes ! a q.at (node z p.at q.value.body) qb qo eq (node_fits z p.at q.value.body (body_fits q.value goodq)) $ move ! (1 ∷ 2 ∷ []) $
    lone_closes ! a p.at (node (q.at, false) before body) pb po ep (node_fits (q.at, false) before body (body_with q.at p.value.body (body_fits p.value goodp))) $
    nothing ! $ move ! (2 ∷ 0 ∷ []) $ fjoin ! $ move ! (1 ∷ 0 ∷ []) $ fjoin ! $ use1 𝓛 (‵ (Owned new)) (id⊢ 𝓤 _) $ chain_made ! new fits $ rewrite ! 0
    (λ (r : Ptr × Ptr). ‵ (Ch.own_val new (vstruct (vcons (ptr_val r.0) (vcons (ptr_val r.1) (vcons (ptr_val r.0) (vcons hv vnil)))) ∷ []))) (λ i. (ep i, eq i)) refl $
    returns ! (look_at ! 0 refl) $ free_all ! refl $ keep ! (0 ∷ []) $
    suffices ! _ (ends_at 𝓛 f.ended stayed c y (vstruct (vcons (vptr pb po) (vcons (vptr qb qo) (vcons (vptr pb po) (vcons hv vnil))))) new (tt, (tt, tt)) (tt, (tt, tt))) $ says ! (refl, refl) $
    nothing ! $ nothing ! $ join ! $ nothing ! $ join ! $ nothing ! $ done !))))
