-- `pop` takes the first cell out.
use mathlib.Core.Bool.{true, false}
use Prim.Native.Nat.{◌<◌}
use lib.ListN.{length}
use Rattle.flatterm.proofs.Steps.{arith, fact, raw, heard, ◌≡◌, List, [], ◌∷◌, refl, sym, ap, subst, ◌∙◌, proved, after, full_share, ftrue, fat, flft, tables, ‵, ◌⊛◌, at_ret, ◌$◌}
use Rattle.flatterm.proofs.Steps.{◌∵◌, !, qed, done, move, keep, use1, split, join, fsplit, fsplit3, fjoin, feq_i, rewrite, suffices, frame, enter, of_opd, load, stop, fld}
use Rattle.flatterm.proofs.Steps.{assigns, assigns_last, no_more, and_then, is, agg, vptr, null_ptr, first, blocks, exec, returns, alloc_all, pass_all, free_all, look_at, get}
use Rattle.flatterm.proofs.Steps.{through, sets, env, whole, sub, look_in, store_in, Ptr, block_ptr, ptr_val, MutRef, mut_vals, mut_Tells, named, plain, nothing, Stays, walk_of}
use Rattle.flatterm.proofs.Steps.{says, stay_ref, Goes-ref, ends_at}
use denote.Memory.{cell_at}
use mir.Val.{Val}
use Rattle.std.proofs.RcSteps.{Ptr-Good}
use Rattle.flatterm.specs.declared.Body.{Body}
use Rattle.flatterm.specs.declared.Node.{Node}
use Rattle.flatterm.specs.declared.Chain.{Chain}
use Rattle.flatterm.specs.declared.lone.LoneCell.{LoneCell}
use Rattle.flatterm.proofs.lone.LoneCell.TheLaws as L-laws
use Rattle.flatterm.specs.Cells.{Next, node, chain, last_from}
use Rattle.flatterm.proofs.Memory.{Ch, words, chain_opens, chain_closes, lone_opens, lone_made}
use types.Kit.{fjoin3}
use Rattle.std.proofs.alloc.Global.TheLaws as heap
use Rattle.flatterm.proofs.Chain.TheLaws as C-laws
use Rattle.flatterm.specs.Cells.{IsAt}
use Rattle.flatterm.specs.Laid.{Items}
use Rattle.flatterm.proofs.Subterms.{is_at, same_at, uncons}
use Rattle.flatterm.specs.contracts.Chain.pop as f
use Rattle.flatterm.proofs.Chain.pop.Statement.{statement}
use Rattle.flatterm.proofs.Chain.pop.Code as code

abbrev stayed : Stays f.ended.signature.params f.ended.kept
stayed = (stay_ref (0 ∷ []) tt (plain (λ _. Ch)), tt)

pub pop_spec : {M : Type 1} → statement M
pop_spec 𝓤 𝓛 𝓜 𝓡 wired =
    let c = f.clauses 𝓛 𝓜.mem 𝓡.returns in let W = walk_of 𝓛 f.ended stayed c in let 𝓣 = tables 𝓤 𝓛.H 𝓜 𝓡 𝓡.env in
    proved 𝓛 f.ended stayed c 𝓜 𝓡 (Goes-ref 𝓛 1 0 tt (plain (λ _. Ch)), tt)
    f.Key.name code.function (code.unfolded 𝓤 𝓛.H 𝓜 𝓡 wired)
    (λ κs. (mut_vals, tt)) (λ κs. (mut_Tells (named 0) κs.0 Ch, tt)) (λ κs qs bounds args _ are.
    let κ = κs.0 in let q = qs.0 in let r = args.0 in let rb = r.ref_ptr.0 in let ro = r.ref_ptr.1 in let d = r.now in
    let y : W.Ghost = ((κs, qs, bounds, args, (mut_vals r, tt)), tt) in
    qed 𝓛 (((‵ (flft κ q) ⊛ ‵ ftrue) ⊛ ‵ ((MutRef (named 0) κ Ch).own_val r (mut_vals r)) ⊛ ‵ ftrue) ∷ raw (fact 𝓤 (1 < length d.items)) ∷ []) ∵
    move ! (1 ∷ []) $ heard ! _ (λ less.
    let a = d.alloc in
    let z : Next = (d.after, true) in
    let one = uncons d.items (omega arith) in
    let size = ap length one.whole in
    let two = uncons one.back (omega arith) in
    let C : Ptr × Body = one.cell in let E : Ptr × Body = two.cell in let ys : Items = two.back in
    let items : d.items ≡ C ∷ E ∷ ys = one.whole ∙ ap (λ cs. C ∷ cs) two.whole in
    let n : Node = node (E.0, false) d.before C.1 in
    let headed : d.head ≡ C.0 = sym (same_at [] C (E ∷ ys) d.head (subst (λ cs. IsAt cs 0 d.head) items d.first)) in
    let begun : IsAt (E ∷ ys) 0 E.0 = is_at [] E ys in
    let new : Chain = record {
      head = E.0;
      tail = d.tail;
      at = E.0;
      alloc = a;
      items = E ∷ ys;
      place = 0;
      before = C.0;
      after = d.after;
      here = begun;
      first = begun;
      ending = sym (ap (last_from null_ptr) items) ∙ d.ending;
    } in
    split ! $ split ! $ move ! (2 ∷ []) $ split ! $ keep ! (0 ∷ 2 ∷ []) $
    enter ! _ _ _ _ _ $ alloc_all ! (λ l. pass_all ! refl ((tt, tt), tt) $
    fsplit3 ! $ move ! (1 ∷ 2 ∷ 3 ∷ []) $ chain_opens ! tt d rb ro (λ fits.
    let hv : Val = heap.lowered a in let fine = ((heap.the_row_laws.lawful 𝓛).typed a (hv ∷ []) fits).0 in
    rewrite ! 0 (λ cs. ‵ (chain a d.before cs z)) items refl $ fsplit ! $ lone_opens ! a C.0 n (λ b o e good.
    -- [the first cell, with its right; the others; the struct's cell; ..]
    sets ! (is ! (of_opd ! (load ! (through ! refl (fld ! refl (stop !))) (look_in ! 3 (sub ! 0 refl (whole !))))) (ap ptr_val (headed ∙ e))) refl (tt, tt) $
    first ! $ blocks ! $
    sets ! (of_opd ! (load ! (through ! refl (fld ! refl (stop !))) (look_in ! 0 (sub ! 0 refl (whole !))))) refl (Ptr-Good E.0) $
    assigns ! (of_opd ! (get ! refl)) (through ! refl (fld ! refl (stop !))) (store_in ! 3 (sub ! 0 refl (whole !)) (Ptr-Good E.0)) $
    assigns_last ! (of_opd ! (get ! refl)) (through ! refl (fld ! refl (stop !))) (store_in ! 3 (sub ! 2 refl (whole !)) (Ptr-Good E.0)) $
    exec ! 𝓣.C 𝓣.Λ (env code.Mir.locals l) (after 2 (code.function).body) (at_ret _ (W.post y)) $
    move ! (3 ∷ []) $ use1 𝓛 (‵ (fat full_share C-laws.mir rb ro (C-laws.lowered new))) (𝓛.laws.raw_at full_share C-laws.mir rb ro (C-laws.lowered new)) $
    sets ! (of_opd ! (load ! (through ! refl (fld ! refl (stop !))) (look_in ! 0 (sub ! 3 refl (whole !))))) refl fine $
    use1 𝓛 (‵ (cell_at full_share Ch.mir (words new) rb ro)) (𝓛.laws.at_raw full_share C-laws.mir rb ro (C-laws.lowered new)) $ move ! (1 ∷ 2 ∷ 3 ∷ []) $
    sets ! (agg ! (and_then ! (get ! refl) (and_then ! (get ! refl) (no_more !)))) refl (tt, (tt, (fine.1, tt))) $
    let out : LoneCell = record { at = block_ptr b o; alloc = a; value = n } in
    lone_made ! a C.0 n b o e good fits $
    move ! (1 ∷ 2 ∷ 3 ∷ 4 ∷ 5 ∷ []) $ chain_closes ! tt new rb ro fits $
    returns ! (look_at ! 0 refl) $ free_all ! refl $ keep ! (0 ∷ 1 ∷ 2 ∷ 3 ∷ []) $
    suffices ! _ (ends_at 𝓛 f.ended stayed c y (L-laws.lowered out) out (new, tt) (tt, tt)) $ says ! (items ∙ (λ i. (e i, C.1) ∷ E ∷ ys), refl) $
    nothing ! $ move ! (3 ∷ 0 ∷ []) $ join ! $ frame ! $ feq_i ! (List Val) (vptr rb ro ∷ []) (vptr rb ro ∷ []) refl $ fjoin3 ! $ nothing ! $ move ! (1 ∷ 0 ∷ []) $ fjoin ! $ done !)))))
