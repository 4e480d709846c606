-- `into_lone` takes the only cell.
use mathlib.Core.Bool.{true}
use lib.ListN.{length}
use Rattle.flatterm.proofs.Steps.{arith, fact, raw, heard, ◌≡◌, List, [], ◌∷◌, refl, sym, ap, subst, ◌∙◌, proved, ftrue, tables, ‵, ◌⊛◌, ◌$◌, ◌∵◌, !, qed, done, move, keep, drop}
use Rattle.flatterm.proofs.Steps.{split, join, fsplit, rewrite, suffices, enter, of_opd, stop, fld, no_more, and_then, is, agg, Is, returns, alloc_all, pass_all, free_all, look_at}
use Rattle.flatterm.proofs.Steps.{get, sets, whole, sub, Ptr, block_ptr, ptr_val, plain, nothing, Stays, walk_of, says, ends_at}
use mir.Val.{Val}
use Rattle.flatterm.specs.declared.Body.{Body}
use Rattle.flatterm.specs.declared.Node.{Node}
use Rattle.flatterm.specs.Cells.{Next, node, chain}
use Rattle.flatterm.proofs.Memory.{Ch, words, HeapFits, lone_opens, lone_made}
use types.ByLocal.{get_in}
use denote.Triple.Walked.{stay_dropped, Goes-dropped}
use denote.Exit.{yes}
use Rattle.std.specs.contracts.alloc.Global as Heap
use Rattle.std.proofs.alloc.Global.TheLaws as heap
use Rattle.flatterm.proofs.Chain.TheLaws as C-laws
use Rattle.flatterm.specs.declared.lone.LoneCell.{LoneCell}
use Rattle.flatterm.proofs.lone.LoneCell.TheLaws as L-laws
use Rattle.flatterm.specs.Cells.{IsAt}
use Rattle.flatterm.specs.Laid.{Items}
use Rattle.flatterm.proofs.Subterms.{same_at, uncons}
use Rattle.flatterm.specs.contracts.Chain.into_lone as f
use Rattle.flatterm.proofs.Chain.into_lone.Statement.{statement}
use Rattle.flatterm.proofs.Chain.into_lone.Code as code

none : (cs : Items) → length cs ≡ 0 → cs ≡ []
none [] h = refl
none (c ∷ cs) h = absurd (omega (arith, h))

abbrev stayed : Stays f.ended.signature.params f.ended.kept
stayed = (stay_dropped (plain (λ _. Ch)) yes, tt)

pub into_lone_spec : {M : Type 1} → statement M
into_lone_spec 𝓤 𝓛 𝓜 𝓡 wired =
    let c = f.clauses 𝓛 𝓜.mem 𝓡.returns in let W = walk_of 𝓛 f.ended stayed c in let 𝓣 = tables 𝓤 𝓛.H 𝓜 𝓡 𝓡.env in
    proved 𝓛 f.ended stayed c 𝓜 𝓡 (Goes-dropped 𝓛 0 (plain (λ _. Ch)) yes (λ κs x w. refl), tt)
    f.Key.name code.function (code.unfolded 𝓤 𝓛.H 𝓜 𝓡 wired)
    (λ κs. (words, tt)) (λ κs. (C-laws.lowers.val_is, tt)) (λ κs qs bounds args _ are.
    let d = args.0 in let a = d.alloc in let hv : Val = heap.lowered a in
    let y : W.Ghost = ((κs, qs, bounds, args, (words d, tt)), tt) in
    qed 𝓛 ((‵ ftrue ⊛ ‵ (Ch.own_val d (words d)) ⊛ ‵ ftrue) ∷ raw (fact 𝓤 (length d.items ≡ 1)) ∷ []) ∵
    move ! (1 ∷ []) $ heard ! _ (λ less.
    let z : Next = (d.after, true) in
    let one = uncons d.items (omega (arith, less)) in
    let C : Ptr × Body = one.cell in
    let items : d.items ≡ C ∷ [] = one.whole ∙ ap (λ cs. C ∷ cs) (none one.back (omega (arith, less, ap length one.whole))) in
    let n : Node = node z d.before C.1 in
    let headed : d.head ≡ C.0 = sym (same_at [] C [] d.head (subst (λ cs. IsAt cs 0 d.head) items d.first)) in
    let is_heap = are.0.0.1.1.1.1.1.0 in
    let fits : HeapFits a = subst (λ (vs : List Val). Is Heap.the_row a vs) (heap.lowers.val_is a are.0.0.0.1.1.1.0 is_heap) is_heap in
    let fine = ((heap.the_row_laws.lawful 𝓛).typed a (hv ∷ []) fits).0 in
    split ! $ move ! (1 ∷ []) $ split ! $ keep ! (0 ∷ []) $
    enter ! _ _ _ _ _ $ alloc_all ! (λ l. pass_all ! refl (((C-laws.the_row_laws.lawful 𝓛).typed d (words d) are.0).0, tt) $
    fsplit ! $ drop ! $ rewrite ! 0 (λ cs. ‵ (chain a d.before cs z)) items refl $ fsplit ! $ lone_opens ! a C.0 n (λ b o e good.
    sets ! (is ! (of_opd ! (get_in ! (fld ! refl (stop !)) (sub ! 0 refl (whole !)))) (ap ptr_val (headed ∙ e))) refl (tt, tt) $
    sets ! (of_opd ! (get_in ! (fld ! refl (stop !)) (sub ! 3 refl (whole !)))) refl fine $
    sets ! (agg ! (and_then ! (get ! refl) (and_then ! (get ! refl) (no_more !)))) refl (tt, (tt, (fine.1, tt))) $
    let out : LoneCell = record { at = block_ptr b o; alloc = a; value = n } in
    lone_made ! a C.0 n b o e good fits $
    returns ! (look_at ! 0 refl) $ free_all ! refl $ keep ! (0 ∷ []) $
    suffices ! _ (ends_at 𝓛 f.ended stayed c y (L-laws.lowered out) out (tt, tt) (tt, tt)) $ says ! (items ∙ (λ i. (e i, C.1) ∷ [])) $
    nothing ! $ nothing ! $ join ! $ nothing ! $ done !))))
