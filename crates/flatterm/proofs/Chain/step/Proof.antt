-- `step` follows the `next` of the cell at the place.
use mathlib.Core.Bool.{true, false}
use Prim.Native.Nat.{◌+◌, ◌<◌}
use lib.ListN.{length}
use Rattle.flatterm.proofs.Steps.{fact, raw, heard, ◌≡◌, [], ◌∷◌, ◌++◌, refl, sym, ap, ◌∙◌, proved, after, full_share, id⊢, ftrue, flft, vunit, tables, ‵, ◌⊛◌, at_ret, ◌$◌, ◌∵◌, ! }
use Rattle.flatterm.proofs.Steps.{qed, done, move, keep, use1, use2, split, join, fsplit, fsplit3, fjoin, feq_i, rewrite, suffices, frame, group, enter, of_opd, unit_lit, load}
use Rattle.flatterm.proofs.Steps.{stop, fld, hop, assigns_last, first, blocks, exec, returns, alloc_all, pass_all, free_all, look_at, get, through, sets, env, whole, sub, look_in}
use Rattle.flatterm.proofs.Steps.{store_in, Ptr, lies_at, in_a_block, MutRef, mut_vals, mut_Tells, named, plain, nothing, Stays, walk_of, says, stay_ref, Goes-ref, ends_at}
use denote.Memory.{cell_at}
use Rattle.std.proofs.RcSteps.{Ptr-Good}
use Rattle.flatterm.specs.declared.Node.{Node}
use Rattle.flatterm.specs.declared.Chain.{Chain}
use Rattle.flatterm.specs.Cells.{Next, follow, node, chain, last_from}
use Rattle.flatterm.proofs.Memory.{N, Ch, node_out, node_in, chain_cut, chain_glue, words_at, chain_opens, chain_closes}
use Rattle.flatterm.proofs.Places.{cut_at, more_at}
use Rattle.flatterm.specs.contracts.Chain.step as f
use Rattle.flatterm.proofs.Chain.step.Statement.{statement}
use Rattle.flatterm.proofs.Chain.step.Code as code

abbrev stayed : Stays f.ended.signature.params f.ended.kept
stayed = (stay_ref (0 ∷ []) tt (plain (λ _. Ch)), tt)

pub step_spec : {M : Type 1} → statement M
step_spec 𝓤 𝓛 𝓜 𝓡 wired =
    let c = f.clauses 𝓛 𝓜.mem 𝓡.returns in let W = walk_of 𝓛 f.ended stayed c in let 𝓣 = tables 𝓤 𝓛.H 𝓜 𝓡 𝓡.env in
    proved 𝓛 f.ended stayed c 𝓜 𝓡 (Goes-ref 𝓛 1 0 tt (plain (λ _. Ch)), tt)
    f.Key.name code.function (code.unfolded 𝓤 𝓛.H 𝓜 𝓡 wired)
    (λ κs. (mut_vals, tt)) (λ κs. (mut_Tells (named 0) κs.0 Ch, tt)) (λ κs qs bounds a _ are.
    let κ = κs.0 in let q = qs.0 in let r = a.0 in let rb = r.ref_ptr.0 in let ro = r.ref_ptr.1 in let d = r.now in
    let y : W.Ghost = ((κs, qs, bounds, a, (mut_vals r, tt)), tt) in
    qed 𝓛 (((‵ (flft κ q) ⊛ ‵ ftrue) ⊛ ‵ ((MutRef (named 0) κ Ch).own_val r (mut_vals r)) ⊛ ‵ ftrue) ∷ raw (fact 𝓤 (d.place + 1 < length d.items)) ∷ []) ∵
    move ! (1 ∷ []) $ heard ! _ (λ less.
    let k = cut_at d.items d.place d.at d.here in
    let m = more_at d.items d.place d.at k less in
    let z : Next = (d.after, true) in
    let n : Node = node (follow k.ys z) (last_from d.before k.xs) k.cell.1 in
    split ! $ split ! $ move ! (2 ∷ []) $ split ! $ keep ! (0 ∷ 2 ∷ []) $
    enter ! _ _ _ _ _ $ alloc_all ! (λ l. pass_all ! refl ((tt, tt), tt) $
    fsplit3 ! $ move ! (1 ∷ 2 ∷ 3 ∷ []) $ chain_opens ! tt d rb ro (λ fits.
    rewrite ! 0 (λ cs. ‵ (chain d.alloc d.before cs z)) k.whole refl $
    use1 𝓛 (‵ (chain d.alloc d.before k.xs (k.cell.0, false)) ⊛ ‵ (chain d.alloc (last_from d.before k.xs) (k.cell ∷ k.ys) z))
    (chain_cut 𝓛 d.alloc d.before k.xs (k.cell ∷ k.ys) z) $ split ! $ move ! (1 ∷ []) $ fsplit ! $ fsplit ! $
    in_a_block ! k.cell.0 (λ p. lies_at N full_share p n) (id⊢ 𝓤 _) (λ b o e. node_out ! n b o (λ good.
    let to : Ptr = (follow k.ys z).0 in
    let there : to ≡ m.cell.0 = ap (λ cs. (follow cs z).0) m.whole in
    let new : Chain = record {
      head = d.head;
      tail = d.tail;
      at = m.cell.0;
      alloc = d.alloc;
      items = d.items;
      place = d.place + 1;
      before = d.before;
      after = d.after;
      here = m.next;
      first = d.first;
      ending = d.ending;
    } in
    let Word = λ (p : Ptr). ‵ (cell_at full_share Ch.mir (words_at d p) rb ro) in
    -- [the cell; its token; those after it; those before it; the struct's cell; the open borrow, in three; the rest of self]
    rewrite ! 4 Word (sym k.at ∙ e) refl $
    first ! $ blocks ! $
    sets ! (of_opd ! (load ! (through ! refl (fld ! refl (hop ! (look_in ! 4 (sub ! 2 refl (whole !))) (fld ! refl (stop !))))) (look_in ! 0 (sub ! 0 refl (whole !))))) refl (Ptr-Good to) $
    assigns_last ! (of_opd ! (get ! refl)) (through ! refl (fld ! refl (stop !))) (store_in ! 4 (sub ! 2 refl (whole !)) (Ptr-Good to)) $
    exec ! 𝓣.C 𝓣.Λ (env code.Mir.locals l) (after 1 (code.function).body) (at_ret _ (W.post y)) $
    sets ! (of_opd ! (unit_lit !)) refl (tt, tt) $
    rewrite ! 4 Word there refl $ node_in ! n b o good $ rewrite ! 0 (λ (p : Ptr). ‵ (lies_at N full_share p n)) (sym e) refl $ fjoin ! $ fjoin ! $ move ! (1 ∷ 0 ∷ []) $
    use2 𝓛 (‵ (chain d.alloc d.before (k.xs ++ k.cell ∷ k.ys) z)) (chain_glue 𝓛 d.alloc d.before k.xs (k.cell ∷ k.ys) z) $ rewrite ! 0 (λ cs. ‵ (chain d.alloc d.before cs z)) (sym k.whole) refl $
    chain_closes ! tt new rb ro fits $
    returns ! (look_at ! 0 refl) $ free_all ! refl $ move ! (3 ∷ []) $
    suffices ! _ (ends_at 𝓛 f.ended stayed c y vunit tt (new, tt) (tt, tt)) $ says ! (refl, refl) $
    group ! 3 $ nothing ! $ move ! (1 ∷ 0 ∷ []) $ join ! $ nothing ! $ move ! (2 ∷ 0 ∷ []) $ join ! $ frame ! $ frame ! $
    feq_i ! _ (vunit ∷ []) _ refl $ done !))))))
