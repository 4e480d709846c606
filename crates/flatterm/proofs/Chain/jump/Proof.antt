-- `jump` follows the `end` of the cell at the place.
use mathlib.Core.Bool.{true, false}
use Prim.Native.Nat.{◌+◌}
use lib.ListN.{length}
use Rattle.flatterm.proofs.Steps.{fact, raw, heard, [], ◌∷◌, ◌++◌, refl, sym, ◌∙◌, proved, after, full_share, id⊢, ftrue, flft, vunit, tables, ‵, ◌⊛◌, at_ret, ◌$◌, ◌∵◌, !, qed}
use Rattle.flatterm.proofs.Steps.{done, move, keep, use1, use2, split, join, fsplit, fsplit3, fjoin, feq_i, rewrite, suffices, frame, group, enter, of_opd, unit_lit, load, stop}
use Rattle.flatterm.proofs.Steps.{fld, hop, assigns_last, first, blocks, exec, returns, alloc_all, pass_all, free_all, look_at, get, through, sets, env, whole, sub, look_in}
use Rattle.flatterm.proofs.Steps.{store_in, Ptr, lies_at, in_a_block, MutRef, mut_vals, mut_Tells, named, plain, nothing, Stays, walk_of, says, stay_ref, Goes-ref, ends_at}
use denote.Memory.{cell_at}
use Rattle.std.proofs.RcSteps.{Ptr-Good}
use Rattle.flatterm.specs.declared.Body.{Body}
use Rattle.flatterm.specs.declared.Node.{Node}
use Rattle.flatterm.specs.declared.Chain.{Chain}
use Rattle.flatterm.specs.Cells.{Next, follow, node, chain, last_from}
use Rattle.flatterm.proofs.Memory.{N, Ch, node_out, node_in, chain_cut, chain_glue, words_at, chain_opens, chain_closes}
use Rattle.flatterm.specs.Laid.{Items, begins, ends, BeginsAt}
use Rattle.flatterm.proofs.Subterms.{opened, jumps_to}
use Rattle.flatterm.specs.contracts.Chain.jump as f
use Rattle.flatterm.proofs.Chain.jump.Statement.{statement}
use Rattle.flatterm.proofs.Chain.jump.Code as code

abbrev stayed : Stays f.ended.signature.params f.ended.kept
stayed = (stay_ref (0 ∷ []) tt (plain (λ _. Ch)), tt)

pub jump_spec : {M : Type 1} → statement M
jump_spec 𝓤 𝓛 𝓜 𝓡 wired =
    let c = f.clauses 𝓛 𝓜.mem 𝓡.returns in let W = walk_of 𝓛 f.ended stayed c in let 𝓣 = tables 𝓤 𝓛.H 𝓜 𝓡 𝓡.env in
    proved 𝓛 f.ended stayed c 𝓜 𝓡 (Goes-ref 𝓛 1 0 tt (plain (λ _. Ch)), tt)
    f.Key.name code.function (code.unfolded 𝓤 𝓛.H 𝓜 𝓡 wired)
    (λ κs. (mut_vals, tt)) (λ κs. (mut_Tells (named 0) κs.0 Ch, tt)) (λ κs qs bounds a _ are.
    let κ = κs.0 in let q = qs.0 in let r = a.0 in let rb = r.ref_ptr.0 in let ro = r.ref_ptr.1 in let d = r.now in
    let y : W.Ghost = ((κs, qs, bounds, a, (mut_vals r, tt)), tt) in
    qed 𝓛 (((‵ (flft κ q) ⊛ ‵ ftrue) ⊛ ‵ ((MutRef (named 0) κ Ch).own_val r (mut_vals r)) ⊛ ‵ ftrue) ∷ raw (fact 𝓤 (BeginsAt d.items d.place)) ∷ []) ∵
    move ! (1 ∷ []) $ heard ! _ (λ w.
    let u = opened d.items d.place d.at d.here w in
    let there = jumps_to d.items d.place d.at w u in
    let cell : Ptr × Body = begins u.from u.q u.cell in
    let ys : Items = u.inner ++ ends u.q u.e ∷ w.back in
    let z : Next = (d.after, true) in
    let n : Node = node (follow ys z) (last_from d.before w.front) cell.1 in
    split ! $ split ! $ move ! (2 ∷ []) $ split ! $ keep ! (0 ∷ 2 ∷ []) $
    enter ! _ _ _ _ _ $ alloc_all ! (λ l. pass_all ! refl ((tt, tt), tt) $
    fsplit3 ! $ move ! (1 ∷ 2 ∷ 3 ∷ []) $ chain_opens ! tt d rb ro (λ fits.
    rewrite ! 0 (λ cs. ‵ (chain d.alloc d.before cs z)) u.whole refl $
    use1 𝓛 (‵ (chain d.alloc d.before w.front (cell.0, false)) ⊛ ‵ (chain d.alloc (last_from d.before w.front) (cell ∷ ys) z))
    (chain_cut 𝓛 d.alloc d.before w.front (cell ∷ ys) z) $ split ! $ move ! (1 ∷ []) $ fsplit ! $ fsplit ! $
    in_a_block ! cell.0 (λ p. lies_at N full_share p n) (id⊢ 𝓤 _) (λ b o e. node_out ! n b o (λ good.
    let new : Chain = record {
      head = d.head;
      tail = d.tail;
      at = u.q;
      alloc = d.alloc;
      items = d.items;
      place = d.place + length u.inner + 1;
      before = d.before;
      after = d.after;
      here = there.0;
      first = d.first;
      ending = d.ending;
    } in
    let Word = λ (p : Ptr). ‵ (cell_at full_share Ch.mir (words_at d p) rb ro) in
    -- [the cell; its token; those after it; those before it; the struct's cell; the open borrow, in three; the rest of self]
    rewrite ! 4 Word (sym u.at ∙ e) refl $
    first ! $ blocks ! $
    sets ! (of_opd ! (load ! (through ! refl (fld ! refl (hop ! (look_in ! 4 (sub ! 2 refl (whole !))) (fld ! refl (fld ! refl (stop !))))))
    (look_in ! 0 (sub ! 0 refl (sub ! 3 refl (whole !)))))) refl (Ptr-Good u.q) $
    assigns_last ! (of_opd ! (get ! refl)) (through ! refl (fld ! refl (stop !))) (store_in ! 4 (sub ! 2 refl (whole !)) (Ptr-Good u.q)) $
    exec ! 𝓣.C 𝓣.Λ (env code.Mir.locals l) (after 1 (code.function).body) (at_ret _ (W.post y)) $
    sets ! (of_opd ! (unit_lit !)) refl (tt, tt) $
    node_in ! n b o good $ rewrite ! 0 (λ (p : Ptr). ‵ (lies_at N full_share p n)) (sym e) refl $ fjoin ! $ fjoin ! $ move ! (1 ∷ 0 ∷ []) $
    use2 𝓛 (‵ (chain d.alloc d.before (w.front ++ cell ∷ ys) z)) (chain_glue 𝓛 d.alloc d.before w.front (cell ∷ ys) z) $ rewrite ! 0 (λ cs. ‵ (chain d.alloc d.before cs z)) (sym u.whole) refl $
    chain_closes ! tt new rb ro fits $
    returns ! (look_at ! 0 refl) $ free_all ! refl $ move ! (3 ∷ []) $
    suffices ! _ (ends_at 𝓛 f.ended stayed c y vunit tt (new, tt) (tt, tt)) $ says ! (refl, there.1) $
    group ! 3 $ nothing ! $ move ! (1 ∷ 0 ∷ []) $ join ! $ nothing ! $ move ! (2 ∷ 0 ∷ []) $ join ! $ frame ! $ frame ! $
    feq_i ! _ (vunit ∷ []) _ refl $ done !))))))
