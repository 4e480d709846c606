-- `read` copies the cell at the place.
use mathlib.Core.Bool.{true}
use Prim.Native.Nat.{◌+◌}
use lib.ListN.{length}
use Rattle.flatterm.proofs.Steps.{[], ◌∷◌, refl, sym, ap, subst, ◌∙◌, proved, after, ftrue, flft, fst∗, never, tables, ‵, ◌⊛◌, at_ret, ◌$◌, ◌∵◌, !, qed, done, move, keep, drop}
use Rattle.flatterm.proofs.Steps.{use1, split, join, fsplit, fjoin, rewrite, suffices, frame, enter, of_opd, load, look, look_raw, stop, fld, first, blocks, exec, returns}
use Rattle.flatterm.proofs.Steps.{alloc_all, pass_all, free_all, look_at, get, through, sets, sets_last, env, Is, ptr_val, in_a_block, ShrRef, shr_vals, shr_Tells, shared_of}
use Rattle.flatterm.proofs.Steps.{lent_at, hide, named, plain, nothing, owned, Stays, walk_of, says, stay_dropped, Goes-dropped, ends_at}
use denote.Builtin.{RefOf}
use denote.Exit.{yes}
use types.Logic.{sem}
use Rattle.flatterm.specs.declared.Node.{Node}
use Rattle.flatterm.specs.Cells.{Next, follow, node, chain_lent, last_from}
use Rattle.flatterm.proofs.Memory.{N, Ch, cell_seen, word_taken, word_given, chain_Seen, cell_in, cell_out, node_good}
use types.ByLocal.{is}
use denote.Struct.Laws.{makes}
use Rattle.flatterm.specs.contracts.Node as N-type
use Rattle.flatterm.proofs.Node.TheLaws as N-laws
use Rattle.flatterm.specs.Cells.{IsNodeAt}
use Rattle.flatterm.proofs.Places.{cut_at, node_is}
use Rattle.flatterm.specs.contracts.Chain.read as f
use Rattle.flatterm.proofs.Chain.read.Statement.{statement}
use Rattle.flatterm.proofs.Chain.read.Code as code

abbrev stayed : Stays f.ended.signature.params f.ended.kept
stayed = (stay_dropped (RefOf (0 ∷ []) tt (plain (λ _. Ch)) (λ _. tt)) yes, tt)

pub read_spec : {M : Type 1} → statement M
read_spec 𝓤 𝓛 𝓜 𝓡 wired =
    let c = f.clauses 𝓛 𝓜.mem 𝓡.returns in let W = walk_of 𝓛 f.ended stayed c in let 𝓣 = tables 𝓤 𝓛.H 𝓜 𝓡 𝓡.env in
    proved 𝓛 f.ended stayed c 𝓜 𝓡 (Goes-dropped 𝓛 1 (RefOf (0 ∷ []) tt (plain (λ _. Ch)) (λ _. tt)) yes (λ κs x w. refl), tt)
    f.Key.name code.function (code.unfolded 𝓤 𝓛.H 𝓜 𝓡 wired)
    (λ κs. (shr_vals, tt)) (λ κs. (shr_Tells (named 0) κs.0 Ch, tt)) (λ κs qs bounds a _ are.
    let κ = κs.0 in let q = qs.0 in let r = a.0 in let rb = r.ref_ptr.0 in let ro = r.ref_ptr.1 in let d = r.now in
    let y : W.Ghost = ((κs, qs, bounds, a, (shr_vals r, tt)), tt) in
    let k = cut_at d.items d.place d.at d.here in
    let z : Next = (d.after, true) in
    let n : Node = node (follow k.ys z) (last_from d.before k.xs) k.cell.1 in
    let told : IsNodeAt d.before d.items z d.place n = subst (λ i. IsNodeAt d.before d.items z i n) k.long
    (subst (λ cs. IsNodeAt d.before cs z (length k.xs) n) (sym k.whole) (node_is d.before k.xs k.cell k.ys z)) in
    qed 𝓛 (((‵ (flft κ q) ⊛ ‵ ftrue) ⊛ ‵ ((ShrRef (named 0) κ Ch).own_val r (shr_vals r)) ⊛ ‵ ftrue) ∷ ‵ ftrue ∷ []) ∵
    split ! $ split ! $ move ! (2 ∷ []) $ split ! $ keep ! (0 ∷ 2 ∷ []) $
    enter ! _ _ _ _ _ $ alloc_all ! (λ l. pass_all ! refl ((tt, tt), tt) $
    fsplit ! $ drop ! $ chain_Seen ! d rb ro $ move ! (1 ∷ []) $
    rewrite ! 0 (λ cs. ‵ (chain_lent d.before cs z κ)) k.whole refl $ use1 𝓛 (‵ (lent_at N k.cell.0 n κ)) (cell_seen 𝓛 κ d.before k.xs k.cell k.ys z) $
    in_a_block ! k.cell.0 (λ p. lent_at N p n κ) (fst∗ 𝓤 (never 𝓤) (sem 𝓛 (shared_of N n 0 0 κ))) (λ b o e. fsplit ! $ drop ! $ hide ! $
    -- [the cell; `at`; the token]
    move ! (1 ∷ 2 ∷ []) $ word_taken ! tt rb (ro + 16) d.at (λ s.
    sets ! (is ! (of_opd ! (load ! (through ! refl (fld ! refl (stop !))) (look ! 0 refl))) (ap ptr_val (sym k.at ∙ e))) refl (tt, tt) $ word_given ! tt rb (ro + 16) d.at $
    move ! (1 ∷ 0 ∷ []) $ cell_in ! tt n b o (λ part good.
    first ! $ blocks ! $ sets_last ! (of_opd ! (load ! (through ! refl (stop !)) (look_raw ! 0 refl))) refl (node_good 𝓛 n good) $
    exec ! 𝓣.C 𝓣.Λ (env code.Mir.locals l) (after 2 (code.function).body) (at_ret _ (W.post y)) $
    sets ! (of_opd ! (get ! refl)) refl (node_good 𝓛 n good) $ cell_out ! tt n b o good $
    returns ! (look_at ! 0 refl) $ free_all ! refl $ keep ! (0 ∷ []) $
    owned ! N (Is N) (makes N-type.the_type N-laws.the_plain 𝓛) n (N-laws.lowered n ∷ []) good $
    suffices ! _ (ends_at 𝓛 f.ended stayed c y (N-laws.lowered n) n (tt, tt) (tt, tt)) $ says ! told $
    nothing ! $ move ! (2 ∷ 0 ∷ []) $ join ! $ frame ! $ nothing ! $ nothing ! $ fjoin ! $ done !)))))
